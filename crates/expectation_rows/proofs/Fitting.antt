-- The rows of a filter ask and write what rows of a port may, and aren't many.
use Rattle.std.proofs.Common.{◌≡◌, ℕ, ◌+◌, ◌*◌, ◌≤◌, ◌==◌, Bool, true, false, ◌&&◌, List, [], ◌∷◌, ◌++◌, Option, Some, None, arith, refl, ap, sym, length, length-append, min, nat_le, nat_lt, ◌∙◌}
use Rattle.std.specs.Prelude.{All, IsTrue}
use Rattle.std.proofs.lemmas.Bool.{and_from, and_parts, eq-eqb, le-leb}
use Rattle.std.proofs.lemmas.List.Elements.{All-append, All-cons, All-nil}
use Rattle.tag_view.specs.Tag.{customer_tpid, is_tag_type, service_tpid}
use Rattle.vlan_rule.specs.declared.filter.PriorityFilter.{PriorityFilter}
use Rattle.vlan_rule.specs.declared.filter.PriorityFilter.TheVariants as priority
use Rattle.vlan_rule.specs.declared.filter.VidFilter.{VidFilter}
use Rattle.vlan_rule.specs.declared.filter.VidFilter.TheVariants as vid
use Rattle.vlan_rule.specs.declared.settings.TableSettings.{TableSettings}
use Rattle.vlan_rule.specs.declared.treatment.AddedTag.{AddedTag}
use Rattle.vlan_rule.specs.declared.treatment.Retag.{Retag}
use Rattle.vlan_rule.specs.declared.treatment.TpidSource.{TpidSource}
use Rattle.vlan_rule.specs.declared.treatment.Treatment.TheVariants as change
use Rattle.vlan_rule.specs.Meaning.{addition_fits, treatment_fits}
use Rattle.treatment.specs.Compiled.{takes_dscp}
use Rattle.frame_rows.specs.declared.row.Row.{Row}
use Rattle.frame_rows.specs.declared.source.DscpSource.{DscpSource}
use Rattle.frame_rows.specs.Ask.{priority_ask, vid_ask}
use Rattle.frame_rows.specs.Fits.{asks_number, asks_type, ends_fit, marking_fits, row_fits, source_fits}
use Rattle.frame_rows.specs.Rows.{IsMarked, marking_of}
use Rattle.frame_expectation.specs.declared.filter.TypeCondition.{TypeCondition}
use Rattle.frame_expectation.specs.declared.filter.TypeCondition.TheVariants as type
use Rattle.frame_expectation.specs.declared.wanted.WantedRetag.{WantedRetag}
use Rattle.frame_expectation.specs.declared.wanted.WantedTag.{WantedTag}
use Rattle.frame_expectation.specs.declared.wanted.WantedTreatment.{WantedTreatment}
use Rattle.frame_expectation.specs.declared.wanted.WantedTreatment.TheVariants as treatment
use Rattle.expectation_rows.specs.declared.filter.Asked.{Asked}
use Rattle.expectation_rows.specs.Rows.{eligible_ask, filter_rows, here_rows, last_row, may_have_none, may_have_one, may_have_two, none_row, none_rows, of_each, offered, one_row, one_rows, priority_for, retag_or_keep, rows_with_one, rows_with_two, source_by, third_ask, two_row, two_rows, type_ask}
use Rattle.expectation_rows.specs.Wanted.{added_with, retag_for, retag_with, slot_for, source_for}
use Rattle.expectation_rows.proofs.Offered.{All-of_each, All-offered}

-- ---- what is asked

type_fits : (input : ℕ) (condition : TypeCondition) → asks_type input (type_ask input condition) ≡ true
type_fits input (type.Class class) = eq-eqb input input refl
type_fits input (type.Exactly only) = refl

third_fits : (input : ℕ) (condition : TypeCondition) → asks_type input (third_ask condition) ≡ true
third_fits input (type.Class class) = refl
third_fits input (type.Exactly only) = refl

vid_fits : (f : VidFilter) → asks_number (vid_ask f) ≡ true
vid_fits vid.Any = refl
vid_fits (vid.Exactly v) = refl

priority_fits : (f : PriorityFilter) → asks_number (priority_ask f) ≡ true
priority_fits priority.Any = refl
priority_fits (priority.Exactly p) = refl

eligible_fits : (eligible : Option Bool) → asks_number (eligible_ask eligible) ≡ true
eligible_fits None = refl
eligible_fits (Some true) = refl
eligible_fits (Some false) = refl

-- ---- which tags leave

added_fits : (added new : AddedTag) (tpid : Option ℕ) (settings : TableSettings) (outer inner : ℕ) → addition_fits (Some added) ≡ true
    → added_with added tpid settings outer inner ≡ Some new → addition_fits (Some new) ≡ true
added_fits added new None settings outer inner fits is = same is
  where
    same : Some added ≡ Some new → addition_fits (Some new) ≡ true
    same e = ap addition_fits (sym e) ∙ fits
added_fits added new (Some number) settings outer inner fits is = by_source (source_for number settings outer inner) refl
  where
    by_source : (source : Option TpidSource) → source_for number settings outer inner ≡ source → addition_fits (Some new) ≡ true
    by_source None none = absurd (never (rw none at is))
      where
        never : None ≡ Some new → ⊥
        never e = cc
    by_source (Some source) some = same (rw some at is)
      where
        same : Some (record added { tpid = source }) ≡ Some new → addition_fits (Some new) ≡ true
        same e = ap addition_fits (sym e) ∙ fits

slot_fits : (wanted : Option WantedTag) (slot : Option AddedTag) (settings : TableSettings) (outer inner : ℕ)
    → slot_for wanted settings outer inner ≡ Some slot → addition_fits slot ≡ true
slot_fits None slot settings outer inner is = same is
  where
    same : Some None ≡ Some slot → addition_fits slot ≡ true
    same e = rw (same_slot e) refl
      where
        same_slot : Some None ≡ Some slot → slot ≡ None
        same_slot e = cc
slot_fits (Some wanted) slot settings outer inner is = by_added (added_with wanted.added wanted.tpid settings outer inner) refl
  where
    by_added : (added : Option AddedTag) → added_with wanted.added wanted.tpid settings outer inner ≡ added → addition_fits slot ≡ true
    by_added None none = absurd (never (rw none at is))
      where
        never : None ≡ Some slot → ⊥
        never e = cc
    by_added (Some added) some = same (rw some at is)
      where
        same : Some (Some added) ≡ Some slot → addition_fits slot ≡ true
        same e =
            let is_added : slot ≡ Some added = cc in
            ap addition_fits is_added ∙ added_fits wanted.added added wanted.tpid settings outer inner wanted.fits some

few_removed : (remove : ℕ) → nat_le (min remove 2) 2 ≡ true
few_removed remove = le-leb (min remove 2) 2 (omega arith)

retag_fits : (by : WantedTreatment) (settings : TableSettings) (outer inner : ℕ)
    → treatment_fits (change.Retag (retag_or_keep (retag_for by settings outer inner))) ≡ true
retag_fits treatment.Any settings outer inner = refl
retag_fits treatment.Unchanged settings outer inner = refl
retag_fits (treatment.Retag wanted) settings outer inner =
    by_slots (slot_for wanted.outer settings outer inner) (slot_for wanted.inner settings outer inner) refl refl
  where
    by_slots : (first second : Option (Option AddedTag)) → slot_for wanted.outer settings outer inner ≡ first
        → slot_for wanted.inner settings outer inner ≡ second
        → treatment_fits (change.Retag (retag_or_keep (retag_with wanted.remove first second))) ≡ true
    by_slots (Some first) (Some second) p q =
        let one = slot_fits wanted.outer first settings outer inner p in
        let two = slot_fits wanted.inner second settings outer inner q in
        rw (few_removed wanted.remove, one, two) refl
    by_slots (Some first) None p q = refl
    by_slots None second p q = refl

marking_is : (retag : Retag) (settings : TableSettings) (tags : ℕ) → nat_lt tags 3 ≡ true → marking_fits (marking_of (change.Retag retag) settings tags) ≡ true
marking_is retag settings tags few = by_asked (takes_dscp (change.Retag retag)) refl
  where
    by_asked : (b : Bool) → takes_dscp (change.Retag retag) ≡ b → marking_fits (marking_of (change.Retag retag) settings tags) ≡ true
    by_asked true is = rw is few
    by_asked false is = rw is refl

source_is : (dscp : Option ℕ) (tags priority : ℕ) → nat_lt tags 3 ≡ true → source_fits (source_by dscp tags priority) ≡ true
source_is None tags priority few = refl
source_is (Some dscp) tags priority few = few

-- ---- rows

abbrev Fits : Asked → Row → Type 0
Fits asked row = IsTrue (row_fits asked.settings.input_tpid row)

none_fits : (asked : Asked) → Fits asked (none_row asked)
none_fits asked =
    let retag = retag_for asked.treatment asked.settings customer_tpid customer_tpid in
    rw (
      type_fits asked.settings.input_tpid asked.filter.ethertype,
      source_is asked.filter.dscp 0 (priority_for retag) refl,
      marking_is (retag_or_keep retag) asked.settings 0 refl,
      retag_fits asked.treatment asked.settings customer_tpid customer_tpid,
    ) refl

one_fits : (asked : Asked) (tpid : ℕ) → is_tag_type asked.settings.input_tpid tpid ≡ true → Fits asked (one_row asked tpid)
one_fits asked tpid begins =
    let retag = retag_for asked.treatment asked.settings tpid tpid in
    rw (
      type_fits asked.settings.input_tpid asked.filter.ethertype,
      vid_fits asked.filter.inner.vid,
      priority_fits asked.filter.inner.priority,
      eligible_fits asked.filter.inner.eligible,
      source_is asked.filter.dscp 1 (priority_for retag) refl,
      marking_is (retag_or_keep retag) asked.settings 1 refl,
      begins,
      retag_fits asked.treatment asked.settings tpid tpid,
    ) refl

two_fits : (asked : Asked) (outer inner : ℕ) → is_tag_type asked.settings.input_tpid outer ≡ true
    → is_tag_type asked.settings.input_tpid inner ≡ true → Fits asked (two_row asked outer inner)
two_fits asked outer inner begins begins' =
    let retag = retag_for asked.treatment asked.settings outer inner in
    rw (
      third_fits asked.settings.input_tpid asked.filter.ethertype,
      vid_fits asked.filter.outer.vid,
      vid_fits asked.filter.inner.vid,
      priority_fits asked.filter.outer.priority,
      priority_fits asked.filter.inner.priority,
      eligible_fits asked.filter.outer.eligible,
      eligible_fits asked.filter.inner.eligible,
      source_is asked.filter.dscp 2 (priority_for retag) refl,
      marking_is (retag_or_keep retag) asked.settings 2 refl,
      begins,
      begins',
      retag_fits asked.treatment asked.settings outer inner,
    ) refl

-- what holds of each row of a filter
all_rows : (P : Row → Type 0) (asked : Asked) → P (none_row asked)
    → ((tpid : ℕ) → is_tag_type asked.settings.input_tpid tpid ≡ true → P (one_row asked tpid))
    → ((outer inner : ℕ) → is_tag_type asked.settings.input_tpid outer ≡ true → is_tag_type asked.settings.input_tpid inner ≡ true → P (two_row asked outer inner))
    → P last_row → All P (here_rows asked)
all_rows P asked none one two last =
    let input = asked.settings.input_tpid in
    All-append P (filter_rows asked) (last_row ∷ [])
    (All-append P (none_rows asked) _ (All-offered P (may_have_none asked) (none_row asked) (λ may. none))
    (All-append P (one_rows asked) (two_rows asked)
    (All-of_each P input (rows_with_one asked) (λ tpid begins. All-offered P (may_have_one asked tpid) (one_row asked tpid) (λ may. one tpid begins)))
    (All-of_each P input (λ outer. of_each input (rows_with_two asked outer)) (λ outer begins.
    All-of_each P input (rows_with_two asked outer) (λ inner begins'.
    All-offered P (may_have_two asked outer inner) (two_row asked outer inner) (λ may. two outer inner begins begins'))))))
    (All-cons P last_row [] last (All-nil P))

pub here_fits : (asked : Asked) → All (Fits asked) (here_rows asked)
here_fits asked = all_rows (Fits asked) asked (none_fits asked) (one_fits asked) (two_fits asked) refl

pub last_fits : (asked : Asked) → All (Fits asked) (last_row ∷ [])
last_fits asked = All-cons (Fits asked) last_row [] refl (All-nil (Fits asked))

pub here_marked : (asked : Asked) → All (IsMarked asked.settings) (here_rows asked)
here_marked asked = all_rows (IsMarked asked.settings) asked refl (λ tpid begins. refl) (λ outer inner begins begins'. refl) refl

pub last_marked : (settings : TableSettings) → All (IsMarked settings) (last_row ∷ [])
last_marked settings = All-cons (IsMarked settings) last_row [] refl (All-nil (IsMarked settings))

-- ---- how many

few_offered : (is_offered : Bool) (row : Row) → length (offered is_offered row) ≤ 1
few_offered true row = omega arith
few_offered false row = omega arith

few_of_each : (most input : ℕ) (rows : ℕ → List Row) → ((tpid : ℕ) → length (rows tpid) ≤ most) → length (of_each input rows) ≤ 3 * most
few_of_each most input rows h =
    let first = h customer_tpid in
    let second = h service_tpid in
    let third = h input in
    omega (arith, length-append (rows customer_tpid) (rows service_tpid ++ rows input), length-append (rows service_tpid) (rows input))

pub here_few : (asked : Asked) → length (here_rows asked) ≤ 134
here_few asked =
    let input = asked.settings.input_tpid in
    let none = few_offered (may_have_none asked) (none_row asked) in
    let one = few_of_each 1 input (rows_with_one asked) (λ tpid. few_offered (may_have_one asked tpid) (one_row asked tpid)) in
    let two = few_of_each 3 input (λ outer. of_each input (rows_with_two asked outer)) (λ outer.
    few_of_each 1 input (rows_with_two asked outer) (λ inner. few_offered (may_have_two asked outer inner) (two_row asked outer inner))) in
    omega (
      arith,
      length-append (filter_rows asked) (last_row ∷ []),
      length-append (none_rows asked) (one_rows asked ++ two_rows asked),
      length-append (one_rows asked) (two_rows asked),
    )
