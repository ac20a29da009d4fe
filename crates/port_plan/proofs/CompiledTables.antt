-- What is kept of a table, as it is made and as it is used.
use Rattle.std.proofs.Common.{◌≡◌, ◌≢◌, ◌==◌, ℕ, ◌+◌, ◌<◌, ◌≤◌, Bool, true, false, List, [], ◌∷◌, ◌++◌, length, Option, Some, None, Err, refl, ap, sym, subst, ◌∙◌, arith, inl, inr, length-append, get_or-set_other, get_or-set_same}
use Rattle.std.specs.Prelude.{All, slice_get, slice_set}
use Rattle.std.specs.Option.{option_map_or}
use Rattle.std.proofs.lemmas.Bool.{and_parts, cases_eq, cases_lt, eqb-true, true≢false}
use Rattle.std.proofs.lemmas.List.{length-map, length-set}
use Rattle.std.proofs.lemmas.Option.{get_or_from_slice_get, none-some, same_Some, slice_get-get_or, slice_get_within}
use Rattle.std.proofs.Math.ListN.{get_or, get_or-append}
use Rattle.std.proofs.Math.Seq.{get_or-append_seam}
use Rattle.tag_view.specs.Tag.{TagFields, IsInRange}
use Rattle.tag_view.specs.Dscp.{dscp_of}
use Rattle.tag_view.specs.Frame.{Reading, type_at}
use Rattle.vlan_rule.specs.declared.settings.TableSettings.{TableSettings}
use Rattle.vlan_rule.specs.declared.filter.Filter.{Filter}
use Rattle.vlan_rule.specs.declared.filter.Filter.TheVariants as filter
use Rattle.vlan_rule.specs.declared.rule.Rule.{Rule}
use Rattle.vlan_rule.specs.declared.treatment.Treatment.{Treatment}
use Rattle.vlan_rule.specs.Choice.{IsChoice, IsChosen, are_tags, choice, entry_at, has_type, matches}
use Rattle.vlan_rule.specs.Meaning.{ethertype_of, filter_of, treatment_of}
use Rattle.vlan_rule.specs.Rule.{IsRuleOf}
use Rattle.vlan_rule.proofs.Chosen.{chosen_once}
use Rattle.rule_index.specs.declared.row.Row.{Row}
use Rattle.rule_index.specs.Filters.{tags_in}
use Rattle.rule_index.specs.Followed.{IsTreated}
use Rattle.rule_index.specs.Head.{FrameHead, head_of}
use Rattle.rule_index.specs.Order.{order_of, rows_of}
use Rattle.rule_index.proofs.Found.{no_more_rows}
use Rattle.rule_index.proofs.Sorted.{is_order}
use Rattle.treatment.specs.Compiled.{Compiled, Treats, asks_dscp}
use Rattle.treatment.specs.Treatment.{treated}
use Rattle.frame_meaning.specs.declared.reason.Reason.TheVariants.{NoRule, RuleDiscard}
use Rattle.frame_meaning.specs.Meaning.{Table, entry_for, tags_by}
use Rattle.port_plan.specs.CompiledTable.{AreTreats, IsTreatIn, NoneAsks, SomeAsks}
use Rattle.frame_meaning.proofs.Tables.{discarded, no_rule}

-- ---- lists

-- with one more element, what was held stays, and the element is the last
held_before : {A : Type 0} (l : List A) (x y : A) (k : ℕ) → slice_get l k ≡ Some y → slice_get (l ++ x ∷ []) k ≡ Some y
held_before l x y k held =
    let within : k < length l = slice_get_within l k y held in
    slice_get-get_or (l ++ x ∷ []) k y (omega (arith, length-append l (x ∷ [])))
    ∙ ap Some (get_or-append l (x ∷ []) y k within ∙ get_or_from_slice_get l k y y held)

held_last : {A : Type 0} (l : List A) (x : A) → slice_get (l ++ x ∷ []) (length l) ≡ Some x
held_last l x = slice_get-get_or (l ++ x ∷ []) (length l) x (omega (arith, length-append l (x ∷ []))) ∙ ap Some (get_or-append_seam l x [] x)

-- what is held is before a place where nothing is
pub before_past : {A : Type 0} (l : List A) (k n : ℕ) (x : A) → None ≡ slice_get l n → slice_get l k ≡ Some x → k < n
before_past l k n x past held = elim (cases_lt k n) [
  | inl before ↦ before
  | inr after ↦
      let within : k < length l = slice_get_within l k x held in
      absurd (none-some _ (past ∙ slice_get-get_or l n x (omega arith)))
]

-- ---- the treatments, as they are compiled

-- those of the first entries in their order
abbrev pub AreFirstTreats : TableSettings → List (List ℕ) → List (Option Compiled) → ℕ → Type 0
AreFirstTreats settings entries treats n =
    (number place : ℕ) → number < n → slice_get (order_of entries) number ≡ Some place → IsTreatIn settings treats number (entry_at entries place)

-- no treatment yet
pub treats_none : (settings : TableSettings) (entries : List (List ℕ)) (treats : List (Option Compiled)) → AreFirstTreats settings entries treats 0
treats_none settings entries treats number place before = absurd (omega arith)

-- what a rule is compiled to is what its entry is
pub of_rule : (settings : TableSettings) (entry : List ℕ) (rule : Rule) (treat : Option Compiled) → IsRuleOf entry rule
    → Treats rule.treatment settings (tags_in rule.filter) treat → Treats (treatment_of entry) settings (tags_in (filter_of entry)) treat
of_rule settings entry rule treat is right =
    subst (λ (f : Filter). Treats (treatment_of entry) settings (tags_in f) treat) is.filter
    (subst (λ (t : Treatment). Treats t settings (tags_in rule.filter) treat) is.treatment right)

-- one more
pub treats_more : (settings : TableSettings) (entries : List (List ℕ)) (old : List (Option Compiled)) (n place : ℕ) (rule : Rule) (treat : Option Compiled)
    → length old ≡ n → Some place ≡ slice_get (order_of entries) n → IsRuleOf (entry_at entries place) rule
    → Treats rule.treatment settings (tags_in rule.filter) treat
    → AreFirstTreats settings entries old n → AreFirstTreats settings entries (old ++ treat ∷ []) (n + 1)
treats_more settings entries old n place rule treat len here is right before number at earlier held = elim (cases_eq number n) [
  | inl same ↦
      let there : slice_get (order_of entries) n ≡ Some at = rw same at held in
      let it : place ≡ at = same_Some _ _ (here ∙ there) in
      let last : slice_get (old ++ treat ∷ []) number ≡ Some treat =
      ap (λ (k : ℕ). slice_get (old ++ treat ∷ []) k) (same ∙ sym len) ∙ held_last old treat in
      record { treat = treat; held = last; right = rw (← it) (of_rule settings (entry_at entries place) rule treat is right) }
  | inr differs ↦
      let was = before number at (omega arith) held in
      record { treat = was.treat; held = held_before old treat was.treat number was.held; right = was.right }
]

-- ---- one treatment, as it is compiled again

set_held : {A : Type 0} (l : List A) (x : A) (k : ℕ) → k < length l → slice_get (slice_set l k x) k ≡ Some x
set_held l x k within =
    slice_get-get_or (slice_set l k x) k x (omega (arith, length-set l k x)) ∙ ap Some (get_or-set_same l k x x within)

set_other : {A : Type 0} (l : List A) (x y : A) (i k : ℕ) → k ≢ i → slice_get l k ≡ Some y → slice_get (slice_set l i x) k ≡ Some y
set_other l x y i k differs held =
    slice_get-get_or (slice_set l i x) k y (omega (arith, length-set l i x, slice_get_within l k y held))
    ∙ ap Some (get_or-set_other l i k x y differs ∙ get_or_from_slice_get l k y y held)

set_before : {A : Type 0} (l : List A) (x y : A) (i k : ℕ) → k ≢ i → slice_get (slice_set l i x) k ≡ Some y → slice_get l k ≡ Some y
set_before l x y i k differs held =
    slice_get-get_or l k y (omega (arith, length-set l i x, slice_get_within (slice_set l i x) k y held))
    ∙ ap Some (sym (get_or-set_other l i k x y differs) ∙ get_or_from_slice_get (slice_set l i x) k y y held)

-- the order of the entries before has the number too, and a treatment is held there
pub treated_within : (settings : TableSettings) (old new : List (List ℕ)) (treats : List (Option Compiled)) (number : ℕ) → IsTreated old new number
    → AreTreats settings old treats → number < length treats
treated_within settings old new treats number is are =
    let place = is.there in
    let was = are.each number place.0 (ap (λ (l : List ℕ). slice_get l number) (sym is.order) ∙ place.1) in
    slice_get_within treats number was.treat was.held

pub treats_set : (settings : TableSettings) (old new : List (List ℕ)) (treats : List (Option Compiled)) (number place : ℕ) (rule : Rule) (treat : Option Compiled)
    → Some place ≡ slice_get (order_of new) number → IsRuleOf (entry_at new place) rule → Treats rule.treatment settings (tags_in rule.filter) treat
    → IsTreated old new number → AreTreats settings old treats → AreTreats settings new (slice_set treats number treat)
treats_set settings old new treats number place rule treat here is right treated are = record {
  few = omega (arith, length-set treats number treat, are.few);
  no_more = omega (arith, length-set treats number treat, are.no_more, ap (λ (l : List ℕ). length l) treated.order);
  each = each;
}
  where
    within : number < length treats
    within = treated_within settings old new treats number treated are

    each : (k at : ℕ) → slice_get (order_of new) k ≡ Some at → IsTreatIn settings (slice_set treats number treat) k (entry_at new at)
    each k at held = elim (cases_eq k number) [
      | inl same ↦
          let there : slice_get (order_of new) number ≡ Some at = rw same at held in
          let it : place ≡ at = same_Some _ _ (here ∙ there) in
          let set : slice_get (slice_set treats number treat) k ≡ Some treat = rw same (set_held treats treat number within) in
          record { treat = treat; held = set; right = rw (← it) (of_rule settings (entry_at new place) rule treat is right) }
      | inr differs ↦
          let was = are.each k at (ap (λ (l : List ℕ). slice_get l k) (sym treated.order) ∙ held) in
          record {
            treat = was.treat;
            held = set_other treats treat was.treat number k differs was.held;
            right = rw (treated.others k at differs held) was.right;
          }
    ]

-- where neither the others nor this one ask for the DSCP, none does
pub none_asks_set : (treats : List (Option Compiled)) (number : ℕ) (treat : Option Compiled) → number < length treats → option_map_or asks_dscp treat false ≡ false
    → NoneAsks treats → NoneAsks (slice_set treats number treat)
none_asks_set treats number treat within unasked before place compiled held = elim (cases_eq place number) [
  | inl same ↦
      let it : Some compiled ≡ treat = same_Some _ _ (sym (rw same at held) ∙ set_held treats treat number within) in
      let said : option_map_or asks_dscp (Some compiled) false ≡ false = rw (← it) at unasked in
      said
  | inr differs ↦ before place compiled (set_before treats treat (Some compiled) number place differs held)
]

-- where this one asks for it, some does
pub some_asks_set : (treats : List (Option Compiled)) (number : ℕ) (treat : Option Compiled) → number < length treats → option_map_or asks_dscp treat false ≡ true
    → SomeAsks (slice_set treats number treat)
some_asks_set treats number None within asks = absurd (true≢false (sym asks))
some_asks_set treats number (Some treat) within asks = (number, treat, set_held treats (Some treat) number within, asks)

-- the order has no more places than there are entries, and each place is that of an entry
pub order_few : (entries : List (List ℕ)) → length (order_of entries) ≤ length entries
order_few entries = omega (arith, length-map (rows_of entries) (λ (row : Row). row.place), no_more_rows entries)

pub order_within : (entries : List (List ℕ)) (n place : ℕ) → Some place ≡ slice_get (order_of entries) n → place < length entries
order_within entries n place held =
    let within : n < length (order_of entries) = slice_get_within (order_of entries) n place (sym held) in
    let is : get_or (order_of entries) n 0 ≡ place = get_or_from_slice_get (order_of entries) n place 0 (sym held) in
    omega (arith, (is_order entries).within n within)

-- all of them
pub treats_all : (settings : TableSettings) (entries : List (List ℕ)) (treats : List (Option Compiled)) (n : ℕ) → length treats ≡ n → n ≤ length (order_of entries) → length (order_of entries) ≤ 128
    → ((number place : ℕ) → slice_get (order_of entries) number ≡ Some place → number < n)
    → AreFirstTreats settings entries treats n → AreTreats settings entries treats
treats_all settings entries treats n len most few all first =
    record { few = omega arith; no_more = omega arith; each = λ number place held. first number place (all number place held) held }

pub all_to_end : (entries : List (List ℕ)) (n : ℕ) → length entries ≤ n → (number place : ℕ) → slice_get (order_of entries) number ≡ Some place → number < n
all_to_end entries n most number place held =
    let within : number < length (order_of entries) = slice_get_within (order_of entries) number place held in
    omega (arith, order_few entries)

pub all_to_none : (entries : List (List ℕ)) (n : ℕ) → None ≡ slice_get (order_of entries) n → (number place : ℕ) → slice_get (order_of entries) number ≡ Some place → number < n
all_to_none entries n none number place held = before_past (order_of entries) number n place none held

-- ---- the treatment of a frame

-- the tags of a frame are as many as the kind of an entry asks that is for it
pub tags_counted : (input : ℕ) (f : Filter) (tags : List TagFields) → are_tags input f tags ≡ true → length tags ≡ tags_in f
tags_counted input filter.NoTag tags is = eqb-true _ _ is
tags_counted input filter.OneTagDefault tags is = eqb-true _ _ is
tags_counted input (filter.OneTag inner) tags is = eqb-true _ _ (and_parts (length tags == 1) _ is).0
tags_counted input filter.TwoTagDefault tags is = eqb-true _ _ is
tags_counted input (filter.TwoTag outer inner) tags is = eqb-true _ _ (and_parts (length tags == 2) _ is).0

matched_counted : (input : ℕ) (tags : List TagFields) (type : ℕ) (entry : List ℕ) → matches input tags type entry ≡ true → length tags ≡ tags_in (filter_of entry)
unfolding matches
matched_counted input tags type entry is = tags_counted input (filter_of entry) tags (and_parts (are_tags input (filter_of entry) tags) (has_type (ethertype_of entry) type) is).0

-- the number of the entry that is used for a frame with a head, and 128 for none
pub record IsNumber (table : Table) (head : FrameHead) (n : ℕ) : Type 0 where
  pub used : slice_get (order_of table.entries) n ≡ choice (matches table.settings.input_tpid head.tags head.type) table.entries
  pub none : choice (matches table.settings.input_tpid head.tags head.type) table.entries ≡ None → n ≡ 128

-- a treatment is that of the entry that is used for a frame
pub record IsTreatOf (table : Table) (frame : Reading) (treat : Option Compiled) : Type 0 where
  pub entry : List ℕ
  pub used : entry_for table frame ≡ Some entry
  pub right : Treats (treatment_of entry) table.settings (length frame.tags) treat

abbrev used_entry : Table → Reading → Option ℕ
used_entry table frame = choice (matches table.settings.input_tpid frame.tags (type_at 0 frame.rest)) table.entries

entry_is : (table : Table) (frame : Reading) (place : ℕ) → used_entry table frame ≡ Some place → entry_for table frame ≡ Some (entry_at table.entries place)
unfolding entry_for
entry_is table frame place is = rw is refl

no_entry : (table : Table) (frame : Reading) → used_entry table frame ≡ None → entry_for table frame ≡ None
unfolding entry_for
no_entry table frame is = rw is refl

-- what is held at the number of the entry that is used
held_used : (table : Table) (frame : Reading) (treats : List (Option Compiled)) (n : ℕ) (treat : Option Compiled) → AreTreats table.settings table.entries treats
    → IsNumber table (head_of frame) n → slice_get treats n ≡ Some treat → IsTreatOf table frame treat
held_used table frame treats n treat are is held = by_case (used_entry table frame) refl
  where
    test : List ℕ → Bool
    test = matches table.settings.input_tpid frame.tags (type_at 0 frame.rest)

    by_case : (place : Option ℕ) → used_entry table frame ≡ place → IsTreatOf table frame treat
    by_case None none =
        let within : n < length treats = slice_get_within treats n treat held in
        let past : n ≡ 128 = is.none none in
        absurd (omega (arith, are.few))
    by_case (Some place) chosen =
        let at = are.each n place (is.used ∙ chosen) in
        let same : at.treat ≡ treat = same_Some _ _ (sym at.held ∙ held) in
        let choice_is : IsChosen (matches table.settings.input_tpid frame.tags (type_at 0 frame.rest)) table.entries place =
        subst (IsChoice (matches table.settings.input_tpid frame.tags (type_at 0 frame.rest)) table.entries) chosen
        (chosen_once.computed table.settings.input_tpid frame.tags (type_at 0 frame.rest) table.entries) in
        let entry = entry_at table.entries place in
        let count : length frame.tags ≡ tags_in (filter_of entry) =
        matched_counted table.settings.input_tpid frame.tags (type_at 0 frame.rest) entry choice_is.passes in
        record {
          entry = entry;
          used = entry_is table frame place chosen;
          right = subst (λ (k : ℕ). Treats (treatment_of entry) table.settings k treat) (sym count)
              (subst (λ (t : Option Compiled). Treats (treatment_of entry) table.settings (tags_in (filter_of entry)) t) same at.right);
        }

-- the same by the head of the frame
pub treat_used : (table : Table) (head : FrameHead) (treats : List (Option Compiled)) (n : ℕ) (treat : Option Compiled) → AreTreats table.settings table.entries treats
    → IsNumber table head n → slice_get treats n ≡ Some treat → (frame : Reading) → head_of frame ≡ head → IsTreatOf table frame treat
treat_used table head treats n treat are is held frame of =
    held_used table frame treats n treat are (subst (λ (h : FrameHead). IsNumber table h n) (sym of) is) held

-- where no treatment is held, no entry is used
pub no_treat : (table : Table) (head : FrameHead) (treats : List (Option Compiled)) (n : ℕ) → AreTreats table.settings table.entries treats
    → IsNumber table head n → slice_get treats n ≡ None → (frame : Reading) → head_of frame ≡ head → tags_by table frame ≡ Err NoRule
no_treat table head treats n are is held frame of = by_case (used_entry table frame) refl
  where
    by_case : (place : Option ℕ) → used_entry table frame ≡ place → tags_by table frame ≡ Err NoRule
    by_case None none = no_rule table frame (no_entry table frame none)
    by_case (Some place) chosen =
        let here = subst (λ (h : FrameHead). IsNumber table h n) (sym of) is in
        let at = are.each n place (here.used ∙ chosen) in
        absurd (none-some _ (sym held ∙ at.held))

-- where none is held for the entry that is used, it discards
pub treat_discards : (table : Table) (frame : Reading) → IsTreatOf table frame None → All IsInRange frame.tags → tags_by table frame ≡ Err RuleDiscard
unfolding treated
treat_discards table frame is range = discarded table frame is.entry is.used (is.right frame.tags (dscp_of frame.rest) refl range)

-- ---- a table of no entries

no_places : (entries : List (List ℕ)) → entries ≡ [] → (number place : ℕ) → slice_get (order_of entries) number ≡ Some place → ⊥
no_places entries none number place held =
    let within : number < length (order_of entries) = slice_get_within (order_of entries) number place held in
    omega (arith, order_few entries, ap (λ (l : List (List ℕ)). length l) none)

pub treats_of_none : (settings : TableSettings) (entries : List (List ℕ)) (treats : List (Option Compiled)) → entries ≡ [] → treats ≡ [] → AreTreats settings entries treats
treats_of_none settings entries treats none empty =
    record {
      few = omega (arith, ap (λ (l : List (Option Compiled)). length l) empty);
      no_more = omega (arith, ap (λ (l : List (Option Compiled)). length l) empty);
      each = λ number place held. absurd (no_places entries none number place held);
    }

pub none_asks : (treats : List (Option Compiled)) → treats ≡ [] → NoneAsks treats
none_asks treats empty place treat held =
    let within : place < length treats = slice_get_within treats place (Some treat) held in
    absurd (omega (arith, ap (λ (l : List (Option Compiled)). length l) empty))
