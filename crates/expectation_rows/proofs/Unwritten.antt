-- No treatment at a port writes a TPID that is none of those that it can write.
use Rattle.std.proofs.Common.{◌≡◌, ℕ, suc, ◌+◌, ◌*◌, ◌/◌, ◌%◌, ◌<◌, ◌≤◌, ◌^◌, ◌==◌, Bool, true, false, ◌&&◌, List, [], ◌∷◌, ◌++◌, Option, Some, None, Result, Ok, Err, append_assoc, arith, refl, ap, sym, subst, length, drop, get_or, min, ◌∙◌}
use Rattle.std.specs.Prelude.{All, nat_lt, ok_or}
use Rattle.std.specs.Option.{option_map_or}
use Rattle.std.specs.Str.{bytes_eq}
use Rattle.std.proofs.lemmas.Bool.{and_right, eq-eqb, false_from_ne_true, ltb-true, true≢false}
use Rattle.std.proofs.lemmas.List.Elements.{All-append, All-cons, All-drop, All-head, All-nil, All-tail}
use Rattle.std.proofs.lemmas.Slice.Eq.{bytes_eq-Decides}
use Rattle.tag_view.specs.Tag.{IsInRange, TagFields, customer_tpid, missing_tag, tag_bytes}
use Rattle.tag_view.specs.Frame.{Reading, frame_bytes, frame_of}
use Rattle.tag_view.specs.Dscp.{dscp_of}
use Rattle.vlan_rule.specs.declared.settings.TableSettings.{TableSettings}
use Rattle.vlan_rule.specs.declared.treatment.AddedTag.{AddedTag}
use Rattle.vlan_rule.specs.declared.treatment.Retag.{Retag}
use Rattle.vlan_rule.specs.declared.treatment.Treatment.{Treatment}
use Rattle.vlan_rule.specs.declared.treatment.Treatment.TheVariants as change
use Rattle.vlan_rule.specs.declared.treatment.TpidSource.{TpidSource}
use Rattle.vlan_rule.specs.declared.treatment.TpidSource.TheVariants as tpid
use Rattle.vlan_rule.specs.Meaning.{treatment_of}
use Rattle.treatment.specs.Treatment.{addition_from, additions_from, inner_of, left_of, outer_of, tag_from, tpid_from, treated, treated_by}
use Rattle.mib_state.specs.Entities.{Entities}
use Rattle.frame_meaning.specs.declared.reason.Reason.{Reason}
use Rattle.frame_meaning.specs.declared.reason.Reason.TheVariants.{NoRule, RuleDiscard}
use Rattle.frame_meaning.specs.declared.verdict.Verdict.TheVariants.{Forward}
use Rattle.frame_meaning.specs.Meaning.{Table, entry_for, forwarded_by, found_then, gem_port_at, input_tpid_of, meaning, table_at, tags_at, tags_by, verdict_of}
use Rattle.frame_rows.specs.Rows.{settings_by}
use Rattle.frame_expectation.specs.declared.wanted.WantedRetag.{WantedRetag}
use Rattle.frame_expectation.specs.declared.wanted.WantedTag.{WantedTag}
use Rattle.frame_expectation.specs.declared.wanted.WantedTreatment.TheVariants as treatment
use Rattle.frame_expectation.specs.Wanted.{added_wanted, tags_alike, tags_wanted, with_tpid}
use Rattle.frame_expectation.proofs.Leaving.{alike_bytes, leaves_whole}
use Rattle.expectation_rows.specs.Wanted.{added_with, retag_for, retag_with, slot_for, source_for}

-- ---- a number that isn't written

-- all that may be written have sixteen bits, and are another
record Differs (number : ℕ) (settings : TableSettings) (tags : List TagFields) : Type 0 where
  pub customer : customer_tpid ≡ number → ⊥
  pub output : settings.output_tpid ≡ number → ⊥
  pub outer : (outer_of tags).tpid ≡ number → ⊥
  pub inner : (inner_of tags).tpid ≡ number → ⊥
  pub output_fits : settings.output_tpid < 2 ^ 16
  pub tags_fit : All IsInRange tags
  pub two : length tags ≤ 2

differs : (number : ℕ) (settings : TableSettings) (tags : List TagFields)
    → source_for number settings (outer_of tags).tpid (inner_of tags).tpid ≡ None → settings.output_tpid < 2 ^ 16 → All IsInRange tags
    → length tags ≤ 2 → Differs number settings tags
differs number settings tags none fits range two =
    by_tests (number == customer_tpid) (number == settings.output_tpid) (number == (outer_of tags).tpid) (number == (inner_of tags).tpid)
    refl refl refl refl
  where
    apart : (other : ℕ) → (number == other) ≡ false → other ≡ number → ⊥
    apart other is e = true≢false (sym (eq-eqb number other (sym e)) ∙ is)

    by_tests : (a b c d : Bool) → (number == customer_tpid) ≡ a → (number == settings.output_tpid) ≡ b → (number == (outer_of tags).tpid) ≡ c
        → (number == (inner_of tags).tpid) ≡ d → Differs number settings tags
    by_tests true b c d p q r s = absurd (never (rw p at none))
      where
        never : Some tpid.Standard ≡ None → ⊥
        never e = cc
    by_tests false true c d p q r s = absurd (never (rw (p, q) at none))
      where
        never : Some tpid.Output ≡ None → ⊥
        never e = cc
    by_tests false false true d p q r s = absurd (never (rw (p, q, r) at none))
      where
        never : Some tpid.Outer ≡ None → ⊥
        never e = cc
    by_tests false false false true p q r s = absurd (never (rw (p, q, r, s) at none))
      where
        never : Some tpid.Inner ≡ None → ⊥
        never e = cc
    by_tests false false false false p q r s =
        record {
          customer = apart customer_tpid p;
          output = apart settings.output_tpid q;
          outer = apart (outer_of tags).tpid r;
          inner = apart (inner_of tags).tpid s;
          output_fits = fits;
          tags_fit = range;
          two = two;
        }

-- a tag that leaves, with another TPID
record IsOther (number : ℕ) (tag : TagFields) : Type 0 where
  pub fits : tag.tpid < 2 ^ 16
  pub differs : tag.tpid ≡ number → ⊥

-- ---- the tags that leave

outer_fits : (tags : List TagFields) → All IsInRange tags → (outer_of tags).tpid < 2 ^ 16
outer_fits [] h = omega arith
outer_fits (tag ∷ rest) h = (All-head IsInRange tag rest h).tpid

inner_fits : (tags : List TagFields) → All IsInRange tags → (inner_of tags).tpid < 2 ^ 16
inner_fits [] h = omega arith
inner_fits (tag ∷ []) h = (All-head IsInRange tag [] h).tpid
inner_fits (tag ∷ next ∷ rest) h = inner_fits (next ∷ rest) (All-tail IsInRange tag (next ∷ rest) h)

source_other : (number : ℕ) (settings : TableSettings) (tags : List TagFields) (source : TpidSource) → Differs number settings tags
    → (tpid_from source settings tags < 2 ^ 16) × (tpid_from source settings tags ≡ number → ⊥)
source_other number settings tags tpid.Inner d = (inner_fits tags d.tags_fit, d.inner)
source_other number settings tags tpid.Outer d = (outer_fits tags d.tags_fit, d.outer)
source_other number settings tags tpid.Output d = (d.output_fits, d.output)
source_other number settings tags tpid.Standard d = (omega arith, d.customer)

addition_other : (number : ℕ) (settings : TableSettings) (tags : List TagFields) (dscp : Option ℕ) (slot : Option AddedTag)
    → Differs number settings tags → All (IsOther number) (addition_from slot settings tags dscp)
addition_other number settings tags dscp None d = All-nil (IsOther number)
addition_other number settings tags dscp (Some added) d =
    let is = source_other number settings tags added.tpid d in
    All-cons (IsOther number) _ [] (record { fits = is.0; differs = is.1 }) (All-nil (IsOther number))

own_other : (number : ℕ) (settings : TableSettings) (tags : List TagFields) → Differs number settings tags → All (IsOther number) tags
own_other number settings [] d = All-nil (IsOther number)
own_other number settings (one ∷ []) d =
    All-cons (IsOther number) one [] (record { fits = (All-head IsInRange one [] d.tags_fit).tpid; differs = d.outer }) (All-nil (IsOther number))
own_other number settings (one ∷ two ∷ []) d =
    let behind = All-tail IsInRange one (two ∷ []) d.tags_fit in
    All-cons (IsOther number) one (two ∷ []) (record { fits = (All-head IsInRange one (two ∷ []) d.tags_fit).tpid; differs = d.outer })
    (All-cons (IsOther number) two [] (record { fits = (All-head IsInRange two [] behind).tpid; differs = d.inner }) (All-nil (IsOther number)))
own_other number settings (one ∷ two ∷ three ∷ rest) d = let few = d.two in absurd (omega arith)

treated_other : (number : ℕ) (settings : TableSettings) (tags out : List TagFields) (dscp : Option ℕ) (by : Treatment)
    → Differs number settings tags → ok_or (treated_by by settings tags dscp) RuleDiscard ≡ Ok out → All (IsOther number) out
unfolding treated_by
treated_other number settings tags out dscp change.Discard d is = absurd (never is)
  where
    never : ◌≡◌ {A = Result (List TagFields) Reason} (Err RuleDiscard) (Ok out) → ⊥
    never e = cc
treated_other number settings tags out dscp (change.Retag retag) d is = rw (same is) all
  where
    same : ◌≡◌ {A = Result (List TagFields) Reason} (Ok (additions_from retag settings tags dscp ++ left_of retag.remove tags)) (Ok out)
        → out ≡ additions_from retag settings tags dscp ++ left_of retag.remove tags
    same e = cc

    all : All (IsOther number) (additions_from retag settings tags dscp ++ left_of retag.remove tags)
    all =
        All-append (IsOther number) (additions_from retag settings tags dscp) (left_of retag.remove tags)
        (All-append (IsOther number) (addition_from retag.outer settings tags dscp) (addition_from retag.inner settings tags dscp)
        (addition_other number settings tags dscp retag.outer d) (addition_other number settings tags dscp retag.inner d))
        (All-drop (IsOther number) (min retag.remove (length tags)) tags (own_other number settings tags d))

tags_other : (number : ℕ) (table : Option Table) (frame : Reading) (out : List TagFields) → Differs number (settings_by table) frame.tags
    → tags_at table frame ≡ Ok out → All (IsOther number) out
unfolding tags_at tags_by treated
tags_other number None frame out d is = rw (same is) (own_other number (settings_by None) frame.tags d)
  where
    same : ◌≡◌ {A = Result (List TagFields) Reason} (Ok frame.tags) (Ok out) → out ≡ frame.tags
    same e = cc
tags_other number (Some table) frame out d is = by_entry (entry_for table frame) refl
  where
    by_entry : (entry : Option (List ℕ)) → entry_for table frame ≡ entry → All (IsOther number) out
    by_entry None none = absurd (never (rw none at is))
      where
        never : ◌≡◌ {A = Result (List TagFields) Reason} (Err NoRule) (Ok out) → ⊥
        never e = cc
    by_entry (Some entry) some =
        treated_other number table.settings frame.tags out (dscp_of frame.rest) (treatment_of entry) d (rw some at is)

-- ---- a frame that leaves

leaves_with_tags : (e : Entities) (port gem : ℕ) (frame out : Reading) (tags : Result (List TagFields) Reason)
    → verdict_of (found_then tags (λ tags. found_then (gem_port_at e port tags (dscp_of frame.rest)) (λ gem. Ok (gem, record frame { tags = tags }))))
    ≡ Forward gem out
    → tags ≡ Ok out.tags
leaves_with_tags e port gem frame out (Err reason) is = cc
leaves_with_tags e port gem frame out (Ok tags) is = ap (λ (t : List TagFields). Ok t) (by_gem (gem_port_at e port tags (dscp_of frame.rest)) is)
  where
    by_gem : (found : Result ℕ Reason) → verdict_of (found_then found (λ gem. Ok (gem, record frame { tags = tags }))) ≡ Forward gem out
        → tags ≡ out.tags
    by_gem (Err reason) h = cc
    by_gem (Ok number) h =
        let sent : record frame { tags = tags } ≡ out = cc in
        ap (λ (r : Reading). r.tags) sent

leaving_tags : (e : Entities) (port gem : ℕ) (bytes : List ℕ) (frame out : Reading) → frame_of (input_tpid_of (table_at e port)) bytes ≡ Ok frame
    → meaning e port bytes ≡ Forward gem out → tags_at (table_at e port) frame ≡ Ok out.tags
unfolding meaning forwarded_by
leaving_tags e port gem bytes frame out read leaves =
    let sent = rw read at leaves in
    leaves_with_tags e port gem frame out (tags_at (table_at e port) frame) sent

-- ---- tags with other bytes

two_same : (a b : ℕ) → a < 2 ^ 16 → b < 2 ^ 16 → a / 256 % 256 ≡ b / 256 % 256 → a % 256 ≡ b % 256 → a ≡ b
two_same a b fits fits' high low = omega arith

tag_apart : (number : ℕ) (tag bad : TagFields) → IsOther number tag → bad.tpid ≡ number → number < 2 ^ 16
    → bytes_eq (tag_bytes tag) (tag_bytes bad) ≡ false
tag_apart number tag bad other is fits =
    false_from_ne_true (bytes_eq (tag_bytes tag) (tag_bytes bad)) (λ h.
    let same : tag_bytes tag ≡ tag_bytes bad = (bytes_eq-Decides (tag_bytes tag) (tag_bytes bad)).0 h in
    let high : tag.tpid / 256 % 256 ≡ bad.tpid / 256 % 256 = ap (λ (xs : List ℕ). get_or xs 0 0) same in
    let low : tag.tpid % 256 ≡ bad.tpid % 256 = ap (λ (xs : List ℕ). get_or xs 1 0) same in
    let bad_fits : bad.tpid < 2 ^ 16 = omega arith in
    other.differs (two_same tag.tpid bad.tpid other.fits bad_fits high low ∙ is))

not_alike : (number : ℕ) (out front behind : List TagFields) (bad : TagFields) → All (IsOther number) out → bad.tpid ≡ number → number < 2 ^ 16
    → tags_alike out (front ++ (bad ∷ behind)) ≡ false
not_alike number [] [] behind bad all is fits = refl
not_alike number [] (tag ∷ front) behind bad all is fits = refl
not_alike number (one ∷ out) [] behind bad all is fits =
    ap (λ (b : Bool). b && tags_alike out behind) (tag_apart number one bad (All-head (IsOther number) one out all) is fits)
not_alike number (one ∷ out) (tag ∷ front) behind bad all is fits =
    and_right (bytes_eq (tag_bytes one) (tag_bytes tag)) (tags_alike out (front ++ (bad ∷ behind)))
    (not_alike number out front behind bad (All-tail (IsOther number) one out all) is fits)

-- ---- a tag that isn't written

record IsUnwritten (wanted : Option WantedTag) (settings : TableSettings) (outer inner : ℕ) : Type 0 where
  pub tag : WantedTag
  pub is : wanted ≡ Some tag
  pub number : ℕ
  pub names : tag.tpid ≡ Some number
  pub none : source_for number settings outer inner ≡ None
  pub fits : number < 2 ^ 16

unwritten : (wanted : Option WantedTag) (settings : TableSettings) (outer inner : ℕ) → slot_for wanted settings outer inner ≡ None
    → IsUnwritten wanted settings outer inner
unwritten None settings outer inner is = absurd (never is)
  where
    never : ◌≡◌ {A = Option (Option AddedTag)} (Some None) None → ⊥
    never e = cc
unwritten (Some tag) settings outer inner is = by_named tag.tpid refl
  where
    by_named : (named : Option ℕ) → tag.tpid ≡ named → IsUnwritten (Some tag) settings outer inner
    by_named None none = absurd (never (rw none at is))
      where
        never : ◌≡◌ {A = Option (Option AddedTag)} (Some (Some tag.added)) None → ⊥
        never e = cc
    by_named (Some number) some = by_source (source_for number settings outer inner) refl
      where
        by_source : (source : Option TpidSource) → source_for number settings outer inner ≡ source → IsUnwritten (Some tag) settings outer inner
        by_source None none =
            record { tag = tag; is = refl; number = number; names = some; none = none; fits = ltb-true number (2 ^ 16) (subst (λ (o : Option ℕ). option_map_or (λ n. nat_lt n (2 ^ 16)) o true ≡ true) some tag.tpid_fits) }
        by_source (Some source) found = absurd (never (rw (some, found) at is))
          where
            never : ◌≡◌ {A = Option (Option AddedTag)} (Some (Some (record tag.added { tpid = source }))) None → ⊥
            never e = cc

-- where one of the tags that are wanted stands
record HasUnwritten (wanted : WantedRetag) (settings : TableSettings) (tags : List TagFields) (dscp : Option ℕ) : Type 0 where
  pub number : ℕ
  pub fits : number < 2 ^ 16
  pub none : source_for number settings (outer_of tags).tpid (inner_of tags).tpid ≡ None
  pub front : List TagFields
  pub bad : TagFields
  pub behind : List TagFields
  pub named : bad.tpid ≡ number
  pub stands : tags_wanted wanted settings tags dscp ≡ front ++ (bad ∷ behind)

named_tpid : (named : Option ℕ) (number : ℕ) (tag : TagFields) → named ≡ Some number → (with_tpid named tag).tpid ≡ number
named_tpid named number tag is = rw is refl

has_unwritten : (wanted : WantedRetag) (settings : TableSettings) (tags : List TagFields) (dscp : Option ℕ)
    → retag_for (treatment.Retag wanted) settings (outer_of tags).tpid (inner_of tags).tpid ≡ None → HasUnwritten wanted settings tags dscp
has_unwritten wanted settings tags dscp is =
    by_slots (slot_for wanted.outer settings (outer_of tags).tpid (inner_of tags).tpid)
    (slot_for wanted.inner settings (outer_of tags).tpid (inner_of tags).tpid) refl refl
  where
    by_slots : (first second : Option (Option AddedTag)) → slot_for wanted.outer settings (outer_of tags).tpid (inner_of tags).tpid ≡ first
        → slot_for wanted.inner settings (outer_of tags).tpid (inner_of tags).tpid ≡ second → HasUnwritten wanted settings tags dscp
    by_slots (Some first) (Some second) p q = absurd (never (rw (p, q) at is))
      where
        never : ◌≡◌ {A = Option Retag} (Some (record { remove = min wanted.remove 2; outer = first; inner = second })) None → ⊥
        never e = cc
    by_slots (Some first) None p q =
        let bad = unwritten wanted.inner settings (outer_of tags).tpid (inner_of tags).tpid q in
        let tag = with_tpid bad.tag.tpid (tag_from bad.tag.added settings tags dscp) in
        record {
          number = bad.number;
          fits = bad.fits;
          none = bad.none;
          front = added_wanted wanted.outer settings tags dscp;
          bad = tag;
          behind = left_of wanted.remove tags;
          named = named_tpid bad.tag.tpid bad.number (tag_from bad.tag.added settings tags dscp) bad.names;
          stands =
              ap (λ (w : Option WantedTag). (added_wanted wanted.outer settings tags dscp ++ added_wanted w settings tags dscp) ++ left_of wanted.remove tags) bad.is
              ∙ append_assoc (added_wanted wanted.outer settings tags dscp) (tag ∷ []) (left_of wanted.remove tags);
        }
    by_slots None second p q =
        let bad = unwritten wanted.outer settings (outer_of tags).tpid (inner_of tags).tpid p in
        let tag = with_tpid bad.tag.tpid (tag_from bad.tag.added settings tags dscp) in
        record {
          number = bad.number;
          fits = bad.fits;
          none = bad.none;
          front = [];
          bad = tag;
          behind = added_wanted wanted.inner settings tags dscp ++ left_of wanted.remove tags;
          named = named_tpid bad.tag.tpid bad.number (tag_from bad.tag.added settings tags dscp) bad.names;
          stands = ap (λ (w : Option WantedTag). (added_wanted w settings tags dscp ++ added_wanted wanted.inner settings tags dscp) ++ left_of wanted.remove tags) bad.is;
        }

-- ---- what leaves has other bytes than are wanted

pub never_written : (e : Entities) (port gem : ℕ) (bytes : List ℕ) (frame out : Reading) (wanted : WantedRetag) (settings : TableSettings)
    → settings ≡ settings_by (table_at e port)
    → frame_of (input_tpid_of (table_at e port)) bytes ≡ Ok frame → meaning e port bytes ≡ Forward gem out
    → settings.output_tpid < 2 ^ 16 → All IsInRange frame.tags → length frame.tags ≤ 2
    → retag_for (treatment.Retag wanted) settings (outer_of frame.tags).tpid (inner_of frame.tags).tpid ≡ None
    → bytes_eq (frame_bytes out) (frame_bytes (record frame { tags = tags_wanted wanted settings frame.tags (dscp_of frame.rest) })) ≡ false
never_written e port gem bytes frame out wanted settings same read leaves output range two is =
    let has = has_unwritten wanted settings frame.tags (dscp_of frame.rest) is in
    let d : Differs has.number (settings_by (table_at e port)) frame.tags =
    subst (λ (s : TableSettings). Differs has.number s frame.tags) same (differs has.number settings frame.tags has.none output range two) in
    let other = tags_other has.number (table_at e port) frame out.tags d (leaving_tags e port gem bytes frame out read leaves) in
    sym (alike_bytes frame out (tags_wanted wanted settings frame.tags (dscp_of frame.rest)) (leaves_whole e port gem bytes frame out read leaves))
    ∙ ap (tags_alike out.tags) has.stands
    ∙ not_alike has.number out.tags has.front has.behind has.bad other has.named has.fits
