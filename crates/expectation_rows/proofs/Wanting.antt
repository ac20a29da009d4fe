-- A frame leaves as is wanted exactly where it has the bytes that the row's treatment makes of it.
use Rattle.std.proofs.Common.{◌≡◌, ℕ, ◌+◌, ◌*◌, ◌<◌, ◌≤◌, ◌^◌, ◌==◌, Bool, true, false, List, [], ◌∷◌, ◌++◌, Option, Some, None, arith, refl, ap, sym, length, drop, min, take, ◌∙◌}
use Rattle.std.specs.Prelude.{All}
use Rattle.std.specs.List.{flat_map}
use Rattle.std.proofs.lemmas.Bool.{eqb-true}
use Rattle.std.proofs.lemmas.List.{take-append-drop}
use Rattle.std.proofs.lemmas.Bool.{true≢false}
use Rattle.tag_view.specs.Tag.{TagFields, customer_tpid, tag_bytes}
use Rattle.tag_view.specs.Frame.{Reading, frame_bytes}
use Rattle.tag_view.specs.Dscp.{dscp_of}
use Rattle.vlan_rule.specs.declared.settings.TableSettings.{TableSettings}
use Rattle.vlan_rule.specs.declared.treatment.AddedTag.{AddedTag}
use Rattle.vlan_rule.specs.declared.treatment.Retag.{Retag}
use Rattle.vlan_rule.specs.declared.treatment.TpidSource.{TpidSource}
use Rattle.vlan_rule.specs.declared.treatment.TpidSource.TheVariants as tpid
use Rattle.treatment.specs.Treatment.{addition_from, additions_from, inner_of, left_of, outer_of, tag_from, tpid_from}
use Rattle.frame_rows.specs.declared.row.Row.{Row}
use Rattle.frame_rows.specs.Field.{values_of}
use Rattle.frame_rows.specs.Row.{keep}
use Rattle.frame_rows.specs.Sight.{sent_by, slots, written}
use Rattle.frame_rows.proofs.Faults.{IsRead}
use Rattle.frame_rows.proofs.Seen.{nothing_removed, sent_is, written_is}
use Rattle.frame_rows.proofs.Slots.{slots_spelled}
use Rattle.frame_expectation.specs.declared.wanted.WantedRetag.{WantedRetag}
use Rattle.frame_expectation.specs.declared.wanted.WantedTag.{WantedTag}
use Rattle.frame_expectation.specs.declared.wanted.WantedTreatment.{WantedTreatment}
use Rattle.frame_expectation.specs.declared.wanted.WantedTreatment.TheVariants as treatment
use Rattle.frame_expectation.specs.Wanted.{added_wanted, bytes_wanted, tags_wanted, with_tpid}
use Rattle.expectation_rows.specs.Decision.{is_any}
use Rattle.expectation_rows.specs.Wanted.{added_with, retag_for, retag_with, slot_for, source_for}

-- ---- added tags

-- the TPID that is named comes from there
tpid_is : (number : ℕ) (settings : TableSettings) (tags : List TagFields) (source : TpidSource)
    → source_for number settings (outer_of tags).tpid (inner_of tags).tpid ≡ Some source → tpid_from source settings tags ≡ number
tpid_is number settings tags source is =
    by_tests (number == customer_tpid) (number == settings.output_tpid) (number == (outer_of tags).tpid) (number == (inner_of tags).tpid)
    refl refl refl refl
  where
    same : (found : TpidSource) → Some found ≡ Some source → source ≡ found
    same found e = cc

    by_tests : (a b c d : Bool) → (number == customer_tpid) ≡ a → (number == settings.output_tpid) ≡ b → (number == (outer_of tags).tpid) ≡ c
        → (number == (inner_of tags).tpid) ≡ d → tpid_from source settings tags ≡ number
    by_tests true b c d p q r s = rw (same tpid.Standard (rw p at is)) (sym (eqb-true number customer_tpid p))
    by_tests false true c d p q r s = rw (same tpid.Output (rw (p, q) at is)) (sym (eqb-true number settings.output_tpid q))
    by_tests false false true d p q r s = rw (same tpid.Outer (rw (p, q, r) at is)) (sym (eqb-true number (outer_of tags).tpid r))
    by_tests false false false true p q r s = rw (same tpid.Inner (rw (p, q, r, s) at is)) (sym (eqb-true number (inner_of tags).tpid s))
    by_tests false false false false p q r s = absurd (never (rw (p, q, r, s) at is))
      where
        never : None ≡ Some source → ⊥
        never e = cc

added_is : (added new : AddedTag) (named : Option ℕ) (settings : TableSettings) (tags : List TagFields) (dscp : Option ℕ)
    → added_with added named settings (outer_of tags).tpid (inner_of tags).tpid ≡ Some new
    → with_tpid named (tag_from added settings tags dscp) ≡ tag_from new settings tags dscp
added_is added new None settings tags dscp is = ap (λ (a : AddedTag). tag_from a settings tags dscp) (same is)
  where
    same : Some added ≡ Some new → added ≡ new
    same e = cc
added_is added new (Some number) settings tags dscp is =
    by_source (source_for number settings (outer_of tags).tpid (inner_of tags).tpid) refl
  where
    by_source : (source : Option TpidSource) → source_for number settings (outer_of tags).tpid (inner_of tags).tpid ≡ source
        → with_tpid (Some number) (tag_from added settings tags dscp) ≡ tag_from new settings tags dscp
    by_source None none = absurd (never (rw none at is))
      where
        never : None ≡ Some new → ⊥
        never e = cc
    by_source (Some source) some =
        ap (λ (n : ℕ). record (tag_from added settings tags dscp) { tpid = n }) (sym (tpid_is number settings tags source some))
        ∙ ap (λ (a : AddedTag). tag_from a settings tags dscp) (same (rw some at is))
      where
        same : Some (record added { tpid = source }) ≡ Some new → record added { tpid = source } ≡ new
        same e = cc

slot_is : (wanted : Option WantedTag) (slot : Option AddedTag) (settings : TableSettings) (tags : List TagFields) (dscp : Option ℕ)
    → slot_for wanted settings (outer_of tags).tpid (inner_of tags).tpid ≡ Some slot
    → added_wanted wanted settings tags dscp ≡ addition_from slot settings tags dscp
slot_is None slot settings tags dscp is = ap (λ (s : Option AddedTag). addition_from s settings tags dscp) (same is)
  where
    same : Some None ≡ Some slot → None ≡ slot
    same e = cc
slot_is (Some wanted) slot settings tags dscp is =
    by_added (added_with wanted.added wanted.tpid settings (outer_of tags).tpid (inner_of tags).tpid) refl
  where
    by_added : (added : Option AddedTag) → added_with wanted.added wanted.tpid settings (outer_of tags).tpid (inner_of tags).tpid ≡ added
        → added_wanted (Some wanted) settings tags dscp ≡ addition_from slot settings tags dscp
    by_added None none = absurd (never (rw none at is))
      where
        never : None ≡ Some slot → ⊥
        never e = cc
    by_added (Some added) some =
        ap (λ (tag : TagFields). tag ∷ []) (added_is wanted.added added wanted.tpid settings tags dscp some)
        ∙ ap (λ (s : Option AddedTag). addition_from s settings tags dscp) (same (rw some at is))
      where
        same : Some (Some added) ≡ Some slot → Some added ≡ slot
        same e = cc

-- ---- the tags that leave

left_is : (remove : ℕ) (tags : List TagFields) → length tags ≤ 2 → left_of remove tags ≡ left_of (min remove 2) tags
left_is remove tags two =
    let same : min remove (length tags) ≡ min (min remove 2) (length tags) = omega arith in
    ap (λ (n : ℕ). drop n tags) same

retag_is : (wanted : WantedRetag) (retag : Retag) (settings : TableSettings) (tags : List TagFields) (dscp : Option ℕ) → length tags ≤ 2
    → retag_for (treatment.Retag wanted) settings (outer_of tags).tpid (inner_of tags).tpid ≡ Some retag
    → tags_wanted wanted settings tags dscp ≡ additions_from retag settings tags dscp ++ left_of retag.remove tags
retag_is wanted retag settings tags dscp two is =
    by_slots (slot_for wanted.outer settings (outer_of tags).tpid (inner_of tags).tpid)
    (slot_for wanted.inner settings (outer_of tags).tpid (inner_of tags).tpid) refl refl
  where
    never : None ≡ Some retag → ⊥
    never e = cc

    by_slots : (first second : Option (Option AddedTag)) → slot_for wanted.outer settings (outer_of tags).tpid (inner_of tags).tpid ≡ first
        → slot_for wanted.inner settings (outer_of tags).tpid (inner_of tags).tpid ≡ second
        → tags_wanted wanted settings tags dscp ≡ additions_from retag settings tags dscp ++ left_of retag.remove tags
    by_slots (Some first) (Some second) p q =
        rw (
          slot_is wanted.outer first settings tags dscp p,
          slot_is wanted.inner second settings tags dscp q,
          left_is wanted.remove tags two,
        )
        (ap (λ (r : Retag). additions_from r settings tags dscp ++ left_of r.remove tags) (same (rw (p, q) at is)))
      where
        made : Retag
        made = record { remove = min wanted.remove 2; outer = first; inner = second }

        same : Some (record { remove = min wanted.remove 2; outer = first; inner = second }) ≡ Some retag
            → record { remove = min wanted.remove 2; outer = first; inner = second } ≡ retag
        same e = cc
    by_slots (Some first) None p q = absurd (never (rw (p, q) at is))
    by_slots None second p q = absurd (never (rw p at is))

-- ---- the bytes that leave

-- an unchanged frame
same_bytes : (bytes : List ℕ) (count : ℕ) → count ≤ 2 → 12 + 4 * count ≤ length bytes → All (λ b. b < 2 ^ 8) bytes
    → take 12 bytes ++ (flat_map tag_bytes (slots count (values_of bytes)) ++ drop (12 + 4 * count) bytes) ≡ bytes
same_bytes bytes count two long fits =
    ap (λ (x : List ℕ). take 12 bytes ++ x) (slots_spelled 0 count bytes (omega arith) two long fits)
    ∙ take-append-drop 12 bytes

pub sent_wanted : (by : WantedTreatment) (retag : Retag) (settings : TableSettings) (row : Row) (bytes : List ℕ) (frame : Reading) (input : ℕ)
    → is_any by ≡ false → IsRead input bytes frame → length frame.tags ≤ 2 → 12 + 4 * length frame.tags ≤ length bytes → All (λ b. b < 2 ^ 8) bytes
    → retag_for by settings (outer_of frame.tags).tpid (inner_of frame.tags).tpid ≡ Some retag → row.tags ≡ length frame.tags → row.retag ≡ retag
    → bytes_wanted by settings bytes frame ≡ Some (sent_by settings row bytes)
sent_wanted treatment.Any retag settings row bytes frame input some read two long fits is count same = absurd (true≢false some)
sent_wanted treatment.Unchanged retag settings row bytes frame input some read two long fits is count same =
    ap (λ (x : List ℕ). Some x) (sym (rw (written_kept, count) (same_bytes bytes (length frame.tags) two long fits)))
  where
    kept : row.retag ≡ keep
    kept = same ∙ is_keep is
      where
        is_keep : Some keep ≡ Some retag → retag ≡ keep
        is_keep e = cc

    written_kept : written settings row (values_of bytes) ≡ slots (length frame.tags) (values_of bytes)
    written_kept =
        written_is settings row bytes frame input read count
        ∙ ap (λ (r : Retag). additions_from r settings frame.tags (dscp_of frame.rest) ++ left_of r.remove frame.tags) kept
        ∙ nothing_removed frame.tags ∙ sym read.slots_are
sent_wanted (treatment.Retag wanted) retag settings row bytes frame input some read two long fits is count same =
    ap (λ (x : List ℕ). Some x)
    (sym (sent_is settings row bytes frame (tags_wanted wanted settings frame.tags (dscp_of frame.rest)) count read.whole
    (written_is settings row bytes frame input read count
    ∙ ap (λ (r : Retag). additions_from r settings frame.tags (dscp_of frame.rest) ++ left_of r.remove frame.tags) same
    ∙ sym (retag_is wanted retag settings frame.tags (dscp_of frame.rest) two is))))
