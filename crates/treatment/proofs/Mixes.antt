-- A mix makes the tag that is added.
use Rattle.std.proofs.Common.{◌≡◌, ◌<◌, ◌≤◌, ℕ, ◌*◌, ◌^◌, true, false, List, Option, Some, arith, ◌∙◌, bit_and, bit_or}
use Rattle.std.proofs.lemmas.Nat.{and_le_l, or_lt}
use Rattle.std.proofs.lemmas.Bool.{and_parts, ltb-true}
use Rattle.tag_view.specs.Tag.{TagFields, IsInRange}
use Rattle.tag_view.specs.Word.{tag_of, word_of}
use Rattle.tag_view.proofs.Tags.{same_fields}
use Rattle.tag_view.proofs.Words.{IsLow, low, both, either, and-words, or-words, word_back}
use Rattle.vlan_rule.specs.declared.settings.TableSettings.{TableSettings}
use Rattle.vlan_rule.specs.declared.treatment.PrioritySource.{PrioritySource}
use Rattle.vlan_rule.specs.declared.treatment.PrioritySource.TheVariants as from_priority
use Rattle.vlan_rule.specs.declared.treatment.VidSource.{VidSource}
use Rattle.vlan_rule.specs.declared.treatment.VidSource.TheVariants as from_vid
use Rattle.vlan_rule.specs.declared.treatment.AddedTag.{AddedTag}
use Rattle.vlan_rule.specs.Meaning.{addition_fits, priority_fits, vid_fits}
use Rattle.treatment.specs.Treatment.{dscp_priority, inner_of, outer_of, tag_from}
use Rattle.treatment.specs.Mix.{mixed, mix_of, fixed_part, fixed_priority, fixed_vid, outer_mask, outer_priority, outer_vid, inner_mask, inner_priority, inner_vid, dscp_mask, dscp_priority_mask}
use Rattle.treatment.proofs.Fields.{eligible-field, priority-field, tpid-field, vid-field}

-- ---- the fields below the TPID fit

both-low : (a b : TagFields) → IsLow a → IsLow (both a b)
both-low a b ha = record { pcp = below 3 a.pcp b.pcp ha.pcp; vid = below 12 a.vid b.vid ha.vid }
  where
    below : (k x y : ℕ) → x < 2 ^ k → bit_and x y < 2 ^ k
    below k x y h = let e : bit_and x y ≤ x = and_le_l x y in omega arith

either-low : (a b : TagFields) → IsLow a → IsLow b → IsLow (either a b)
either-low a b ha hb = record { pcp = or_lt 3 a.pcp b.pcp ha.pcp hb.pcp; vid = or_lt 12 a.vid b.vid ha.vid hb.vid }

fixed-low : (settings : TableSettings) (added : AddedTag) → addition_fits (Some added) ≡ true → IsLow (fixed_part settings added)
fixed-low settings added fits =
    record { pcp = priority added.priority (and_parts _ _ fits).0; vid = vid added.vid (and_parts _ _ fits).1 }
  where
    priority : (s : PrioritySource) → priority_fits s ≡ true → fixed_priority s < 2 ^ 3
    priority (from_priority.Fixed p) h = ltb-true _ _ h
    priority from_priority.Inner h = omega arith
    priority from_priority.Outer h = omega arith
    priority from_priority.Dscp h = omega arith

    vid : (s : VidSource) → vid_fits s ≡ true → fixed_vid s < 2 ^ 12
    vid (from_vid.Fixed v) h = let e : v < 4095 = ltb-true _ _ h in omega arith
    vid from_vid.Inner h = omega arith
    vid from_vid.Outer h = omega arith

outer-low : (added : AddedTag) → IsLow (outer_mask added)
outer-low added = record { pcp = priority added.priority; vid = vid added.vid }
  where
    priority : (s : PrioritySource) → outer_priority s < 2 ^ 3
    priority (from_priority.Fixed p) = omega arith
    priority from_priority.Inner = omega arith
    priority from_priority.Outer = omega arith
    priority from_priority.Dscp = omega arith

    vid : (s : VidSource) → outer_vid s < 2 ^ 12
    vid (from_vid.Fixed v) = omega arith
    vid from_vid.Inner = omega arith
    vid from_vid.Outer = omega arith

inner-low : (added : AddedTag) → IsLow (inner_mask added)
inner-low added = record { pcp = priority added.priority; vid = vid added.vid }
  where
    priority : (s : PrioritySource) → inner_priority s < 2 ^ 3
    priority (from_priority.Fixed p) = omega arith
    priority from_priority.Inner = omega arith
    priority from_priority.Outer = omega arith
    priority from_priority.Dscp = omega arith

    vid : (s : VidSource) → inner_vid s < 2 ^ 12
    vid (from_vid.Fixed v) = omega arith
    vid from_vid.Inner = omega arith
    vid from_vid.Outer = omega arith

dscp-low : (added : AddedTag) → IsLow (dscp_mask added)
dscp-low added = record { pcp = priority added.priority; vid = omega arith }
  where
    priority : (s : PrioritySource) → dscp_priority_mask s < 2 ^ 3
    priority (from_priority.Fixed p) = omega arith
    priority from_priority.Inner = omega arith
    priority from_priority.Outer = omega arith
    priority from_priority.Dscp = omega arith

-- ---- a whole word

-- words with their masks are tags with theirs
four-words : (s f o l i q x : TagFields) → IsLow s → IsLow f → IsLow o → IsLow l → IsLow i → IsLow q → IsLow x
    → tag_of (bit_or (bit_or (bit_or (word_of s) (bit_and (word_of f) (word_of o))) (bit_and (word_of l) (word_of i))) (bit_and (word_of q) (word_of x)))
    ≡ either (either (either s (both f o)) (both l i)) (both q x)
four-words s f o l i q x hs hf ho hl hi hq hx =
    let fo = both-low f o hf in
    let li = both-low l i hl in
    let qx = both-low q x hq in
    let one = either-low s (both f o) hs fo in
    let two = either-low (either s (both f o)) (both l i) one li in
    rw (and-words f o hf ho, and-words l i hl hi, and-words q x hq hx, or-words s (both f o) hs fo, or-words (either s (both f o)) (both l i) one li, or-words (either (either s (both f o)) (both l i)) (both q x) two qx)
    (word_back _ (either-low _ _ two qx))

-- a priority where a tag has it
marking_word : (p : ℕ) → p * 2 ^ 13 ≡ word_of (record { tpid = 0; pcp = p; dei = false; vid = 0 })
marking_word p = omega arith

pub mix-makes : (added : AddedTag) (settings : TableSettings) (tags : List TagFields) (dscp : Option ℕ) → addition_fits (Some added) ≡ true
    → IsInRange (outer_of tags) → IsInRange (inner_of tags) → dscp_priority settings.dscp_map.0 dscp < 2 ^ 3
    → tag_of (mixed (mix_of settings added) (word_of (outer_of tags)) (word_of (inner_of tags)) (dscp_priority settings.dscp_map.0 dscp * 2 ^ 13))
    ≡ tag_from added settings tags dscp
unfolding mix_of
mix-makes added settings tags dscp fits hf hl hq =
    let q = dscp_priority settings.dscp_map.0 dscp in
    rw (marking_word q)
    (four-words (fixed_part settings added) (outer_of tags) (outer_mask added) (inner_of tags) (inner_mask added)
    (record { tpid = 0; pcp = q; dei = false; vid = 0 }) (dscp_mask added)
    (fixed-low settings added fits) (low _ hf) (outer-low added) (low _ hl) (inner-low added) (record { pcp = hq; vid = omega arith }) (dscp-low added)
    ∙ same_fields _ _ _ _ _ _ _ _ (tpid-field added.tpid settings tags hf hl) (priority-field added.priority settings tags dscp hf hl hq)
    (eligible-field added.eligible tags) (vid-field added.vid tags hf hl))
