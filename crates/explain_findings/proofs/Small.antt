-- The priority of each frame that comes to a mapper is under 8.
use Rattle.std.proofs.Common.{◌≡◌, ◌==◌, ℕ, zero, suc, ◌+◌, ◌-◌, ◌/◌, ◌%◌, ◌^◌, ◌<◌, Bool, true, false, List, [], ◌∷◌, ◌++◌, Option, Some, None, Ok, length, drop, refl, ◌∙◌, subst, arith, ⊎_elim}
use Rattle.std.specs.Prelude.{IfSome, if◌then◌else◌, min, nat_lt, slice_index}
use Rattle.std.specs.List.{list_all}
use Rattle.std.proofs.lemmas.Bool.{and_from, and_parts, cases_lt, lt-ltb, ltb-true}
use Rattle.std.proofs.lemmas.List.{get_or_past}
use Rattle.std.proofs.lemmas.List.Elements.{All-drop, All-get_or}
use Rattle.std.proofs.lemmas.List.Folds.{list_all-append}
use Rattle.std.proofs.lemmas.Nat.{mod_below}
use Rattle.byteorder.specs.Endian.{big_number}
use Rattle.tag_view.specs.declared.fault.FrameFault.{FrameFault}
use Rattle.tag_view.specs.Tag.{TagFields, is_tag_type}
use Rattle.tag_view.specs.Frame.{Reading, fault_of, frame_of, reading_of, tag_at, tags_of, type_at}
use Rattle.tag_view.specs.Dscp.{group_of}
use Rattle.tag_view.proofs.Readings.{frame_read, frame_refused}
use Rattle.vlan_rule.specs.declared.settings.TableSettings.{TableSettings}
use Rattle.vlan_rule.specs.declared.treatment.AddedTag.{AddedTag}
use Rattle.vlan_rule.specs.declared.treatment.PrioritySource.{PrioritySource}
use Rattle.vlan_rule.specs.declared.treatment.PrioritySource.TheVariants as from_priority
use Rattle.vlan_rule.specs.declared.treatment.Treatment.{Treatment}
use Rattle.vlan_rule.specs.declared.treatment.Treatment.TheVariants as treatment
use Rattle.vlan_rule.specs.Entry.{refusal_of}
use Rattle.vlan_rule.specs.Meaning.{addition_fits, priority_fits, treatment_fits, treatment_of}
use Rattle.vlan_rule.proofs.Fits.{treatment-fits}
use Rattle.treatment.specs.Treatment.{addition_from, additions_from, dscp_priority, inner_of, left_of, outer_of, priority_from, treated, treated_by}
use Rattle.pmapper.specs.Mapper as mapper
use Rattle.pmapper.specs.Mapper.{Unmarked, priority_of, unmarked_priority_by, unmarked_priority_of}
use Rattle.mib_state.proofs.Touched.{either}
use Rattle.explain_findings.specs.Claims.{AreBytes}

-- the priorities of tags are under 8
abbrev pub are_small : List TagFields → Bool
are_small tags = list_all (λ tag. nat_lt tag.pcp 8) tags

-- ---- of the tags that are read

byte_at : (xs : List ℕ) (i : ℕ) → AreBytes xs → slice_index xs i < 256
byte_at xs i bytes = ⊎_elim (λ within. All-get_or (λ b. b < 2 ^ 8) xs i 0 within bytes) (λ past. rw (get_or_past xs i 0 past) (omega arith)) (cases_lt i (length xs))

type_fits : (xs : List ℕ) (i : ℕ) → AreBytes xs → type_at i xs < 2 ^ 16
type_fits xs i bytes =
    let ys = drop i xs in
    let rest : AreBytes ys = All-drop (λ b. b < 2 ^ 8) i xs bytes in
    omega (arith, byte_at ys 0 rest, byte_at ys 1 rest)

tag_small : (place : ℕ) (xs : List ℕ) → AreBytes xs → nat_lt (tag_at place xs).pcp 8 ≡ true
tag_small place xs bytes = lt-ltb (type_at (place + 2) xs / 2 ^ 13) 8 (omega (arith, type_fits xs (place + 2) bytes))

tags_small : (input : ℕ) (xs : List ℕ) → AreBytes xs → are_small (tags_of input xs) ≡ true
tags_small input xs bytes = by_case (is_tag_type input (type_at 0 xs)) (is_tag_type input (type_at 4 xs))
  where
    by_case : (first second : Bool) → are_small (if first then tag_at 0 xs ∷ (if second then tag_at 4 xs ∷ [] else []) else []) ≡ true
    by_case false second = refl
    by_case true false = and_from _ true (tag_small 0 xs bytes) refl
    by_case true true = and_from _ _ (tag_small 0 xs bytes) (and_from _ true (tag_small 4 xs bytes) refl)

pub read_small : (input : ℕ) (bytes : List ℕ) (frame : Reading) → AreBytes bytes → frame_of input bytes ≡ Ok frame → are_small frame.tags ≡ true
read_small input bytes frame fits is = by_case (fault_of input bytes) refl
  where
    by_case : (fault : Option FrameFault) → fault_of input bytes ≡ fault → are_small frame.tags ≡ true
    by_case (Some fault) some = let refused = frame_refused input bytes fault some in cc
    by_case None none =
        let read = frame_read input bytes (reading_of input bytes) none refl in
        let same : reading_of input bytes ≡ frame = cc in
        subst (λ (r : Reading). are_small r.tags ≡ true) same (tags_small input (drop 12 bytes) (All-drop (λ b. b < 2 ^ 8) 12 bytes fits))

-- ---- of the tags that are added

group_small : (map : List ℕ) (dscp : ℕ) → nat_lt (group_of map dscp) 8 ≡ true
unfolding group_of
group_small map dscp = lt-ltb (big_number 24 map / 8 ^ (63 - dscp) % 8) 8 (mod_below _ 8 (omega arith))

dscp_small : (map : List ℕ) (dscp : Option ℕ) → nat_lt (dscp_priority map dscp) 8 ≡ true
dscp_small map None = refl
dscp_small map (Some dscp) = group_small map dscp

outer_small : (tags : List TagFields) → are_small tags ≡ true → nat_lt (outer_of tags).pcp 8 ≡ true
outer_small [] small = refl
outer_small (tag ∷ rest) small = (and_parts (nat_lt tag.pcp 8) (are_small rest) small).0

inner_small : (tags : List TagFields) → are_small tags ≡ true → nat_lt (inner_of tags).pcp 8 ≡ true
inner_small [] small = refl
inner_small (tag ∷ []) small = (and_parts (nat_lt tag.pcp 8) true small).0
inner_small (tag ∷ next ∷ rest) small = inner_small (next ∷ rest) (and_parts (nat_lt tag.pcp 8) (are_small (next ∷ rest)) small).1

source_small : (source : PrioritySource) (settings : TableSettings) (tags : List TagFields) (dscp : Option ℕ) → priority_fits source ≡ true → are_small tags ≡ true
    → nat_lt (priority_from source settings tags dscp) 8 ≡ true
source_small (from_priority.Fixed priority) settings tags dscp fits small = fits
source_small from_priority.Inner settings tags dscp fits small = inner_small tags small
source_small from_priority.Outer settings tags dscp fits small = outer_small tags small
source_small from_priority.Dscp settings tags dscp fits small = dscp_small settings.dscp_map.0 dscp

addition_small : (added : Option AddedTag) (settings : TableSettings) (tags : List TagFields) (dscp : Option ℕ) → addition_fits added ≡ true → are_small tags ≡ true
    → are_small (addition_from added settings tags dscp) ≡ true
addition_small None settings tags dscp fits small = refl
addition_small (Some added) settings tags dscp fits small =
    and_from _ true (source_small added.priority settings tags dscp (and_parts (priority_fits added.priority) _ fits).0 small) refl

drop_small : (n : ℕ) (tags : List TagFields) → are_small tags ≡ true → are_small (drop n tags) ≡ true
drop_small zero tags small = small
drop_small (suc n) [] small = small
drop_small (suc n) (tag ∷ rest) small = drop_small n rest (and_parts (nat_lt tag.pcp 8) (are_small rest) small).1

joined_small : (a b : List TagFields) → are_small a ≡ true → are_small b ≡ true → are_small (a ++ b) ≡ true
joined_small a b first second = list_all-append (λ tag. nat_lt tag.pcp 8) a b ∙ and_from _ _ first second

treated_by_small : (t : Treatment) (settings : TableSettings) (tags : List TagFields) (dscp : Option ℕ) → treatment_fits t ≡ true → are_small tags ≡ true
    → IfSome (treated_by t settings tags dscp) (λ out. are_small out ≡ true)
unfolding treated_by
treated_by_small treatment.Discard settings tags dscp fits small = tt
treated_by_small (treatment.Retag retag) settings tags dscp fits small =
    let added = and_parts (addition_fits retag.outer) (addition_fits retag.inner) (and_parts _ _ fits).1 in
    joined_small (additions_from retag settings tags dscp) (left_of retag.remove tags)
    (joined_small (addition_from retag.outer settings tags dscp) (addition_from retag.inner settings tags dscp) (addition_small retag.outer settings tags dscp added.0 small) (addition_small retag.inner settings tags dscp added.1 small))
    (drop_small (min retag.remove (length tags)) tags small)

pub treated_small : (entry : List ℕ) (settings : TableSettings) (tags : List TagFields) (dscp : Option ℕ) → refusal_of entry ≡ None → are_small tags ≡ true
    → IfSome (treated entry settings tags dscp) (λ out. are_small out ≡ true)
unfolding treated
treated_small entry settings tags dscp accepted small = treated_by_small (treatment_of entry) settings tags dscp (treatment-fits entry accepted) small

-- ---- of the frame

by_dscp : (unmarked : Unmarked) (dscp : Option ℕ) → mapper.dscp_priority unmarked dscp < 8
by_dscp unmarked None = mod_below _ (2 ^ 3) (omega arith)
by_dscp unmarked (Some dscp) = ltb-true (group_of unmarked.dscp_map dscp) 8 (group_small unmarked.dscp_map dscp)

unmarked_small : (unmarked : Unmarked) (dscp : Option ℕ) → unmarked_priority_of unmarked dscp < 8
unmarked_small unmarked dscp =
    either (λ option. unmarked_priority_by option unmarked dscp < 8) (unmarked.option == 0) _ _ (λ is. by_dscp unmarked dscp) (λ no. mod_below _ (2 ^ 3) (omega arith))

pub priority_small : (unmarked : Unmarked) (tags : List TagFields) (dscp : Option ℕ) → are_small tags ≡ true → priority_of unmarked tags dscp < 8
unfolding priority_of
priority_small unmarked [] dscp small = unmarked_small unmarked dscp
priority_small unmarked (outermost ∷ inner) dscp small = ltb-true outermost.pcp 8 (and_parts (nat_lt outermost.pcp 8) (are_small inner) small).0
