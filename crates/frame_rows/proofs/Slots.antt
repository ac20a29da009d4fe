-- The four bytes behind a frame's addresses, and those behind them, as tags.
use Rattle.std.proofs.Common.{◌≡◌, ◌<◌, ◌≤◌, ℕ, zero, suc, ◌+◌, ◌*◌, ◌%◌, ◌^◌, ◌==◌, Bool, true, false, List, [], ◌∷◌, ◌++◌, arith, refl, ap, sym, length, length-drop, drop, nat_lt, ◌∙◌}
use Rattle.std.specs.Prelude.{All}
use Rattle.std.specs.List.{flat_map}
use Rattle.std.proofs.lemmas.List.{drop-drop}
use Rattle.std.proofs.lemmas.List.Elements.{All-cons, All-drop, All-nil, All-take}
use Rattle.tag_view.specs.Tag.{IsInRange, TagFields, tag_bytes}
use Rattle.tag_view.specs.Frame.{tag_at}
use Rattle.tag_view.proofs.Tags.{same_fields, tag_in_range, tag_spelled}
use Rattle.frame_rows.specs.declared.field.Field.TheVariants.{FirstType, SecondType, FirstVid, SecondVid, FirstPriority, SecondPriority, FirstEligible, SecondEligible}
use Rattle.frame_rows.specs.declared.field.Values.{Values}
use Rattle.frame_rows.specs.Field.{value_at, values_of, word_at}
use Rattle.frame_rows.specs.Sight.{first_slot, second_slot, slots}
use Rattle.frame_rows.proofs.Matching.{IsTagOf}
use Rattle.frame_rows.proofs.Words.{first_tag, second_tag, type_fits}

-- ---- the tags in the bytes

-- a tag by the values of its fields
tag_by : (type vid priority eligible : ℕ) (tag : TagFields) → IsTagOf type vid priority eligible tag → IsInRange tag →
    let slot : TagFields = record { tpid = type; pcp = priority % 2 ^ 3; dei = eligible == 1; vid = vid % 2 ^ 12 } in slot ≡ tag
tag_by type vid priority eligible tag is range =
    same_fields tag.tpid tag.pcp tag.vid type (priority % 2 ^ 3) (vid % 2 ^ 12) tag.dei (eligible == 1) (sym is.tpid_same) small_priority
    (sym is.eligible_same) small_vid
  where
    small_priority : priority % 2 ^ 3 ≡ tag.pcp
    small_priority = let same = is.priority_same in let below = range.pcp in omega arith

    small_vid : vid % 2 ^ 12 ≡ tag.vid
    small_vid = let same = is.vid_same in let below = range.vid in omega arith

-- the tag behind a first one
second_at : (bytes : List ℕ) → tag_at 4 (drop 12 bytes) ≡ tag_at 0 (drop 16 bytes)
second_at bytes = rw (drop-drop 4 12 bytes, drop-drop 6 12 bytes, drop-drop 2 16 bytes) refl

pub first_slot_is : (bytes : List ℕ) → 16 ≤ length bytes → All (λ b. b < 2 ^ 8) bytes → first_slot (values_of bytes) ≡ tag_at 0 (drop 12 bytes)
first_slot_is bytes long fits =
    tag_by (value_at FirstType (values_of bytes)) (value_at FirstVid (values_of bytes)) (value_at FirstPriority (values_of bytes))
    (value_at FirstEligible (values_of bytes)) (tag_at 0 (drop 12 bytes)) (first_tag bytes long)
    (tag_in_range (drop 12 bytes) (omega (arith, length-drop 12 bytes)) (All-drop (λ b. b < 2 ^ 8) 12 bytes fits))

pub second_slot_is : (bytes : List ℕ) → 20 ≤ length bytes → All (λ b. b < 2 ^ 8) bytes → second_slot (values_of bytes) ≡ tag_at 4 (drop 12 bytes)
second_slot_is bytes long fits =
    tag_by (value_at SecondType (values_of bytes)) (value_at SecondVid (values_of bytes)) (value_at SecondPriority (values_of bytes))
    (value_at SecondEligible (values_of bytes)) (tag_at 4 (drop 12 bytes)) (second_tag bytes long)
    (rw (second_at bytes) (tag_in_range (drop 16 bytes) (omega (arith, length-drop 16 bytes)) (All-drop (λ b. b < 2 ^ 8) 16 bytes fits)))

-- ---- their bytes

first_spelled : (bytes : List ℕ) → 16 ≤ length bytes → All (λ b. b < 2 ^ 8) bytes → tag_bytes (first_slot (values_of bytes)) ++ drop 16 bytes ≡ drop 12 bytes
first_spelled bytes long fits =
    ap (λ (tag : TagFields). tag_bytes tag ++ drop 16 bytes) (first_slot_is bytes long fits)
    ∙ ap (λ (rest : List ℕ). tag_bytes (tag_at 0 (drop 12 bytes)) ++ rest) (sym (drop-drop 4 12 bytes))
    ∙ tag_spelled (drop 12 bytes) (omega (arith, length-drop 12 bytes)) (All-drop (λ b. b < 2 ^ 8) 12 bytes fits)

second_spelled : (bytes : List ℕ) → 20 ≤ length bytes → All (λ b. b < 2 ^ 8) bytes → tag_bytes (second_slot (values_of bytes)) ++ drop 20 bytes ≡ drop 16 bytes
second_spelled bytes long fits =
    ap (λ (tag : TagFields). tag_bytes tag ++ drop 20 bytes) (second_slot_is bytes long fits ∙ second_at bytes)
    ∙ ap (λ (rest : List ℕ). tag_bytes (tag_at 0 (drop 16 bytes)) ++ rest) (sym (drop-drop 4 16 bytes))
    ∙ tag_spelled (drop 16 bytes) (omega (arith, length-drop 16 bytes)) (All-drop (λ b. b < 2 ^ 8) 16 bytes fits)

-- the slots behind so many are the bytes behind them
pub slots_spelled : (read count : ℕ) (bytes : List ℕ) → read ≤ count → count ≤ 2 → 12 + 4 * count ≤ length bytes → All (λ b. b < 2 ^ 8) bytes
    → flat_map tag_bytes (drop read (slots count (values_of bytes))) ++ drop (12 + 4 * count) bytes ≡ drop (12 + 4 * read) bytes
slots_spelled zero zero bytes most two long fits = refl
slots_spelled zero (suc zero) bytes most two long fits = first_spelled bytes long fits
slots_spelled zero (suc (suc zero)) bytes most two long fits =
    ap (λ (rest : List ℕ). tag_bytes (first_slot (values_of bytes)) ++ rest) (second_spelled bytes long fits)
    ∙ first_spelled bytes (omega arith) fits
slots_spelled (suc zero) zero bytes most two long fits = absurd (omega arith)
slots_spelled (suc zero) (suc zero) bytes most two long fits = refl
slots_spelled (suc zero) (suc (suc zero)) bytes most two long fits = second_spelled bytes long fits
slots_spelled (suc (suc zero)) zero bytes most two long fits = absurd (omega arith)
slots_spelled (suc (suc zero)) (suc zero) bytes most two long fits = absurd (omega arith)
slots_spelled (suc (suc zero)) (suc (suc zero)) bytes most two long fits = refl
slots_spelled (suc (suc (suc read))) count bytes most two long fits = absurd (omega arith)
slots_spelled read (suc (suc (suc count))) bytes most two long fits = absurd (omega arith)

-- ---- their fields

word_fits : (place : ℕ) (bytes : List ℕ) → All (λ b. b < 2 ^ 8) bytes → word_at place bytes < 2 ^ 16
word_fits place bytes fits = by_length (nat_lt (length bytes) (place + 2)) refl
  where
    by_length : (b : Bool) → nat_lt (length bytes) (place + 2) ≡ b → word_at place bytes < 2 ^ 16
    by_length true is = rw is (omega arith)
    by_length false is = rw is (type_fits place bytes fits)

first_in_range : (bytes : List ℕ) → All (λ b. b < 2 ^ 8) bytes → IsInRange (first_slot (values_of bytes))
unfolding values_of
first_in_range bytes fits = record { tpid = word_fits 12 bytes fits; pcp = omega arith; vid = omega arith }

second_in_range : (bytes : List ℕ) → All (λ b. b < 2 ^ 8) bytes → IsInRange (second_slot (values_of bytes))
unfolding values_of
second_in_range bytes fits = record { tpid = word_fits 16 bytes fits; pcp = omega arith; vid = omega arith }

pub slots_in_range : (count : ℕ) (bytes : List ℕ) → All (λ b. b < 2 ^ 8) bytes → All IsInRange (slots count (values_of bytes))
slots_in_range count bytes fits =
    let first = first_slot (values_of bytes) in
    let second = second_slot (values_of bytes) in
    All-take IsInRange count (first ∷ second ∷ []) (All-cons IsInRange first (second ∷ []) (first_in_range bytes fits)
    (All-cons IsInRange second [] (second_in_range bytes fits) (All-nil IsInRange)))

-- ---- so many of them

-- a frame that is read with so many tags has these
pub no_slots : (values : Values) → slots 0 values ≡ []
no_slots values = refl

pub one_slot : (bytes : List ℕ) → 16 ≤ length bytes → All (λ b. b < 2 ^ 8) bytes → slots 1 (values_of bytes) ≡ tag_at 0 (drop 12 bytes) ∷ []
one_slot bytes long fits = ap (λ (tag : TagFields). tag ∷ []) (first_slot_is bytes long fits)

pub two_slots : (bytes : List ℕ) → 20 ≤ length bytes → All (λ b. b < 2 ^ 8) bytes
    → slots 2 (values_of bytes) ≡ tag_at 0 (drop 12 bytes) ∷ tag_at 4 (drop 12 bytes) ∷ []
two_slots bytes long fits =
    ap (λ (tag : TagFields). tag ∷ second_slot (values_of bytes) ∷ []) (first_slot_is bytes (omega arith) fits)
    ∙ ap (λ (tag : TagFields). tag_at 0 (drop 12 bytes) ∷ tag ∷ []) (second_slot_is bytes long fits)
