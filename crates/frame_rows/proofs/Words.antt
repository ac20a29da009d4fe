-- The words of a frame, by its bytes.
use Rattle.std.proofs.Common.{◌≡◌, ℕ, suc, ◌+◌, ◌*◌, ◌/◌, ◌%◌, ◌^◌, ◌<◌, ◌≤◌, ◌==◌, Bool, true, false, List, Some, None, arith, refl, ap, sym, length, length-drop, drop, min, nat_lt, if◌then◌else◌, ◌∙◌}
use Rattle.std.specs.Prelude.{All, slice_index}
use Rattle.std.proofs.Math.ListN.{get_or-eq_default}
use Rattle.std.proofs.lemmas.Bool.{le-ltb, lt-ltb, ltb-false, ltb-true}
use Rattle.std.proofs.lemmas.List.{drop-drop, get_or-drop}
use Rattle.byteorder.specs.Endian.{big_number}
use Rattle.tag_view.specs.Frame.{tag_at, type_at}
use Rattle.tag_view.specs.Dscp.{dscp_of}
use Rattle.tag_view.proofs.Bytes.{big_from-drop}
use Rattle.frame_rows.specs.declared.field.Field.TheVariants.{FirstType, SecondType, FirstVid, SecondVid, FirstPriority, SecondPriority, FirstEligible, SecondEligible}
use Rattle.frame_rows.specs.Field.{value_at, values_of, word_at}
use Rattle.frame_rows.specs.Source.{dscp_in, packet_of}
use Rattle.frame_rows.proofs.Matching.{IsTagOf}

-- ---- bytes and words

pub byte_fits : (bytes : List ℕ) → All (λ b. b < 2 ^ 8) bytes → (k : ℕ) → slice_index bytes k < 256
byte_fits bytes fits k = by_case (nat_lt k (length bytes)) refl
  where
    by_case : (b : Bool) → nat_lt k (length bytes) ≡ b → slice_index bytes k < 256
    by_case true is = fits k 0 (ltb-true k (length bytes) is)
    by_case false is =
        let past : length bytes ≤ k = ltb-false k (length bytes) is in
        let none : slice_index bytes k ≡ 0 = get_or-eq_default bytes 0 past in
        omega arith

pub type_bytes : (place : ℕ) (bytes : List ℕ) → type_at place bytes ≡ slice_index bytes place * 256 + slice_index bytes (place + 1)
type_bytes place bytes =
    let same : place + 0 ≡ place = omega arith in
    let next : suc (place + 0) ≡ place + 1 = omega arith in
    big_from-drop 0 place 2 bytes
    ∙ ap (λ (i : ℕ). slice_index bytes i * 256 ^ 1 + (slice_index bytes (suc (place + 0)) * 256 ^ 0 + 0)) same
    ∙ ap (λ (i : ℕ). slice_index bytes place * 256 ^ 1 + (slice_index bytes i * 256 ^ 0 + 0)) next
    ∙ two (slice_index bytes place) (slice_index bytes (place + 1))
  where
    two : (a b : ℕ) → a * 256 ^ 1 + (b * 256 ^ 0 + 0) ≡ a * 256 + b
    two a b = omega arith

pub type_fits : (place : ℕ) (bytes : List ℕ) → All (λ b. b < 2 ^ 8) bytes → type_at place bytes < 2 ^ 16
type_fits place bytes fits =
    let high = byte_fits bytes fits place in
    let low = byte_fits bytes fits (place + 1) in
    omega (arith, type_bytes place bytes)

-- a word that is there
pub word_there : (place : ℕ) (bytes : List ℕ) → place + 2 ≤ length bytes → word_at place bytes ≡ type_at place bytes
word_there place bytes within =
    let long = le-ltb (length bytes) (place + 2) within in
    rw long refl

-- a word behind some bytes
pub type_drop : (place from : ℕ) (bytes : List ℕ) → type_at place (drop from bytes) ≡ type_at (from + place) bytes
type_drop place from bytes = ap (big_number 2) (drop-drop place from bytes)

-- ---- tags

tag_of_word : (place : ℕ) (bytes : List ℕ) (tpid control : ℕ) → tpid ≡ type_at place bytes → control ≡ type_at (place + 2) bytes
    → IsTagOf tpid (control % 2 ^ 12) (control / 2 ^ 13) (control / 2 ^ 12 % 2) (tag_at place bytes)
tag_of_word place bytes tpid control is is' =
    record {
      tpid_same = sym is;
      vid_same = ap (λ (n : ℕ). n % 2 ^ 12) (sym is');
      priority_same = ap (λ (n : ℕ). n / 2 ^ 13) (sym is');
      is_bit = omega arith;
      eligible_same = ap (λ (n : ℕ). n / 2 ^ 12 % 2 == 1) (sym is');
    }

pub first_tag : (bytes : List ℕ) → 16 ≤ length bytes
    → IsTagOf (value_at FirstType (values_of bytes)) (value_at FirstVid (values_of bytes)) (value_at FirstPriority (values_of bytes))
    (value_at FirstEligible (values_of bytes)) (tag_at 0 (drop 12 bytes))
unfolding values_of
first_tag bytes within =
    tag_of_word 0 (drop 12 bytes) (word_at 12 bytes) (word_at 14 bytes) (word_there 12 bytes (omega arith) ∙ sym (type_drop 0 12 bytes))
    (word_there 14 bytes (omega arith) ∙ sym (type_drop 2 12 bytes))

pub second_tag : (bytes : List ℕ) → 20 ≤ length bytes
    → IsTagOf (value_at SecondType (values_of bytes)) (value_at SecondVid (values_of bytes)) (value_at SecondPriority (values_of bytes))
    (value_at SecondEligible (values_of bytes)) (tag_at 4 (drop 12 bytes))
unfolding values_of
second_tag bytes within =
    tag_of_word 4 (drop 12 bytes) (word_at 16 bytes) (word_at 18 bytes) (word_there 16 bytes (omega arith) ∙ sym (type_drop 4 12 bytes))
    (word_there 18 bytes (omega arith) ∙ sym (type_drop 6 12 bytes))

-- ---- DSCPs

-- of the two bytes behind a type
dscp_bytes : (type high low : ℕ) (rest : List ℕ) → high < 256 → low < 256 → nat_lt (length rest) 4 ≡ false → type_at 0 rest ≡ type
    → slice_index rest 2 ≡ high → slice_index rest 3 ≡ low → dscp_in (packet_of type) ((high * 256 + low) % 2 ^ 12) ≡ dscp_of rest
unfolding dscp_of
dscp_bytes type high low rest high_fits low_fits long is_type is_high is_low = by_type (type == 0x0800) (type == 0x86DD) refl refl
  where
    by_type : (four six : Bool) → (type == 0x0800) ≡ four → (type == 0x86DD) ≡ six
        → dscp_in (packet_of type) ((high * 256 + low) % 2 ^ 12) ≡ dscp_of rest
    by_type true six p q = rw (long, is_type, p, is_low) (ap (λ (n : ℕ). Some n) (omega arith))
    by_type false true p q = rw (long, is_type, p, q, is_high, is_low) (ap (λ (n : ℕ). Some n) (omega arith))
    by_type false false p q = rw (long, is_type, p, q) refl

-- behind the type at a place
pub dscp_at : (place : ℕ) (bytes : List ℕ) → place ≤ 20 → All (λ b. b < 2 ^ 8) bytes
    → (if nat_lt (min 24 (length bytes)) (place + 4) then None else dscp_in (packet_of (word_at place bytes)) (word_at (place + 2) bytes % 2 ^ 12))
    ≡ dscp_of (drop place bytes)
unfolding dscp_of
dscp_at place bytes within fits = by_length (nat_lt (min 24 (length bytes)) (place + 4)) refl
  where
    by_length : (b : Bool) → nat_lt (min 24 (length bytes)) (place + 4) ≡ b
        → (if nat_lt (min 24 (length bytes)) (place + 4) then None else dscp_in (packet_of (word_at place bytes)) (word_at (place + 2) bytes % 2 ^ 12))
        ≡ dscp_of (drop place bytes)
    by_length true is =
        let short : min 24 (length bytes) < place + 4 = ltb-true (min 24 (length bytes)) (place + 4) is in
        let rest : length (drop place bytes) < 4 = omega (arith, length-drop place bytes) in
        let none = lt-ltb (length (drop place bytes)) 4 rest in
        rw (is, none) refl
    by_length false is =
        let long : place + 4 ≤ min 24 (length bytes) = ltb-false (min 24 (length bytes)) (place + 4) is in
        let rest : 4 ≤ length (drop place bytes) = omega (arith, length-drop place bytes) in
        let some = le-ltb (length (drop place bytes)) 4 rest in
        let control : word_at (place + 2) bytes ≡ slice_index bytes (place + 2) * 256 + slice_index bytes (place + 2 + 1) =
        word_there (place + 2) bytes (omega arith) ∙ type_bytes (place + 2) bytes in
        let last : place + 2 + 1 ≡ place + 3 = omega arith in
        rw (is, control) (dscp_bytes (word_at place bytes) (slice_index bytes (place + 2)) (slice_index bytes (place + 2 + 1)) (drop place bytes)
        (byte_fits bytes fits (place + 2)) (byte_fits bytes fits (place + 2 + 1)) some
        (type_drop 0 place bytes ∙ zero_more ∙ sym (word_there place bytes (omega arith)))
        (get_or-drop place bytes 2 0) (get_or-drop place bytes 3 0 ∙ ap (slice_index bytes) (sym last)))
      where
        zero_more : type_at (place + 0) bytes ≡ type_at place bytes
        zero_more = ap (λ (i : ℕ). type_at i bytes) plus
          where
            plus : place + 0 ≡ place
            plus = omega arith
