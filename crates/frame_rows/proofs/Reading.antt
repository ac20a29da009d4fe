-- A frame is read so, or has a fault, by its values.
use Rattle.std.proofs.Common.{◌≡◌, ℕ, ◌/◌, ◌%◌, ◌^◌, ◌<◌, ◌≤◌, true, false, List, [], ◌∷◌, Ok, arith, refl, ap, sym, length, drop, min, ◌∙◌}
use Rattle.std.specs.Prelude.{All}
use Rattle.std.proofs.lemmas.Bool.{le-leb, le-ltb}
use Rattle.tag_view.specs.Tag.{is_tag_type}
use Rattle.tag_view.specs.Frame.{fault_of, frame_of, tag_at, type_at, with_tags}
use Rattle.tag_view.specs.Dscp.{dscp_of}
use Rattle.tag_view.proofs.Readings.{frame_read}
use Rattle.frame_rows.specs.declared.field.Field.TheVariants.{FirstType, SecondType, ThirdType, FirstPriority, SecondPriority}
use Rattle.frame_rows.specs.Field.{value_at, values_of, word_at}
use Rattle.frame_rows.proofs.Matching.{WithOneTag, WithTwoTags, WithoutTag}
use Rattle.frame_rows.proofs.Priorities.{Describes}
use Rattle.frame_rows.proofs.Words.{dscp_at, first_tag, second_tag, type_drop, type_fits, word_there}

-- a priority is under 8
small_priority : (word : ℕ) → word < 2 ^ 16 → word / 2 ^ 13 % 2 ^ 3 ≡ word / 2 ^ 13
small_priority word fits = omega arith

first_priority : (bytes : List ℕ) → 16 ≤ length bytes → All (λ b. b < 2 ^ 8) bytes
    → value_at FirstPriority (values_of bytes) % 2 ^ 3 ≡ type_at 2 (drop 12 bytes) / 2 ^ 13
unfolding values_of
first_priority bytes long fits =
    let word : word_at 14 bytes ≡ type_at 2 (drop 12 bytes) = word_there 14 bytes (omega arith) ∙ sym (type_drop 2 12 bytes) in
    ap (λ (n : ℕ). n / 2 ^ 13 % 2 ^ 3) word ∙ small_priority (type_at 2 (drop 12 bytes)) (small (type_drop 2 12 bytes) (type_fits 14 bytes fits))
  where
    small : {a b : ℕ} → a ≡ b → b < 2 ^ 16 → a < 2 ^ 16
    small e h = omega arith

second_priority : (bytes : List ℕ) → 20 ≤ length bytes → All (λ b. b < 2 ^ 8) bytes
    → value_at SecondPriority (values_of bytes) % 2 ^ 3 ≡ type_at 6 (drop 12 bytes) / 2 ^ 13
unfolding values_of
second_priority bytes long fits =
    let word : word_at 18 bytes ≡ type_at 6 (drop 12 bytes) = word_there 18 bytes (omega arith) ∙ sym (type_drop 6 12 bytes) in
    ap (λ (n : ℕ). n / 2 ^ 13 % 2 ^ 3) word ∙ small_priority (type_at 6 (drop 12 bytes)) (small (type_drop 6 12 bytes) (type_fits 18 bytes fits))
  where
    small : {a b : ℕ} → a ≡ b → b < 2 ^ 16 → a < 2 ^ 16
    small e h = omega arith

-- ---- frames that are read

-- a frame without a tag
pub record IsUntagged (input : ℕ) (bytes : List ℕ) : Type 0 where
  pub read : frame_of input bytes ≡ Ok (with_tags bytes 0 [])
  pub passes : WithoutTag input (values_of bytes)
  pub type : value_at FirstType (values_of bytes) ≡ type_at 0 (drop 12 bytes)
  pub describes : Describes (values_of bytes) [] (dscp_of (drop 12 bytes))

pub untagged : (input : ℕ) (bytes : List ℕ) → 14 ≤ length bytes → is_tag_type input (type_at 12 bytes) ≡ false → All (λ b. b < 2 ^ 8) bytes
    → IsUntagged input bytes
unfolding values_of fault_of
untagged input bytes long no_tag fits =
    record {
      read = frame_read input bytes (with_tags bytes 0 []) (rw (le-ltb (length bytes) 14 long, no_tag) refl) (rw no_tag refl);
      passes = record {
        least = le-leb 14 (min 24 (length bytes)) (omega arith);
        most = le-leb (min 24 (length bytes)) 24 (omega arith);
        first = ap (is_tag_type input) (word_there 12 bytes long) ∙ no_tag;
      };
      type = word_there 12 bytes long ∙ sym (type_drop 0 12 bytes);
      describes = record { tags_are = tt; dscp_is = dscp_at 12 bytes (omega arith) fits };
    }

-- a frame with one tag
pub record IsTagged (input : ℕ) (bytes : List ℕ) : Type 0 where
  pub read : frame_of input bytes ≡ Ok (with_tags bytes 1 (tag_at 0 (drop 12 bytes) ∷ []))
  pub passes : WithOneTag input (values_of bytes) (tag_at 0 (drop 12 bytes))
  pub type : value_at SecondType (values_of bytes) ≡ type_at 0 (drop 16 bytes)
  pub describes : Describes (values_of bytes) (tag_at 0 (drop 12 bytes) ∷ []) (dscp_of (drop 16 bytes))

pub tagged : (input : ℕ) (bytes : List ℕ) → 18 ≤ length bytes → is_tag_type input (type_at 12 bytes) ≡ true
    → is_tag_type input (type_at 16 bytes) ≡ false → All (λ b. b < 2 ^ 8) bytes → IsTagged input bytes
unfolding values_of fault_of
tagged input bytes long tag no_tag fits =
    let second : is_tag_type input (type_at 4 (drop 12 bytes)) ≡ false = ap (is_tag_type input) (type_drop 4 12 bytes) ∙ no_tag in
    record {
      read =
          frame_read input bytes (with_tags bytes 1 (tag_at 0 (drop 12 bytes) ∷ []))
          (rw (le-ltb (length bytes) 14 (omega arith), tag, le-ltb (length bytes) 18 long, no_tag) refl) (rw (tag, second) refl);
      passes = record {
        least = le-leb 18 (min 24 (length bytes)) (omega arith);
        most = le-leb (min 24 (length bytes)) 24 (omega arith);
        first = ap (is_tag_type input) (word_there 12 bytes (omega arith)) ∙ tag;
        second = ap (is_tag_type input) (word_there 16 bytes (omega arith)) ∙ no_tag;
        is_tag = first_tag bytes (omega arith);
      };
      type = word_there 16 bytes (omega arith) ∙ sym (type_drop 0 16 bytes);
      describes = record { tags_are = first_priority bytes (omega arith) fits; dscp_is = dscp_at 16 bytes (omega arith) fits };
    }

-- a frame with two tags
pub record IsTwiceTagged (input : ℕ) (bytes : List ℕ) : Type 0 where
  pub read : frame_of input bytes ≡ Ok (with_tags bytes 2 (tag_at 0 (drop 12 bytes) ∷ tag_at 4 (drop 12 bytes) ∷ []))
  pub passes : WithTwoTags input (values_of bytes) (tag_at 0 (drop 12 bytes)) (tag_at 4 (drop 12 bytes))
  pub type : value_at ThirdType (values_of bytes) ≡ type_at 0 (drop 20 bytes)
  pub describes : Describes (values_of bytes) (tag_at 0 (drop 12 bytes) ∷ tag_at 4 (drop 12 bytes) ∷ []) (dscp_of (drop 20 bytes))

pub twice_tagged : (input : ℕ) (bytes : List ℕ) → 22 ≤ length bytes → is_tag_type input (type_at 12 bytes) ≡ true
    → is_tag_type input (type_at 16 bytes) ≡ true → All (λ b. b < 2 ^ 8) bytes → IsTwiceTagged input bytes
unfolding values_of fault_of
twice_tagged input bytes long tag tag' fits =
    let second : is_tag_type input (type_at 4 (drop 12 bytes)) ≡ true = ap (is_tag_type input) (type_drop 4 12 bytes) ∙ tag' in
    record {
      read =
          frame_read input bytes (with_tags bytes 2 (tag_at 0 (drop 12 bytes) ∷ tag_at 4 (drop 12 bytes) ∷ []))
          (rw (le-ltb (length bytes) 14 (omega arith), tag, le-ltb (length bytes) 18 (omega arith), tag', le-ltb (length bytes) 22 long) refl)
          (rw (tag, second) refl);
      passes = record {
        least = le-leb 22 (min 24 (length bytes)) (omega arith);
        most = le-leb (min 24 (length bytes)) 24 (omega arith);
        first = ap (is_tag_type input) (word_there 12 bytes (omega arith)) ∙ tag;
        second = ap (is_tag_type input) (word_there 16 bytes (omega arith)) ∙ tag';
        is_outer = first_tag bytes (omega arith);
        is_inner = second_tag bytes (omega arith);
      };
      type = word_there 20 bytes (omega arith) ∙ sym (type_drop 0 20 bytes);
      describes = record {
        tags_are = (first_priority bytes (omega arith) fits, second_priority bytes (omega arith) fits);
        dscp_is = dscp_at 20 bytes (omega arith) fits;
      };
    }
