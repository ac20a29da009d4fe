-- The rows of faults, and what a frame without one is to the other rows.
use Rattle.std.proofs.Common.{◌≡◌, ℕ, ◌^◌, ◌<◌, ◌≤◌, true, false, ◌&&◌, List, [], ◌∷◌, ◌++◌, Some, Ok, arith, refl, ap, length, drop, min, ◌∙◌}
use Rattle.std.specs.Prelude.{All}
use Rattle.std.proofs.lemmas.Bool.{le-leb, lt-leb}
use Rattle.tag_view.specs.Tag.{is_tag_type}
use Rattle.tag_view.specs.Frame.{Reading, frame_of, tag_at, type_at, with_tags}
use Rattle.tag_view.specs.Dscp.{dscp_of}
use Rattle.vlan_rule.specs.declared.filter.EthertypeFilter.{EthertypeFilter}
use Rattle.vlan_rule.specs.declared.filter.Filter.{Filter}
use Rattle.vlan_rule.specs.Choice.{are_tags, has_type}
use Rattle.frame_rows.specs.declared.row.Row.{Row}
use Rattle.frame_rows.specs.Field.{values_of, word_at}
use Rattle.frame_rows.specs.Row.{first_cut_row, first_row, runt_row, second_cut_row}
use Rattle.frame_rows.specs.Rows.{fault_rows}
use Rattle.frame_rows.specs.Sight.{slots}
use Rattle.frame_rows.proofs.Matching.{and_false, filter_passes, passes_with_one, passes_with_two, passes_without}
use Rattle.frame_rows.proofs.Priorities.{Describes}
use Rattle.frame_rows.proofs.Reading.{tagged, twice_tagged, untagged}
use Rattle.frame_rows.proofs.Slots.{no_slots, one_slot, two_slots}
use Rattle.frame_rows.proofs.Words.{word_there}

-- ---- frames with a fault

pub runt_is : (input : ℕ) (bytes : List ℕ) (rest : List Row) → length bytes < 14 → first_row (fault_rows input ++ rest) (values_of bytes) ≡ Some runt_row
unfolding values_of
runt_is input bytes rest short =
    rw (le-leb 0 (min 24 (length bytes)) (omega arith), le-leb (min 24 (length bytes)) 13 (omega arith)) refl

pub first_cut_is : (input : ℕ) (bytes : List ℕ) (rest : List Row) → 14 ≤ length bytes → length bytes < 18 → is_tag_type input (type_at 12 bytes) ≡ true
    → first_row (fault_rows input ++ rest) (values_of bytes) ≡ Some (first_cut_row input)
unfolding values_of
first_cut_is input bytes rest long short tag =
    let first : is_tag_type input (word_at 12 bytes) ≡ true = ap (is_tag_type input) (word_there 12 bytes long) ∙ tag in
    rw (
      le-leb 0 (min 24 (length bytes)) (omega arith),
      lt-leb (min 24 (length bytes)) 13 (omega arith),
      le-leb 14 (min 24 (length bytes)) (omega arith),
      le-leb (min 24 (length bytes)) 17 (omega arith),
      first,
    ) refl

pub second_cut_is : (input : ℕ) (bytes : List ℕ) (rest : List Row) → 18 ≤ length bytes → length bytes < 22 → is_tag_type input (type_at 12 bytes) ≡ true
    → is_tag_type input (type_at 16 bytes) ≡ true → first_row (fault_rows input ++ rest) (values_of bytes) ≡ Some (second_cut_row input)
unfolding values_of
second_cut_is input bytes rest long short tag tag' =
    let first : is_tag_type input (word_at 12 bytes) ≡ true = ap (is_tag_type input) (word_there 12 bytes (omega arith)) ∙ tag in
    let second : is_tag_type input (word_at 16 bytes) ≡ true = ap (is_tag_type input) (word_there 16 bytes (omega arith)) ∙ tag' in
    rw (
      le-leb 0 (min 24 (length bytes)) (omega arith),
      lt-leb (min 24 (length bytes)) 13 (omega arith),
      le-leb 14 (min 24 (length bytes)) (omega arith),
      lt-leb (min 24 (length bytes)) 17 (omega arith),
      le-leb 18 (min 24 (length bytes)) (omega arith),
      le-leb (min 24 (length bytes)) 21 (omega arith),
      first,
      second,
    ) refl

-- ---- frames without

-- a frame that is read so, to rows
pub record IsRead (input : ℕ) (bytes : List ℕ) (frame : Reading) : Type 0 where
  pub read : frame_of input bytes ≡ Ok frame
  pub pass : (f : Filter) (type : EthertypeFilter)
      → filter_passes f type input (values_of bytes) ≡ (are_tags input f frame.tags && has_type type (type_at 0 frame.rest))
  pub describes : Describes (values_of bytes) frame.tags (dscp_of frame.rest)
  pub no_fault : (rest : List Row) → first_row (fault_rows input ++ rest) (values_of bytes) ≡ first_row rest (values_of bytes)
  pub whole : with_tags bytes (length frame.tags) frame.tags ≡ frame
  pub slots_are : slots (length frame.tags) (values_of bytes) ≡ frame.tags

pub read_untagged : (input : ℕ) (bytes : List ℕ) → 14 ≤ length bytes → is_tag_type input (type_at 12 bytes) ≡ false → All (λ b. b < 2 ^ 8) bytes
    → IsRead input bytes (with_tags bytes 0 [])
unfolding values_of
read_untagged input bytes long no_tag fits =
    let is = untagged input bytes long no_tag fits in
    let first : is_tag_type input (word_at 12 bytes) ≡ false = is.passes.first in
    record {
      read = is.read;
      pass = λ f type. passes_without input (values_of bytes) f type is.passes ∙ ap (λ (n : ℕ). are_tags input f [] && has_type type n) is.type;
      describes = is.describes;
      no_fault = λ rest. rw (lt-leb (min 24 (length bytes)) 13 (omega arith), first) (simp and_false);
      whole = refl;
      slots_are = no_slots (values_of bytes);
    }

pub read_tagged : (input : ℕ) (bytes : List ℕ) → 18 ≤ length bytes → is_tag_type input (type_at 12 bytes) ≡ true
    → is_tag_type input (type_at 16 bytes) ≡ false → All (λ b. b < 2 ^ 8) bytes
    → IsRead input bytes (with_tags bytes 1 (tag_at 0 (drop 12 bytes) ∷ []))
unfolding values_of
read_tagged input bytes long tag no_tag fits =
    let is = tagged input bytes long tag no_tag fits in
    let second : is_tag_type input (word_at 16 bytes) ≡ false = is.passes.second in
    record {
      read = is.read;
      pass = λ f type. passes_with_one input (values_of bytes) (tag_at 0 (drop 12 bytes)) f type is.passes ∙ ap (λ (n : ℕ). are_tags input f (tag_at 0 (drop 12 bytes) ∷ []) && has_type type n) is.type;
      describes = is.describes;
      no_fault = λ rest. rw (lt-leb (min 24 (length bytes)) 13 (omega arith), lt-leb (min 24 (length bytes)) 17 (omega arith), second) (simp and_false);
      whole = refl;
      slots_are = one_slot bytes (omega arith) fits;
    }

pub read_twice_tagged : (input : ℕ) (bytes : List ℕ) → 22 ≤ length bytes → is_tag_type input (type_at 12 bytes) ≡ true
    → is_tag_type input (type_at 16 bytes) ≡ true → All (λ b. b < 2 ^ 8) bytes
    → IsRead input bytes (with_tags bytes 2 (tag_at 0 (drop 12 bytes) ∷ tag_at 4 (drop 12 bytes) ∷ []))
unfolding values_of
read_twice_tagged input bytes long tag tag' fits =
    let is = twice_tagged input bytes long tag tag' fits in
    record {
      read = is.read;
      pass = λ f type. passes_with_two input (values_of bytes) (tag_at 0 (drop 12 bytes)) (tag_at 4 (drop 12 bytes)) f type is.passes
          ∙ ap (λ (n : ℕ). are_tags input f (tag_at 0 (drop 12 bytes) ∷ tag_at 4 (drop 12 bytes) ∷ []) && has_type type n) is.type;
      describes = is.describes;
      no_fault = λ rest. rw (lt-leb (min 24 (length bytes)) 13 (omega arith), lt-leb (min 24 (length bytes)) 17 (omega arith), lt-leb (min 24 (length bytes)) 21 (omega arith)) (simp and_false);
      whole = refl;
      slots_are = two_slots bytes (omega arith) fits;
    }
