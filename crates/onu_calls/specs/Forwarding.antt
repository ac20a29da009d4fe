-- What becomes of a frame that is sent into a port of the unit in a cell, in numbers. The cell is empty, or it holds a unit in some
-- state.
use Rattle.std.specs.Prelude.{◌≡◌, ℕ, ◌-◌, ℤ, pos, List, [], ◌∷◌, Option, Some, None, option_map, unwrap_or, length, slice_get, take, drop}
use Rattle.tag_view.specs.Tag.{TagFields}
use Rattle.tag_view.specs.Word.{word_of}
use Rattle.frame_meaning.specs.Meaning.{meaning}
use Rattle.frame_meaning.specs.Reason.{number_of_reason}
use Rattle.frame_meaning.specs.declared.verdict.Verdict.{Verdict}
use Rattle.frame_meaning.specs.declared.verdict.Verdict.TheVariants.{Forward, Drop}
use Rattle.mib_upload.specs.Upload.{DeskState}
use Rattle.onu_cell.specs.Numbers.{closed}
use Rattle.onu_calls.specs.declared.verdict.CVerdict.{CVerdict}

abbrev pub verdict_in : Option DeskState → ℕ → List ℕ → Option Verdict
verdict_in held port bytes = option_map (λ s. meaning s.mib.entities port bytes) held

-- whether the frame leaves
abbrev pub verdict_number : Option Verdict → ℤ
verdict_number None = closed
verdict_number (Some (Forward gem frame)) = pos 1
verdict_number (Some (Drop reason)) = pos 0

-- the four bytes of the tag at a place as one number, or 0 where there is none
abbrev pub word_at : List TagFields → ℕ → ℕ
word_at tags place = unwrap_or (option_map word_of (slice_get tags place)) 0

abbrev pub words_of : List TagFields → List ℕ
words_of tags = word_at tags 0 ∷ word_at tags 1 ∷ word_at tags 2 ∷ word_at tags 3 ∷ []

-- a verdict on a frame, in numbers
abbrev pub said_of : List ℕ → Verdict → CVerdict
said_of bytes (Forward gem frame) = record {
  gem = gem;
  reason = 0;
  count = length frame.tags;
  tags = words_of frame.tags;
  rest = length bytes - length frame.rest;
}
said_of bytes (Drop reason) = record {
  gem = 0;
  reason = number_of_reason reason;
  count = 0;
  tags = 0 ∷ 0 ∷ 0 ∷ 0 ∷ [];
  rest = 0;
}

-- the room for the verdict: its numbers, or what was in it
abbrev pub verdict_room : CVerdict → List ℕ → Option Verdict → CVerdict
verdict_room room bytes None = room
verdict_room room bytes (Some verdict) = said_of bytes verdict

-- a frame that leaves stands in the bytes that came in: its addresses are the first twelve, and its rest begins where it is said to
abbrev pub StandsIn : List ℕ → ℕ → Option Verdict → Type 0
StandsIn bytes rest None = Unit {0}
StandsIn bytes rest (Some (Forward gem frame)) = (frame.addresses ≡ take 12 bytes) × (frame.rest ≡ drop rest bytes)
StandsIn bytes rest (Some (Drop reason)) = Unit {0}
