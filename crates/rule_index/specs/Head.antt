-- The head of a frame: the tags that are read, and the type behind them. A tag is kept as the word of its
-- four bytes (IEEE 802.1Q, 9.6).
use Rattle.std.specs.Prelude.{ℕ, List, [], ◌∷◌, Result, Ok, Err, zero, suc, if◌then◌else◌, nat_lt, length, drop}
use Rattle.tag_view.specs.Tag.{TagFields}
use Rattle.tag_view.specs.Frame.{Reading, frame_of, tags_of, type_at}
use Rattle.tag_view.specs.declared.fault.FrameFault.{FrameFault}

-- what the filters of an entry look at
pub record FrameHead : Type 0 where
  -- outermost first
  pub tags : List TagFields
  pub type : ℕ

-- the head of a frame that is read
abbrev pub head_of : Reading → FrameHead
head_of reading = record { tags = reading.tags; type = type_at 0 reading.rest }

-- of a reading or a fault
abbrev pub head_in : Result Reading FrameFault → Result FrameHead FrameFault
head_in (Ok reading) = Ok (head_of reading)
head_in (Err fault) = Err fault

-- the head of the frame that some bytes are, or the frame's first fault
abbrev pub head_read : ℕ → List ℕ → Result FrameHead FrameFault
head_read input bytes = head_in (frame_of input bytes)

-- how many tags are read of a frame that has room for two of them and the type behind them, and 128 of a shorter one
abbrev pub tags_ahead : ℕ → List ℕ → ℕ
tags_ahead input bytes = if nat_lt (length bytes) 22 then 128 else length (tags_of input (drop 12 bytes))

-- ---- tags that are kept as words

-- none, the second or both of two tags: of a frame with one tag this is the outer and the inner one
abbrev pub last_tags : ℕ → TagFields → TagFields → List TagFields
last_tags zero outer inner = []
last_tags (suc zero) outer inner = inner ∷ []
last_tags (suc (suc n)) outer inner = outer ∷ inner ∷ []
