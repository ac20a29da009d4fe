-- What is left of a file in pieces.
use Rattle.std.specs.Prelude.{◌≡◌, ◌<◌, ◌≤◌, ℕ, ◌-◌, List, [], ◌∷◌, ◌++◌, length, drop}
use Rattle.capture_pieces.specs.declared.piece.Piece.{Piece}
use Rattle.capture_pieces.specs.Joined.{AreJoined, file_of, longest}

-- the bytes that are left of the first piece, and those of the file that it doesn't hold
abbrev pub left_of : List Piece → List ℕ → List ℕ
left_of [] rest = []
left_of (p ∷ behind) rest = rest ++ drop longest (file_of behind)

-- these bytes are the end of what the piece holds, and begin among its own
pub record BeginIn (p : Piece) (rest : List ℕ) : Type 0 where
  pub end : rest ≡ drop (length p.bytes.items - length rest) p.bytes.items
  pub within : length rest ≤ length p.bytes.items
  pub own : length p.bytes.items - p.own < length rest

-- they do so in the first of joined pieces
abbrev pub BeginInFirst : List Piece → List ℕ → Type 0
BeginInFirst [] rest = Unit {0}
BeginInFirst (p ∷ behind) rest = AreJoined (p ∷ behind) × BeginIn p rest
