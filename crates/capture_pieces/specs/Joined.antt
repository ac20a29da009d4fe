-- The file that pieces hold.
use Rattle.std.specs.Prelude.{◌≡◌, ℕ, ◌≤◌, List, [], ◌∷◌, ◌++◌, length, take}
use Rattle.capture_pieces.specs.declared.piece.Piece.{Piece}

-- the most bytes that a record of a capture has: 16, and the stored ones
abbrev pub longest : ℕ
longest = 262160

-- the bytes of the file that stand in a piece alone
abbrev pub own_of : Piece → List ℕ
own_of p = take p.own p.bytes.items

-- the file: these, piece by piece
abbrev pub file_of : List Piece → List ℕ
file_of [] = []
file_of (p ∷ behind) = own_of p ++ file_of behind

-- behind its own bytes a piece holds those that follow in the file: as many as the longest record has, or all
pub record Holds (p : Piece) (behind : List ℕ) : Type 0 where
  pub own : p.own ≤ length p.bytes.items
  pub bytes : p.bytes.items ≡ own_of p ++ take longest behind

abbrev pub AreJoined : List Piece → Type 0
AreJoined [] = Unit {0}
AreJoined (p ∷ behind) = Holds p (file_of behind) × AreJoined behind
