-- A text in pieces, of which each has whole lines.
use Rattle.std.specs.Prelude.{◌≡◌, ℕ, List, [], ◌∷◌, ◌++◌, drop}
use Rattle.script_lines.specs.Text.{cut, lines_of}
use Rattle.bench_history.specs.declared.piece.Piece.{Piece}

-- the bytes of the text that stand in a piece
abbrev pub own_of : Piece → List ℕ
own_of p = drop p.from p.bytes.items

-- the text of pieces: these bytes, piece by piece
abbrev pub text_of : List Piece → List ℕ
text_of [] = []
text_of (p ∷ behind) = own_of p ++ text_of behind

-- the lines of pieces, each by itself
abbrev pub lines_in : List Piece → List (List ℕ)
lines_in [] = []
lines_in (p ∷ behind) = lines_of (own_of p) ++ lines_in behind

-- no line crosses a border: the lines of the text are those of its pieces
abbrev pub AreWhole : List Piece → Type 0
AreWhole pieces = lines_of (text_of pieces) ≡ lines_in pieces

-- bytes whose last one ends a line
pub record IsEnded (bytes : List ℕ) : Type 0 where
  pub line : List ℕ
  pub lines : List (List ℕ)
  pub is : cut bytes ≡ record { ended = line ∷ lines; rest = [] }

-- bytes that end a line, if they are any
abbrev pub IsWhole : List ℕ → Type 0
IsWhole bytes = (cut bytes).rest ≡ []
