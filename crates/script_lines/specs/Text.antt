-- The lines of a text.
use Rattle.std.specs.Prelude.{ℕ, List, [], ◌∷◌, ◌++◌, if◌then◌else◌, ◌==◌}

-- a text cut at each line feed: the lines that one ends, in order, and what stands behind the last of them
pub record Cut : Type 0 where
  pub ended : List (List ℕ)
  pub rest : List ℕ

-- with a byte more at the front
abbrev pub in_front : ℕ → List (List ℕ) → List ℕ → Cut
in_front b [] rest = record { ended = []; rest = b ∷ rest }
in_front b (line ∷ lines) rest = record { ended = (b ∷ line) ∷ lines; rest = rest }

abbrev pub cut : List ℕ → Cut
cut [] = record { ended = []; rest = [] }
cut (b ∷ bytes) =
    let after = cut bytes in
    if b == 10 then record { ended = [] ∷ after.ended; rest = after.rest } else in_front b after.ended after.rest

-- what stands behind the last line feed is a line too, if it is anything
abbrev pub last_line : List ℕ → List (List ℕ)
last_line [] = []
last_line (b ∷ rest) = (b ∷ rest) ∷ []

-- the lines of a text, without their line feeds
abbrev pub lines_of : List ℕ → List (List ℕ)
lines_of text = let all = cut text in all.ended ++ last_line all.rest
