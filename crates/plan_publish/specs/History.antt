-- The history of all accepted requests, which exists in contracts alone.
use Rattle.std.specs.Prelude.{ℕ, ◌≡◌, ◌==◌, true, List, [], ◌∷◌, ◌++◌, length, MatchBool}
use Rattle.logbook.specs.Pages.{Cell, Step, View, Book, Named}
use Rattle.omci_msg.specs.declared.Request.{Request}

-- which history it is
abbrev pub Home : Type 0
Home = Book

-- the first word is the length of the history. A book has two words, of which this one leaves the second at 0
pub record IsKept (cells : List Cell) (log : List Request) : Type 0 where
  pub words : cells ≡ (length log, true) ∷ (0, true) ∷ []

abbrev pub head_of : Home → Named
head_of home = record { tracked = true; key = 0; book = home }

-- the request was added to all that had been seen; or the history was longer
abbrev pub Extends : Step Request → View Request ℕ → ℕ → View Request ℕ → Type 0
Extends s v found w = MatchBool (found == s.old) (w.0 ≡ v.0 ++ s.ask ∷ []) (Unit {0})

-- the numbers of a history
abbrev pub key_of : Home → ℕ × ℕ × ℕ
key_of home = (home.number, home.log_name, home.cells_name)
