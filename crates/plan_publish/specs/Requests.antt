-- Lists of requests, one of which begins another, and how many requests they have.
use Rattle.std.specs.Prelude.{◌≡◌, ℕ, ◌+◌, ◌-◌, ◌^◌, Bool, ◌&&◌, ◌==◌, List, [], ◌∷◌, ◌++◌, length, min, Option, Some, None, nat_eq}
use mathlib.Core.Bool.{beq}
use lib.Pointwise.{pointwise}
use Rattle.omci_msg.specs.Message.{code_of}
use Rattle.omci_msg.specs.declared.Request.{Request}

-- whether two requests are the same, field by field
abbrev pub is_same : Request → Request → Bool
is_same a b =
    a.tci == b.tci && code_of a.action == code_of b.action && beq a.wants_answer b.wants_answer
    && a.class == b.class && a.instance == b.instance && pointwise nat_eq a.contents b.contents

-- a list begins with another
abbrev pub StartsWith : List Request → List Request → Type 0
StartsWith all first = (rest : List Request) × (all ≡ first ++ rest)

-- a list begins with each of these
abbrev pub StartsWithEach : List Request → List (List Request) → Type 0
StartsWithEach all [] = Unit {0}
StartsWithEach all (one ∷ others) = StartsWith all one × StartsWithEach all others

-- a count, and one more, up to 2^64 - 1
abbrev pub one_more : ℕ → ℕ
one_more n = min (n + 1) (2 ^ 64 - 1)

-- the number of these requests, or 2^64 - 1 where there are more
abbrev pub version_of : List Request → ℕ
version_of requests = min (length requests) (2 ^ 64 - 1)

abbrev pub last_of : List Request → Option Request
last_of [] = None
last_of (q ∷ []) = Some q
last_of (q ∷ p ∷ qs) = last_of (p ∷ qs)
