-- The first bad line of a part of a trace.
use Rattle.std.proofs.Common.{◌≡◌, ◌≤◌, ◌+◌, ℕ, zero, suc, Bool, true, false, if◌then◌else◌, List, [], ◌∷◌, Option, Some, None, take, refl, arith}
use Rattle.script_trace.specs.Script.{bad_among, first_bad}

either_none : (good : Bool) (all some : Option ℕ) (number : ℕ) → (all ≡ None → some ≡ None) → (if good then all else Some number) ≡ None
    → (if good then some else Some number) ≡ None
either_none true all some number rest none = rest none
either_none false all some number rest none = absurd (cc none)

none_among : (n : ℕ) (lines : List (List ℕ)) (from until : ℕ) → from ≤ until → bad_among n (take until lines) ≡ None → bad_among n (take from lines) ≡ None
none_among n lines zero until before none = refl
none_among n [] (suc from) until before none = refl
none_among n (line ∷ rest) (suc from) zero before none = absurd (omega arith)
none_among n (line ∷ rest) (suc from) (suc until) before none =
    either_none _ (bad_among (n + 1) (take until rest)) (bad_among (n + 1) (take from rest)) (n + 1) (none_among (n + 1) rest from until (omega arith)) none

-- where none is bad up to a line, none is up to one before
pub none_before : (trace : List ℕ) (from until : ℕ) → from ≤ until → first_bad (Some until) trace ≡ None → first_bad (Some from) trace ≡ None
none_before trace from until before none = none_among 0 _ from until before none
