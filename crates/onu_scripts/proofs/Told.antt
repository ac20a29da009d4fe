-- What is said of expectations in a room.
use Rattle.std.proofs.Common.{◌≡◌, ℕ, ℤ, List, Option, None, refl, inl, inr}
use Rattle.onu_scripts.specs.Expecting.{ChecksInto, TellsInto}

-- behind a trace no line of which is bad
pub told_so : (bad : Option ℕ) (room after : List ℕ) (result : ℤ) (written : ℕ) → bad ≡ None → TellsInto room after result written
    → ChecksInto bad room after result written 0
told_so bad room after result written none (inl made) =
    inl (inr (record { good = inl none; names = refl; found = record { nothing = λ zero. tt; something = λ one. tt; made = made } }))
told_so bad room after result written none (inr is) = inr (record { good = none; number = is.0; names = refl; put = is.1 })
