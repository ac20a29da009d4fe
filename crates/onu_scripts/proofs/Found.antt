-- What is found, in a room.
use Rattle.std.proofs.Common.{◌≡◌, ◌⊎◌, ℕ, ℤ, Bool, true, false, not, List, inl, inr}
use Rattle.onu_cell.specs.Numbers.{small}
use Rattle.onu_scripts.specs.Comparing.{FindsInto}
use Rattle.onu_scripts.specs.Making.{MakesInto, made_number}

pub found_so : (IsFound : Bool → Type 0) (nothing : Bool) (room after : List ℕ) (result : ℤ) (written : ℕ) → IsFound nothing
    → MakesInto room after result written → (result ≡ small) ⊎ (result ≡ made_number (not nothing)) → FindsInto IsFound room after result written
found_so IsFound true room after result written is made (inl short) =
    record { nothing = λ zero. absurd (cc (short, zero)); something = λ one. absurd (cc (short, one)); made = made }
found_so IsFound true room after result written is made (inr told) =
    record { nothing = λ zero. is; something = λ one. absurd (cc (told, one)); made = made }
found_so IsFound false room after result written is made (inl short) =
    record { nothing = λ zero. absurd (cc (short, zero)); something = λ one. absurd (cc (short, one)); made = made }
found_so IsFound false room after result written is made (inr told) =
    record { nothing = λ zero. absurd (cc (told, zero)); something = λ one. is; made = made }
