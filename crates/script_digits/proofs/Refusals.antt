-- What isn't read.
use Rattle.std.proofs.Common.{◌≡◌, ◌*◌, ℕ, List, length, true, false, Result, Ok, Err, refl}
use Rattle.std.specs.Prelude.{IsOk, MatchResult}
use Rattle.std.specs.List.{AllPass}
use Rattle.hex.specs.Hex.{decode_sized, is_hex_digit}
use Rattle.hex.specs.declared.error.FromHexError.{FromHexError}
use Rattle.hex.proofs.HexLemmas.{IsOk-decode_sized}

-- an answer that isn't one of bytes leaves the bytes as they were
left : (read : Result (List ℕ) FromHexError) (bytes : List ℕ) → (IsOk read → ⊥)
    → MatchResult read (λ new. (false ≡ true) × (bytes ≡ new)) (λ _. (false ≡ false) × (bytes ≡ bytes))
left (Ok new) bytes h = absurd (h refl)
left (Err e) bytes h = (refl, refl)

-- what hasn't two digits for each byte, or isn't digits alone, is refused
pub refused : (digits bytes : List ℕ) → ((length digits ≡ 2 * length bytes) × AllPass is_hex_digit digits → ⊥)
    → MatchResult (decode_sized digits (length bytes))
    (λ new. (false ≡ true) × (bytes ≡ new))
    (λ _. (false ≡ false) × (bytes ≡ bytes))
refused digits bytes h =
    left (decode_sized digits (length bytes)) bytes (λ ok. h ((IsOk-decode_sized digits (length bytes)).0 ok))
