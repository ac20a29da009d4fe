-- How many bytes digits spell.
use Rattle.std.proofs.Common.{◌≡◌, ◌==◌, ℕ, ◌*◌, List, [], length, true, Result, Ok, Err, refl, arith}
use Rattle.std.specs.Result.{is_ok, result_unwrap_or}
use Rattle.hex.specs.Hex.{decode_of}
use Rattle.hex.specs.declared.error.FromHexError.{FromHexError}
use Rattle.hex.proofs.HexLemmas.{decode_of-ok}

bytes_of : (r : Result (List ℕ) FromHexError) → is_ok r ≡ true → r ≡ Ok (result_unwrap_or r [])
bytes_of (Ok bytes) is = refl
bytes_of (Err fault) is = cc is

-- two digits for each byte
pub twice_as_many : (digits : List ℕ) → is_ok (decode_of digits) ≡ true → length digits ≡ 2 * length (result_unwrap_or (decode_of digits) [])
twice_as_many digits is = (decode_of-ok digits (result_unwrap_or (decode_of digits) []) (bytes_of (decode_of digits) is)).2

-- as many are none together
pub none_or_some : (n m : ℕ) → n ≡ 2 * m → (n == 0) ≡ (m == 0)
none_or_some n m is = grind arith
