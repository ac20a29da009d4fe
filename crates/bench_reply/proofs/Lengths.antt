-- Bytes that are too many for a message.
use Rattle.std.proofs.Common.{◌≡◌, ◌<◌, ℕ, true, false, List, [], length, Option, Some, None, Result, Ok, ap, refl, arith}
use Rattle.std.specs.Option.{MatchOption, option_map}
use Rattle.std.specs.Result.{is_ok, result_ok, result_unwrap_or}
use Rattle.std.proofs.lemmas.Bool.{ne_eqb}
use Rattle.std.proofs.lemmas.Option.{same_Some}
use Rattle.omci_msg.specs.Message.{reply_of, request_of}
use Rattle.std.specs.Prelude.{◌==◌}

pub long_request : (bytes : List ℕ) → 48 < length bytes → result_ok (request_of bytes) ≡ None
unfolding request_of
long_request bytes long =
    let not_48 : (length bytes == 48) ≡ false = ne_eqb (length bytes) 48 (λ e. omega (arith, e, long)) in
    let not_44 : (length bytes == 44) ≡ false = ne_eqb (length bytes) 44 (λ e. omega (arith, e, long)) in
    rw not_48 (rw not_44 refl)

pub long_reply : (bytes : List ℕ) → 48 < length bytes → result_ok (reply_of bytes) ≡ None
unfolding reply_of
long_reply bytes long =
    let not_48 : (length bytes == 48) ≡ false = ne_eqb (length bytes) 48 (λ e. omega (arith, e, long)) in
    let not_44 : (length bytes == 44) ≡ false = ne_eqb (length bytes) 44 (λ e. omega (arith, e, long)) in
    rw not_48 (rw not_44 refl)

-- what is there where something went well
pub went_well : {E : Type 0} (r : Result (List ℕ) E) (bytes : List ℕ) → r ≡ Ok bytes
    → (is_ok r ≡ true) × (length (result_unwrap_or r []) ≡ length bytes)
went_well r bytes is =
    (ap is_ok is, ap (λ (o : Result (List ℕ) _). length (result_unwrap_or o [])) is)

-- what is read where something is spelled
pub read_some : {X : Type 0} (f : X → List ℕ) (r : Option X) (bytes : List ℕ) (P : Type 0) → option_map f r ≡ Some bytes
    → MatchOption r P (λ x. f x ≡ bytes)
read_some f (Some x) bytes P is = same_Some (f x) bytes is
read_some f None bytes P is = cc is
