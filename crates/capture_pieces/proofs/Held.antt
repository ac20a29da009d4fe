-- A record that begins in a piece, by what the piece holds: x is held from its beginning on, and m stands in the file behind what is held.
use Rattle.std.proofs.Common.{◌≡◌, ◌≤◌, ◌<◌, ℕ, false, true, List, [], ◌∷◌, ◌++◌, None, length, drop, arith, refl, ap, length-drop, length-append}
use Rattle.std.specs.Prelude.{nat_lt}
use Rattle.std.proofs.lemmas.Bool.{le-ltb, ltb-false}
use Rattle.std.proofs.lemmas.List.{append-nil, drop-append-le, take-append-le}
use Rattle.capture.specs.declared.order.Order.{Order}
use Rattle.capture.specs.Records.{behind_first, first_frame, record_fault, stored_length}
use Rattle.capture.proofs.Captures.{number_behind, whole_sizes}

-- the length of the frame stands in what is held
pub stored_held : (order : Order) (x m : List ℕ) → 12 ≤ length x → stored_length order (x ++ m) ≡ stored_length order x
stored_held order x m long = number_behind 8 order x m (omega (arith, long))

-- where something isn't held, as much is as the longest record has: so the fault of the record is that of what is held
pub fault_held : (order : Order) (x m : List ℕ) → (0 < length m → 262160 ≤ length x) → record_fault order (x ++ m) ≡ record_fault order x
fault_held order x [] reach = ap (λ (all : List ℕ). record_fault order all) (append-nil x)
fault_held order x (y ∷ m) reach =
    let long : 262160 ≤ length x = reach (omega arith) in
    let stored : stored_length order (x ++ (y ∷ m)) ≡ stored_length order x = stored_held order x (y ∷ m) (omega (arith, long)) in
    let a : nat_lt (length x) 16 ≡ false = le-ltb (length x) 16 (omega (arith, long)) in
    let b : nat_lt (length (x ++ (y ∷ m))) 16 ≡ false = le-ltb (length (x ++ (y ∷ m))) 16 (simp length-append (omega (arith, long))) in
    elim (nat_lt 262144 (stored_length order x)) as (λ t. nat_lt 262144 (stored_length order x) ≡ t → record_fault order (x ++ (y ∷ m)) ≡ record_fault order x) [
      | true ↦ λ big. rw (stored, a, b, big) refl
      | false ↦ λ small.
          let fits : stored_length order x ≤ 262144 = ltb-false 262144 (stored_length order x) small in
          let d : nat_lt (length (drop 16 x)) (stored_length order x) ≡ false =
          le-ltb (length (drop 16 x)) (stored_length order x) (simp length-drop (omega (arith, long, fits))) in
          let e : nat_lt (length (drop 16 (x ++ (y ∷ m)))) (stored_length order x) ≡ false =
          le-ltb (length (drop 16 (x ++ (y ∷ m)))) (stored_length order x) (simp (length-drop, length-append) (omega (arith, long, fits))) in
          rw (stored, a, b, small, d, e) refl
    ] refl

-- a whole record is held whole
pub record IsHeld (order : Order) (x m : List ℕ) : Type 0 where
  pub frame : first_frame order (x ++ m) ≡ first_frame order x
  pub behind : behind_first order (x ++ m) ≡ behind_first order x ++ m

pub record_held : (order : Order) (x m : List ℕ) → record_fault order x ≡ None → IsHeld order x m
record_held order x m whole =
    let sizes = whole_sizes order x whole in
    let stored : stored_length order (x ++ m) ≡ stored_length order x = stored_held order x m (omega (arith, sizes.long)) in
    let past : drop 16 (x ++ m) ≡ drop 16 x ++ m = drop-append-le 16 x m sizes.long in
    record {
      frame = rw (stored, past) (take-append-le (stored_length order x) (drop 16 x) m sizes.all);
      behind = rw (stored, past) (drop-append-le (stored_length order x) (drop 16 x) m sizes.all);
    }
