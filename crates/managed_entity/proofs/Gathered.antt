-- One step of gathering the attributes that a mask names.
use Rattle.std.proofs.Common.{◌≡◌, ℕ, zero, suc, ◌+◌, ◌-◌, ◌%◌, ◌^◌, ◌<◌, ◌≤◌, true, false, leb, List, [], ◌∷◌, ◌++◌, length, drop, refl, ◌∙◌, arith, add-one, append_assoc, inl, inr, length-append, Option, Some, None, slice_get, sym}
use Rattle.std.proofs.lemmas.List.{append-nil}
use Rattle.std.proofs.lemmas.Bool.Decides.{nat_tests}
use Rattle.std.proofs.lemmas.Bool.{le-leb, cases_lt, false≢true}
use Rattle.managed_entity.specs.Mask.{names, bit_of}
use Rattle.managed_entity.specs.Get.{gathered}
use Rattle.managed_entity.proofs.Bits.{one_bit, no_bit}

-- what is left from a place that has v begins with v
pub drop_at_get : (values : List (List ℕ)) (i : ℕ) (v : List ℕ) → slice_get values i ≡ Some v → drop i values ≡ v ∷ drop (suc i) values
drop_at_get [] i v h = cc
drop_at_get (x ∷ values) zero v h = cc
drop_at_get (x ∷ values) (suc i) v h = drop_at_get values i v h

pub next_of : (values : List (List ℕ)) (i : ℕ) → i < length values → (v : List ℕ) × (slice_get values i ≡ Some v)
next_of [] i h = absurd (omega arith)
next_of (x ∷ values) zero h = (x, refl)
next_of (x ∷ values) (suc i) h = next_of values i (omega arith)

-- what the loop keeps: what is gathered so far and what the rest gives are the whole
pub record Keeps (mask : ℕ) (values : List (List ℕ)) (p returned left_out : ℕ) (bytes : List ℕ) : Type 0 where
  pub returned_is : returned + (gathered mask p (25 - length bytes) (drop p values)).returned ≡ (gathered mask 0 25 values).returned
  pub left_out_is : left_out + (gathered mask p (25 - length bytes) (drop p values)).left_out ≡ (gathered mask 0 25 values).left_out
  pub bytes_is : bytes ++ (gathered mask p (25 - length bytes) (drop p values)).bytes ≡ (gathered mask 0 25 values).bytes
  pub fits : length bytes ≤ 25
  pub bits : returned + left_out + mask % 2 ^ (16 - p) ≡ mask

gathered_other : (mask p room : ℕ) (v : List ℕ) (rest : List (List ℕ)) → names mask p ≡ false → gathered mask p room (v ∷ rest) ≡ gathered mask (suc p) room rest
gathered_other mask p room v rest n = rw n refl

gathered_returned : (mask p room : ℕ) (v : List ℕ) (rest : List (List ℕ)) → names mask p ≡ true → length v ≤ room → gathered mask p room (v ∷ rest) ≡ (let r = gathered mask (suc p) (room - length v) rest in record r { returned = bit_of p + r.returned; bytes = v ++ r.bytes })
gathered_returned mask p room v rest n h = rw (n, le-leb _ _ h) refl

gathered_left_out : (mask p room : ℕ) (v : List ℕ) (rest : List (List ℕ)) → names mask p ≡ true → room < length v → gathered mask p room (v ∷ rest) ≡ (let r = gathered mask (suc p) room rest in record r { left_out = bit_of p + r.left_out })
gathered_left_out mask p room v rest n h = let over : leb (length v) room ≡ false = grind (arith, nat_tests) in rw (n, over) refl

module _ (mask : ℕ) (values : List (List ℕ)) (p returned left_out : ℕ) (bytes : List ℕ) (kept : Keeps mask values p returned left_out bytes) (small : p < 16) where
  pub keeps_other : p < length values → names mask p ≡ false → Keeps mask values (p + 1) returned left_out bytes
  keeps_other h n =
      let at = next_of values p h in
      let e : gathered mask p (25 - length bytes) (drop p values) ≡ gathered mask (p + 1) (25 - length bytes) (drop (p + 1) values) =
      rw (drop_at_get values p at.0 at.1, gathered_other mask p _ at.0 _ n, add-one) refl in
      record {
        returned_is = rw (← e) kept.returned_is;
        left_out_is = rw (← e) kept.left_out_is;
        bytes_is = rw (← e) kept.bytes_is;
        fits = kept.fits;
        bits = omega (arith, kept.bits, no_bit mask p small n);
      }

  pub keeps_returned : (v : List ℕ) → slice_get values p ≡ Some v → names mask p ≡ true → length bytes + length v ≤ 25 → Keeps mask values (p + 1) (returned + bit_of p) left_out (bytes ++ v)
  keeps_returned v at n room =
      let rest = gathered mask (p + 1) (25 - length (bytes ++ v)) (drop (p + 1) values) in
      let left : 25 - length (bytes ++ v) ≡ 25 - length bytes - length v = simp length-append (omega arith) in
      let e : gathered mask p (25 - length bytes) (drop p values) ≡ record rest { returned = bit_of p + rest.returned; bytes = v ++ rest.bytes } =
      rw (drop_at_get values p v at, gathered_returned mask p (25 - length bytes) v _ n (omega arith), left, add-one) refl in
      record {
        returned_is = omega (arith, rw e at kept.returned_is);
        left_out_is = rw e at kept.left_out_is;
        bytes_is = append_assoc bytes v _ ∙ rw e at kept.bytes_is;
        fits = simp length-append room;
        bits = omega (arith, kept.bits, one_bit mask p small n);
      }

  pub keeps_left_out : (v : List ℕ) → slice_get values p ≡ Some v → names mask p ≡ true → 25 < length bytes + length v → Keeps mask values (p + 1) returned (left_out + bit_of p) bytes
  keeps_left_out v at n room =
      let rest = gathered mask (p + 1) (25 - length bytes) (drop (p + 1) values) in
      let e : gathered mask p (25 - length bytes) (drop p values) ≡ record rest { left_out = bit_of p + rest.left_out } =
      rw (drop_at_get values p v at, gathered_left_out mask p (25 - length bytes) v _ n (omega (arith, kept.fits)), add-one) refl in
      record {
        returned_is = rw e at kept.returned_is;
        left_out_is = omega (arith, rw e at kept.left_out_is);
        bytes_is = rw e at kept.bytes_is;
        fits = kept.fits;
        bits = omega (arith, kept.bits, one_bit mask p small n);
      }

  -- the masks stay below 2 ^ 16
  pub bit_fits : names mask p ≡ true → returned + left_out + bit_of p ≤ mask
  bit_fits n = omega (arith, kept.bits, one_bit mask p small n)

-- a sum that isn't at most m is over m
pub over_from : (n m : ℕ) → (n ≤ m → false ≡ true) → m < n
over_from n m h = elim (cases_lt m n) [ inl over ↦ over | inr le ↦ absurd (false≢true (h le)) ]

pub not_none : (o : Option (List ℕ)) (v : List ℕ) → None ≡ o → o ≡ Some v → ⊥
not_none o v e f = let none_is_some = e ∙ f in cc

drop_past : (p : ℕ) (values : List (List ℕ)) → length values ≤ p → drop p values ≡ []
drop_past zero [] h = refl
drop_past (suc p) [] h = refl
drop_past zero (v ∷ values) h = absurd (omega arith)
drop_past (suc p) (v ∷ values) h = drop_past p values (omega arith)

-- at the end all is gathered
pub gathered_all : (mask : ℕ) (values : List (List ℕ)) (p returned left_out : ℕ) (bytes : List ℕ) → Keeps mask values p returned left_out bytes → length values ≤ p
    → record { returned : returned ≡ (gathered mask 0 25 values).returned; left_out : left_out ≡ (gathered mask 0 25 values).left_out; bytes : bytes ≡ (gathered mask 0 25 values).bytes }
gathered_all mask values p returned left_out bytes kept past =
    let none : drop p values ≡ [] = drop_past p values past in
    record {
      returned = omega (arith, rw none at kept.returned_is);
      left_out = omega (arith, rw none at kept.left_out_is);
      bytes = sym (append-nil bytes) ∙ rw none at kept.bytes_is;
    }
