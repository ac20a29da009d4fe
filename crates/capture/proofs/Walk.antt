-- The walk over the records, one at a time.
use Rattle.std.proofs.Common.{◌≡◌, ◌≤◌, ℕ, zero, suc, ◌+◌, ◌==◌, true, false, List, [], ◌∷◌, length, Option, Some, None, arith, refl, ap, length-drop}
use Rattle.std.specs.Prelude.{if◌then◌else◌, is_some}
use Rattle.std.proofs.lemmas.Bool.{eqb-true}
use Rattle.capture.specs.declared.fault.CaptureFault.{CaptureFault}
use Rattle.capture.specs.declared.fault.CaptureFault.TheVariants.{Torn}
use Rattle.capture.specs.declared.order.Order.{Order}
use Rattle.capture.specs.declared.record.RecordFault.{RecordFault}
use Rattle.capture.specs.Records.{at_record, record_fault, first_frame, behind_first, frames_from, frames_in, or_later, fault_from}

-- what is left gets shorter
pub behind_shorter : (order : Order) (bytes : List ℕ) (most : ℕ) → length bytes ≤ suc most → length (behind_first order bytes) ≤ most
behind_shorter order bytes most h =
    simp length-drop (omega (arith, h))

-- a number of records that is enough may be any other
pub frames_enough : (a b : ℕ) (order : Order) (bytes : List ℕ) → length bytes ≤ a → length bytes ≤ b → frames_from a order bytes ≡ frames_from b order bytes
frames_enough zero zero order bytes ha hb = refl
frames_enough zero (suc b) order [] ha hb = refl
frames_enough zero (suc b) order (x ∷ bytes) ha hb = absurd (omega (arith, ha))
frames_enough (suc a) zero order [] ha hb = refl
frames_enough (suc a) zero order (x ∷ bytes) ha hb = absurd (omega (arith, hb))
frames_enough (suc a) (suc b) order bytes ha hb =
    ap (λ (more : List (List ℕ)). if is_some (record_fault order bytes) then [] else first_frame order bytes ∷ more)
    (frames_enough a b order (behind_first order bytes) (behind_shorter order bytes a ha) (behind_shorter order bytes b hb))

pub fault_enough : (a b : ℕ) (order : Order) (n : ℕ) (bytes : List ℕ) → length bytes ≤ a → length bytes ≤ b → fault_from a order n bytes ≡ fault_from b order n bytes
fault_enough zero zero order n bytes ha hb = refl
fault_enough zero (suc b) order n [] ha hb = refl
fault_enough zero (suc b) order n (x ∷ bytes) ha hb = absurd (omega (arith, ha))
fault_enough (suc a) zero order n [] ha hb = refl
fault_enough (suc a) zero order n (x ∷ bytes) ha hb = absurd (omega (arith, hb))
fault_enough (suc a) (suc b) order n bytes ha hb =
    ap (λ (later : Option CaptureFault). if length bytes == 0 then None else (if n == 4294967295 then Some (Torn n) else or_later n (record_fault order bytes) later))
    (fault_enough a b order (n + 1) (behind_first order bytes) (behind_shorter order bytes a ha) (behind_shorter order bytes b hb))

-- the frames are the first one and those behind it
pub frames_step : (order : Order) (bytes : List ℕ)
    → frames_in order bytes ≡ (if is_some (record_fault order bytes) then [] else first_frame order bytes ∷ frames_in order (behind_first order bytes))
unfolding frames_in
frames_step order [] = refl
frames_step order (x ∷ bytes) =
    let behind = behind_first order (x ∷ bytes) in
    ap (λ (more : List (List ℕ)). if is_some (record_fault order (x ∷ bytes)) then [] else first_frame order (x ∷ bytes) ∷ more)
    (frames_enough (length bytes) (length behind) order behind (behind_shorter order (x ∷ bytes) (length bytes) (omega arith)) (omega arith))

-- the first fault from the record of this number on
abbrev pub fault_at : Order → ℕ → List ℕ → Option CaptureFault
fault_at order n bytes = fault_from (length bytes) order n bytes

pub fault_step : (order : Order) (n : ℕ) (bytes : List ℕ)
    → fault_at order n bytes ≡ (if length bytes == 0 then None else (if n == 4294967295 then Some (Torn n) else or_later n (record_fault order bytes) (fault_at order (n + 1) (behind_first order bytes))))
fault_step order n [] = refl
fault_step order n (x ∷ bytes) =
    let behind = behind_first order (x ∷ bytes) in
    ap (λ (later : Option CaptureFault). if length (x ∷ bytes) == 0 then None else (if n == 4294967295 then Some (Torn n) else or_later n (record_fault order (x ∷ bytes)) later))
    (fault_enough (length bytes) (length behind) order (n + 1) behind (behind_shorter order (x ∷ bytes) (length bytes) (omega arith)) (omega arith))

-- a whole record at the front
pub frames_whole : (order : Order) (bytes : List ℕ) → record_fault order bytes ≡ None → frames_in order bytes ≡ first_frame order bytes ∷ frames_in order (behind_first order bytes)
frames_whole order bytes whole = rw whole at (frames_step order bytes)

pub fault_whole : (order : Order) (n : ℕ) (bytes : List ℕ) → (length bytes == 0) ≡ false → (n == 4294967295) ≡ false → record_fault order bytes ≡ None
    → fault_at order n bytes ≡ fault_at order (n + 1) (behind_first order bytes)
fault_whole order n bytes some few whole = rw (some, few, whole) at (fault_step order n bytes)

-- none at the front
pub frames_broken : (order : Order) (bytes : List ℕ) (fault : RecordFault) → record_fault order bytes ≡ Some fault → frames_in order bytes ≡ []
frames_broken order bytes fault broken = rw broken at (frames_step order bytes)

pub fault_broken : (order : Order) (n : ℕ) (bytes : List ℕ) (fault : RecordFault) → (length bytes == 0) ≡ false → (n == 4294967295) ≡ false → record_fault order bytes ≡ Some fault
    → fault_at order n bytes ≡ Some (at_record n fault)
fault_broken order n bytes fault some few broken = rw (some, few, broken) at (fault_step order n bytes)

-- more records than can be counted
pub fault_many : (order : Order) (n : ℕ) (bytes : List ℕ) → (length bytes == 0) ≡ false → (n == 4294967295) ≡ true → fault_at order n bytes ≡ Some (Torn n)
fault_many order n bytes some many = rw (some, many) at (fault_step order n bytes)

suc_is_not_zero : (n : ℕ) → (suc n == 0) ≡ true → ⊥
suc_is_not_zero n is = omega (arith, eqb-true (suc n) 0 is)

-- nothing is left
pub frames_none : (order : Order) (bytes : List ℕ) → (length bytes == 0) ≡ true → frames_in order bytes ≡ []
unfolding frames_in
frames_none order [] none = refl
frames_none order (x ∷ bytes) none = absurd (suc_is_not_zero (length bytes) none)
