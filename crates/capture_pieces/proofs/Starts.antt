-- Where batches begin, as records are passed batch by batch.
use Rattle.std.proofs.Common.{◌≡◌, ◌≤◌, ◌<◌, ◌⊎◌, inl, inr, ⊎_elim, ℕ, zero, suc, ◌+◌, ◌-◌, ◌*◌, List, [], ◌∷◌, ◌++◌, Some, length, drop, take, arith, refl, sym, ap, ◌∙◌}
use Rattle.std.specs.Prelude.{slice_get}
use Rattle.std.proofs.Math.Nat.{mul-le-mul_right}
use Rattle.std.proofs.lemmas.List.{drop-drop, length-append}
use Rattle.capture.specs.declared.order.Order.{Order}
use Rattle.capture.specs.Records.{first_fault, frames_in}
use Rattle.capture_pieces.specs.Cut.{batch_of}
use Rattle.capture_pieces.specs.Walk.{AreStarts, IsCut, Passed, fault_at}
use Rattle.capture_pieces.proofs.Walked.{fault_none, frames_gone}

-- so many records were passed from the batches that begin there, and these bytes are left
pub record Cutting (order : Order) (size : ℕ) (all : List ℕ) (starts : List (List ℕ)) (count : ℕ) (left : List ℕ) : Type 0 where
  pub fault : fault_at order count left ≡ first_fault order all
  pub frames : frames_in order left ≡ drop count (frames_in order all)
  pub counted : length (frames_in order all) ≡ length (frames_in order left) + count
  pub begin : AreStarts order size (frames_in order all) starts
  pub next : (length left ≡ 0) ⊎ (count ≡ length starts * size)
  pub enough : count ≤ length starts * size
  pub few : count ≤ 4294967295

-- the last of a list with one more, or one of the others
pub last_or_before : {X : Type 0} (xs : List X) (x : X) (i : ℕ) (y : X) → slice_get (xs ++ x ∷ []) i ≡ Some y → (slice_get xs i ≡ Some y) ⊎ ((i ≡ length xs) × (x ≡ y))
last_or_before [] x zero y h = inr (refl, (let e : x ≡ y = cc in e))
last_or_before [] x (suc i) y h = absurd (let e : ⊥ = cc in e)
last_or_before (z ∷ zs) x zero y h = inl h
last_or_before (z ∷ zs) x (suc i) y h =
    ⊎_elim (λ (old : slice_get zs i ≡ Some y). inl old) (λ (new : (i ≡ length zs) × (x ≡ y)). inr (ap suc new.0, new.1)) (last_or_before zs x i y h)

pub cutting_none : (order : Order) (size : ℕ) (all : List ℕ) → Cutting order size all [] 0 all
unfolding first_fault
cutting_none order size all = record {
  fault = refl;
  frames = refl;
  counted = omega arith;
  begin = λ k start h. absurd (let e : ⊥ = cc in e);
  next = inr (let none : 0 ≡ 0 * size = omega arith in none);
  enough = omega arith;
  few = omega arith;
}

-- one batch more
pub cutting_more : (order : Order) (size : ℕ) (all : List ℕ) (starts : List (List ℕ)) (count : ℕ) (left : List ℕ) (next : ℕ) (behind : List ℕ)
    → Cutting order size all starts count left → 0 < length left → Passed order count (count + size) left next behind
    → Cutting order size all (starts ++ left ∷ []) next behind
cutting_more order size all starts count left next behind c some p =
    let full : count ≡ length starts * size = ⊎_elim (λ (none : length left ≡ 0). absurd (omega (arith, none, some))) (λ (at : count ≡ length starts * size). at) c.next in
    let many : length (starts ++ left ∷ []) ≡ length starts + 1 = length-append starts (left ∷ []) in
    let more : (length starts + 1) * size ≡ length starts * size + size = grind arith in
    let end : length (starts ++ left ∷ []) * size ≡ count + size = ap (λ k. k * size) many ∙ more ∙ ap (λ k. k + size) (sym full) in
    let passed : count + (next - count) ≡ next = omega (arith, p.begun) in
    record {
      fault = p.fault ∙ c.fault;
      frames = p.frames ∙ ap (λ (l : List (List ℕ)). drop (next - count) l) c.frames ∙ drop-drop (next - count) count (frames_in order all) ∙ ap (λ k. drop k (frames_in order all)) passed;
      counted = omega (arith, p.counted, c.counted);
      begin = λ k start h. ⊎_elim
          (λ (old : slice_get starts k ≡ Some start). c.begin k start old)
          (λ (new : (k ≡ length starts) × (left ≡ start)).
          ap (λ (l : List ℕ). frames_in order l) (sym new.1) ∙ c.frames ∙ ap (λ n. drop n (frames_in order all)) (full ∙ ap (λ n. n * size) (sym new.0)))
          (last_or_before starts left k start h);
      next = ⊎_elim (λ (none : length behind ≡ 0). inl none) (λ (at : next ≡ count + size). inr (at ∙ sym end)) p.enough;
      enough = omega (arith, p.at_most, end);
      few = p.few;
    }

-- nothing is left
pub cutting_all : (order : Order) (size : ℕ) (all : List ℕ) (starts : List (List ℕ)) (count : ℕ) (left : List ℕ) → Cutting order size all starts count left → length left ≡ 0 → IsCut order size all starts count
cutting_all order size all starts count left c none = record {
  whole = sym c.fault ∙ fault_none order count left none;
  begin = c.begin;
  counted = omega (arith, c.counted, frames_gone order left none);
  enough = c.enough;
  few = c.few;
}

drop_past : {X : Type 0} (n : ℕ) (xs : List X) → length xs ≤ n → drop n xs ≡ []
drop_past zero [] le = refl
drop_past (suc n) [] le = refl
drop_past zero (x ∷ xs) le = absurd (omega (arith, le))
drop_past (suc n) (x ∷ xs) le = drop_past n xs (omega (arith, le))

none_of_none : {X : Type 0} (n : ℕ) (xs : List X) → xs ≡ [] → take n xs ≡ []
none_of_none zero xs is = refl
none_of_none (suc n) [] is = refl
none_of_none (suc n) (x ∷ xs) is = absurd (let e : ⊥ = cc in e)

-- behind the last batch there are no frames
pub past_all : (order : Order) (size : ℕ) (all : List ℕ) (starts : List (List ℕ)) (count k : ℕ) → IsCut order size all starts count → length starts ≤ k → batch_of size k (frames_in order all) ≡ []
past_all order size all starts count k c past =
    let frames = frames_in order all in
    let grows : length starts * size ≤ k * size = mul-le-mul_right size past in
    none_of_none size (drop (k * size) frames) (drop_past (k * size) frames (omega (arith, c.counted, c.enough, grows)))
