-- Records that are passed one after the other.
use Rattle.std.proofs.Common.{◌≡◌, ◌≤◌, ◌<◌, ◌==◌, ◌⊎◌, inr, ℕ, ◌+◌, ◌-◌, false, List, [], ◌∷◌, None, length, drop, arith, refl, sym, ap, ◌∙◌}
use Rattle.std.proofs.lemmas.Bool.{ne_eqb}
use Rattle.std.proofs.lemmas.List.{drop-drop}
use Rattle.capture.specs.declared.order.Order.{Order}
use Rattle.capture.specs.Records.{behind_first, first_frame, frames_in, record_fault}
use Rattle.capture.proofs.Captures.{whole_sizes}
use Rattle.capture.proofs.Walk.{behind_shorter, fault_whole, frames_whole}
use Rattle.capture_pieces.specs.Walk.{Passed, fault_at}

-- where nothing is left there is no fault
pub fault_none : (order : Order) (n : ℕ) (left : List ℕ) → length left ≡ 0 → fault_at order n left ≡ None
fault_none order n [] none = refl
fault_none order n (x ∷ left) none = absurd (omega (arith, none))

pub frames_gone : (order : Order) (left : List ℕ) → length left ≡ 0 → length (frames_in order left) ≡ 0
unfolding frames_in
frames_gone order [] none = refl
frames_gone order (x ∷ left) none = absurd (omega (arith, none))

-- none was passed yet
pub passed_none : (order : Order) (first : ℕ) (all : List ℕ) → first ≤ 4294967295 → Passed order first first all first all
passed_none order first all few = record {
  fault = refl;
  frames = ap (λ k. drop k (frames_in order all)) (let none : 0 ≡ first - first = omega arith in none);
  counted = refl;
  shorter = omega arith;
  begun = omega arith;
  at_most = omega arith;
  enough = inr refl;
  few = few;
}

-- one record more
pub passed_more : (order : Order) (first n : ℕ) (all left behind : List ℕ) → Passed order first n all n left → record_fault order left ≡ None → behind ≡ behind_first order left → n < 4294967295
    → Passed order first (n + 1) all (n + 1) behind
passed_more order first n all left behind p whole is few =
    let sizes = whole_sizes order left whole in
    let some : (length left == 0) ≡ false = ne_eqb (length left) 0 (λ none. omega (arith, none, sizes.long)) in
    let counted : (n == 4294967295) ≡ false = ne_eqb n 4294967295 (λ all. omega (arith, few, all)) in
    let step : frames_in order left ≡ first_frame order left ∷ frames_in order behind = rw is (frames_whole order left whole) in
    let short : length behind ≤ length left - 1 = rw is (behind_shorter order left (length left - 1) (omega (arith, sizes.long))) in
    let one : (n - first) + 1 ≡ n + 1 - first = omega (arith, p.begun) in
    record {
      fault = ap (λ (l : List ℕ). fault_at order (n + 1) l) is ∙ sym (fault_whole order n left some counted whole) ∙ p.fault;
      frames = ap (λ (l : List (List ℕ)). drop 1 l) (sym step ∙ p.frames) ∙ drop-drop 1 (n - first) (frames_in order all) ∙ ap (λ k. drop k (frames_in order all)) one;
      counted = omega (arith, p.counted, ap (λ (l : List (List ℕ)). length l) step);
      shorter = omega (arith, p.shorter, short, sizes.long);
      begun = omega (arith, p.begun);
      at_most = omega arith;
      enough = inr refl;
      few = omega (arith, few);
    }

-- no further ones are to be passed
pub passed_all : (order : Order) (first n end : ℕ) (all left : List ℕ) → Passed order first n all n left → n ≤ end → (length left ≡ 0) ⊎ (n ≡ end) → Passed order first end all n left
passed_all order first n end all left p le enough =
    record { fault = p.fault; frames = p.frames; counted = p.counted; shorter = p.shorter; begun = p.begun; at_most = le; enough = enough; few = p.few }
