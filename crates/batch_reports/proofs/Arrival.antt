-- What is gathered doesn't depend on the order of arrival.
use Rattle.std.proofs.Common.{subst, ◌≡◌, ℕ, List, [], ◌∷◌, length, Some, refl, sym, ◌∙◌, arith}
use Rattle.std.specs.Prelude.{slice_get, suc}
use Rattle.std.proofs.lemmas.List.Sorted.{length_permutation, Contains-permutation, IsPermutation-sym}
use Rattle.batch_reports.specs.Gathering.{SameInEveryOrder, GatheredOnce}

pub same_in_every_order : SameInEveryOrder
same_in_every_order count given other out p g = record {
  len = g.len;
  none_lost = length_permutation given other p ∙ g.none_lost;
  placed = λ r has. g.placed r (Contains-permutation other given r (IsPermutation-sym given other p) has);
  found = λ k r is. let f = g.found k r is in (Contains-permutation given other r p f.0, f.1);
}

-- lists of one length that have the same at each place
same_list : {X : Type 0} (xs ys : List X) → length xs ≡ length ys → ((k : ℕ) (x : X) → slice_get xs k ≡ Some x → slice_get ys k ≡ Some x) → xs ≡ ys
same_list [] [] len h = refl
same_list [] (y ∷ ys) len h = absurd (omega (arith, len))
same_list (x ∷ xs) [] len h = absurd (omega (arith, len))
same_list (x ∷ xs) (y ∷ ys) len h =
    let first : Some y ≡ Some x = h 0 x refl in
    let same : x ≡ y = cc in
    let rest : xs ≡ ys = same_list xs ys (omega (arith, len)) (λ k z e. h (suc k) z e) in
    cc

pub gathered_once : GatheredOnce
gathered_once count given other one two p g h = same_list two one (h.len ∙ sym g.len) (λ k r is.
    let f = h.found k r is in
    let there = g.placed r (Contains-permutation other given r (IsPermutation-sym given other p) f.0) in
    subst (λ (n : ℕ). slice_get one n ≡ Some r) f.1 there)
