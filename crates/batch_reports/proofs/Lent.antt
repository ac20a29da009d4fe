-- Items in order by what they are made into: a tally that is lent stands for the tally.
use Rattle.std.proofs.Common.{◌≡◌, ℕ, ◌+◌, ◌≤◌, ◌^◌, List, [], ◌∷◌, ◌++◌, map, Some, refl, ap, sym, subst, ◌∙◌, suc, zero}
use Rattle.std.specs.Prelude.{slice_get, option_map}
use Rattle.std.specs.Borrow.{Bor}
use Rattle.std.specs.List.{Contains, sum, sum_by}
use Rattle.std.proofs.lemmas.List.{length-map, map-append}
use Rattle.std.proofs.lemmas.List.Sums.{sum-map}
use Rattle.std.proofs.lemmas.Option.{slice_get-get_or}
use Rattle.std.proofs.lemmas.Simd.{map-map}
use Rattle.frame_stats.specs.declared.counts.Counts.{Counts}
use Rattle.frame_stats.specs.Figures.{Figure, counted}
use Rattle.batch_reports.specs.declared.batch.Tally.{Tally}
use Rattle.batch_reports.specs.declared.fault.GatherFault.{GatherFault}
use Rattle.batch_reports.specs.declared.fault.GatherFault.TheVariants.{Double, Stranger, Missing, NoMemory, CountFull}
use Rattle.batch_reports.specs.Gathering.{AreInOrder, AreVersionsOf, IsWhyNot, IsWhyOfTallies, SumPasses, has_number, misplaced_behind, missing_from}
use Rattle.batch_reports.proofs.Misfits.{contained}

pub mapped_at : {X Y : Type 0} (f : X → Y) (xs : List X) (k : ℕ) (y : Y) → slice_get (map f xs) k ≡ Some y → (x : X) × (slice_get xs k ≡ Some x) × (f x ≡ y)
mapped_at f [] k y h = absurd (let e : ⊥ = cc in e)
mapped_at f (x ∷ xs) zero y h = (x, refl, (let e : f x ≡ y = cc in e))
mapped_at f (x ∷ xs) (suc k) y h = mapped_at f xs k y h

get_mapped : {X Y : Type 0} (f : X → Y) (xs : List X) (k : ℕ) (x : X) → slice_get xs k ≡ Some x → slice_get (map f xs) k ≡ Some (f x)
get_mapped f [] k x h = absurd (let e : ⊥ = cc in e)
get_mapped f (z ∷ zs) zero x h = let e : z ≡ x = cc in ap (λ y. Some (f y)) e
get_mapped f (z ∷ zs) (suc k) x h = get_mapped f zs k x h

got : {X : Type 0} (xs : List X) (x : X) → Contains xs x → (i : ℕ) × (slice_get xs i ≡ Some x)
got xs x h = (h.0, slice_get-get_or xs h.0 x h.1 ∙ ap Some h.2)

sum_mapped : {X Y : Type 0} (f : X → Y) (g : Y → ℕ) (xs : List X) → sum_by g (map f xs) ≡ sum_by (λ x. g (f x)) xs
sum_mapped f g xs = sym (sum-map g (map f xs)) ∙ ap sum (map-map g f xs) ∙ sum-map (λ x. g (f x)) xs

module _ {X Y : Type 0} (f : X → Y) (number : Y → ℕ) where
  abbrev of : X → ℕ
  of x = number (f x)

  has_mapped : (n : ℕ) (xs : List X) → has_number of n xs ≡ has_number number n (map f xs)
  has_mapped n [] = refl
  has_mapped n (x ∷ xs) = rw (has_mapped n xs) refl

  missing_mapped : (k more : ℕ) (xs : List X) → missing_from of k more xs ≡ missing_from number k more (map f xs)
  missing_mapped k zero xs = refl
  missing_mapped k (suc more) xs = rw (has_mapped k xs, missing_mapped (k + 1) more xs) refl

  misplaced_mapped : (count : ℕ) (earlier rest : List X) → misplaced_behind of count earlier rest ≡ misplaced_behind number count (map f earlier) (map f rest)
  misplaced_mapped count earlier [] = ap (option_map Missing) (missing_mapped 0 count earlier)
  misplaced_mapped count earlier (x ∷ rest) =
      let more = misplaced_mapped count (earlier ++ x ∷ []) rest ∙ ap (λ (l : List Y). misplaced_behind number count l (map f rest)) (map-append f earlier (x ∷ [])) in
      rw (has_mapped (of x) earlier, more) refl

  in_order_mapped : (count : ℕ) (given out : List X) → AreInOrder of count given out → AreInOrder number count (map f given) (map f out)
  in_order_mapped count given out o = record {
    len = length-map out f ∙ o.len;
    none_lost = length-map given f ∙ o.none_lost;
    placed = λ y has.
        let at = got (map f given) y has in
        let m = mapped_at f given at.0 y at.1 in
        subst (λ (z : Y). slice_get (map f out) (number z) ≡ Some z) m.2 (get_mapped f out (of m.0) m.0 (o.placed m.0 (contained given at.0 m.0 m.1)));
    found = λ k y h.
        let m = mapped_at f out k y h in
        let p = o.found k m.0 m.1 in
        let at = got given m.0 p.0 in
        (subst (Contains (map f given)) m.2 (contained (map f given) at.0 (f m.0) (get_mapped f given at.0 m.0 at.1)), ap number (sym m.2) ∙ p.1);
  }

-- ---- tallies that are lent

abbrev tally_of : Bor Tally → Tally
tally_of t = t.now

pub versions_of_lent : (count : ℕ) (lent out : List (Bor Tally)) (given : List Tally) (versions : List ℕ) (c : Counts) → map tally_of lent ≡ given
    → AreInOrder (λ (t : Bor Tally). t.now.batch) count lent out → versions ≡ map (λ (t : Bor Tally). t.now.version) out
    → ((f : Figure) → counted c f ≡ sum_by (λ (t : Bor Tally). counted t.now.counts f) out) → AreVersionsOf count given versions c
versions_of_lent count lent out given versions c same o is sums = record {
  out = map tally_of out;
  in_order = subst (λ (l : List Tally). AreInOrder (λ (t : Tally). t.batch) count l (map tally_of out)) same (in_order_mapped tally_of (λ (t : Tally). t.batch) count lent out o);
  versions_are = is ∙ sym (map-map (λ (t : Tally). t.version) tally_of out);
  sums = λ f. sums f ∙ sym (sum_mapped tally_of (λ (t : Tally). counted t.counts f) out);
}

pub misplaced_lent : (count : ℕ) (lent : List (Bor Tally)) (given : List Tally) → map tally_of lent ≡ given
    → misplaced_behind (λ (t : Bor Tally). t.now.batch) count [] lent ≡ misplaced_behind (λ (t : Tally). t.batch) count [] given
misplaced_lent count lent given same =
    misplaced_mapped tally_of (λ (t : Tally). t.batch) count [] lent ∙ ap (misplaced_behind (λ (t : Tally). t.batch) count []) same

pub why_lent : (count : ℕ) (lent : List (Bor Tally)) (given : List Tally) (fault : GatherFault) → map tally_of lent ≡ given
    → IsWhyNot (λ (t : Bor Tally). t.now.batch) (SumPasses (λ (t : Bor Tally). t.now.counts)) count lent fault → IsWhyOfTallies count given fault
why_lent count lent given (Double n) same why = sym (misplaced_lent count lent given same) ∙ why
why_lent count lent given (Stranger n) same why = sym (misplaced_lent count lent given same) ∙ why
why_lent count lent given (Missing n) same why = sym (misplaced_lent count lent given same) ∙ why
why_lent count lent given NoMemory same why = why
why_lent count lent given CountFull same why =
    let out = why.1 in
    let passed = why.3 in (
      sym (misplaced_lent count lent given same) ∙ why.0,
      map tally_of out,
      subst (λ (l : List Tally). AreInOrder (λ (t : Tally). t.batch) count l (map tally_of out)) same (in_order_mapped tally_of (λ (t : Tally). t.batch) count lent out why.2),
      (passed.0, subst (λ (n : ℕ). 2 ^ 64 ≤ n) (sym (sum_mapped tally_of (λ (t : Tally). counted t.counts passed.0) out)) passed.1),
    )
