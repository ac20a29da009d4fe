use Rattle.std.proofs.Common.{◌⊎◌, ◌++◌, List, ℕ, inl, inr, subst, sym}
use Rattle.std.specs.Prelude.{Contains}
use Rattle.std.proofs.lemmas.List.Elements.{Contains-append_left, Contains-append_right}
use Rattle.std.proofs.lemmas.List.Filters.{dedup_is}
use Rattle.std.proofs.lemmas.List.Kept.{Contains-dedup_nat}
use Rattle.std.proofs.lemmas.List.Sorted.{Contains-permutation}
use Rattle.migration_check.proofs.ports.add_ports.Goals as goal

joined : (some others : List ℕ) (port : ℕ) → Contains some port ⊎ Contains others port → Contains (some ++ others) port
joined some others port (inl among) = Contains-append_left some others port among
joined some others port (inr among) = Contains-append_right some others port among

either : {A B C : Type 0} → (B → C) → A ⊎ B → A ⊎ C
either f (inl a) = inl a
either f (inr b) = inr (f b)

pub returns : goal.returns
returns c =
    let is = dedup_is _ _ _ c.dedup.ensures.filtered in
    let moved = c.sort_unstable.ensures.permutation in
    let both = c.in_ok-extend_from_slice.ensures.items in
    record {
      each = λ port h.
          rw is (Contains-dedup_nat _ port (Contains-permutation _ _ port moved (subst (λ (l : List ℕ). Contains l port) (sym both)
          (joined _ _ port (either (λ named. subst (λ (l : List ℕ). Contains l port) (sym c.deref.ensures.value) ((c.in_ok-more.ensures.each port).1 named)) h)))));
    }
