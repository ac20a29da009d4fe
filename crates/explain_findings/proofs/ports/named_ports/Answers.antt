use Rattle.std.proofs.Common.{List, ℕ, subst, sym}
use Rattle.std.specs.Prelude.{Contains}
use Rattle.std.proofs.lemmas.List.Filters.{dedup_is}
use Rattle.std.proofs.lemmas.List.Kept.{Contains-dedup_nat, Contains-from_dedup}
use Rattle.std.proofs.lemmas.List.Sorted.{Contains-permutation, IsPermutation-sym}
use Rattle.std.proofs.lemmas.Map.Keys.{IsStrictlyIncreasing-dedup}
use Rattle.explain_findings.proofs.ports.named_ports.Goals as goal

pub returns : goal.returns
returns c =
    let is = dedup_is _ _ _ c.dedup.ensures.filtered in
    let moved = c.sort_unstable.ensures.permutation in
    let named = c.in_ok-list.ensures in
    record {
      once = rw is (IsStrictlyIncreasing-dedup _ c.sort_unstable.ensures.sorted);
      each = λ port. (
        λ h. subst (λ (l : List ℕ). Contains l port) named
            (Contains-permutation _ _ port (IsPermutation-sym _ _ moved) (Contains-from_dedup _ _ port (rw is at h))),
        λ h. rw is (Contains-dedup_nat _ port (Contains-permutation _ _ port moved (subst (λ (l : List ℕ). Contains l port) (sym named) h))),
      );
    }
