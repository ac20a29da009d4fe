use Rattle.std.proofs.Common.{◌⊎◌, ◌++◌, List, ℕ, inl, inr, subst, sym}
use Rattle.std.specs.Prelude.{Contains}
use Rattle.std.proofs.lemmas.List.Elements.{Contains-append_cases, Contains-append_left, Contains-append_right}
use Rattle.std.proofs.lemmas.List.Filters.{dedup_is}
use Rattle.std.proofs.lemmas.List.Kept.{Contains-dedup_nat, Contains-from_dedup}
use Rattle.std.proofs.lemmas.List.Sorted.{Contains-permutation, IsPermutation-sym}
use Rattle.std.proofs.lemmas.Map.Keys.{IsStrictlyIncreasing-dedup}
use Rattle.text_every_frame.proofs.ports.add_ports.Goals as goal

joined : (some others : List ℕ) (port : ℕ) → Contains some port ⊎ Contains others port → Contains (some ++ others) port
joined some others port (inl among) = Contains-append_left some others port among
joined some others port (inr among) = Contains-append_right some others port among

pub returns : goal.returns
returns c =
    let is = dedup_is _ _ _ c.dedup.ensures.filtered in
    let moved = c.sort_unstable.ensures.permutation in
    let both = c.in_ok-extend_from_slice.ensures.items in
    record {
      once = rw is (IsStrictlyIncreasing-dedup _ c.sort_unstable.ensures.sorted);
      each = λ port. (
        λ h. Contains-append_cases _ _ port (subst (λ (l : List ℕ). Contains l port) both
            (Contains-permutation _ _ port (IsPermutation-sym _ _ moved) (Contains-from_dedup _ _ port (rw is at h)))),
        λ h. rw is (Contains-dedup_nat _ port (Contains-permutation _ _ port moved (subst (λ (l : List ℕ). Contains l port) (sym both) (joined _ _ port h)))),
      );
    }
