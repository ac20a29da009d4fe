-- Versions by which none of several frames may be one that left.
use Rattle.std.proofs.Common.{◌≡◌, ◌≤◌, ◌+◌, ℕ, Bool, true, false, List, length, take, Decides, inl, inr, refl, sym, subst, ◌∙◌, arith, true≢false}
use Rattle.std.proofs.lemmas.Bool.{cases_lt}
use Rattle.omci_msg.specs.declared.request.Request.{Request}
use Rattle.mib_state.specs.Entities.{Entities}
use Rattle.mib_state.specs.After.{after}
use Rattle.bench_history.specs.Among.{OneOf}
use Rattle.bench_history.specs.declared.event.Event.{Event}
use Rattle.bench_history.specs.declared.event.Event.TheVariants.{Left}
use Rattle.bench_history.specs.declared.extent.Extent.{Extent}
use Rattle.bench_history.specs.declared.gem.SeenGem.{SeenGem}
use Rattle.bench_judge.specs.Doubt.{IsSomeAt, IsSomeOf, MayBeAt}
use Rattle.bench_judge.specs.declared.frame.Frame.{Frame}

-- the frame of a number may be the one that left, by a version
abbrev pub MayBeBy : Bool → List Event → List Frame → SeenGem → Extent → OneOf → ℕ → Entities → ℕ → Type 0
MayBeBy padded events frames gem extent among v e n = MayBeAt padded events frames n (Left gem extent n among.frame) v e

-- by no version up to one
abbrev pub NoneUpTo : Bool → List Event → List Request → List Frame → SeenGem → Extent → OneOf → ℕ → Type 0
NoneUpTo padded events requests frames gem extent among n =
    (v : ℕ) → v ≤ n → IsSomeAt padded events frames gem extent among v (after (take v requests)) → ⊥

module _ (padded : Bool) (events : List Event) (requests : List Request) (frames : List Frame) (gem : SeenGem) (extent : Extent) (among : OneOf) where
  not_by : (n v : ℕ) (e : Entities) (result : Bool) → e ≡ after (take n requests) → Decides result (IsSomeAt padded events frames gem extent among n e)
      → result ≡ false → v ≡ n → IsSomeAt padded events frames gem extent among v (after (take v requests)) → ⊥
  not_by n v e result live decides none_here same some =
      let here : IsSomeAt padded events frames gem extent among n (after (take n requests)) =
      subst (λ k. IsSomeAt padded events frames gem extent among k (after (take k requests))) same some in
      true≢false (sym (decides.1 (subst (λ (x : Entities). IsSomeAt padded events frames gem extent among n x) (sym live) here)) ∙ none_here)

  pub none_first : (e : Entities) (result : Bool) → e ≡ after (take 0 requests) → Decides result (IsSomeAt padded events frames gem extent among 0 e)
      → result ≡ false → NoneUpTo padded events requests frames gem extent among 0
  none_first e result live decides none_here v le some = not_by 0 v e result live decides none_here (omega (arith, le)) some

  pub none_next : (n : ℕ) (e : Entities) (result : Bool) → e ≡ after (take (n + 1) requests)
      → Decides result (IsSomeAt padded events frames gem extent among (n + 1) e)
      → result ≡ false → NoneUpTo padded events requests frames gem extent among n → NoneUpTo padded events requests frames gem extent among (n + 1)
  none_next n e result live decides none_here none v le some =
      elim (cases_lt v (n + 1)) [
        | inl under ↦ none v (omega (arith, under)) some
        | inr over ↦ not_by (n + 1) v e result live decides none_here (omega (arith, le, over)) some
      ]

  pub some_here : (n : ℕ) (e : Entities) (result : Bool) → n ≤ length requests → e ≡ after (take n requests)
      → Decides result (IsSomeAt padded events frames gem extent among n e)
      → result ≡ true → Decides true (IsSomeOf padded events requests frames gem extent among)
  some_here n e result le live decides one = (
    λ is. (n, le, subst (λ (x : Entities). IsSomeAt padded events frames gem extent among n x) live (decides.0 one)),
    λ some. refl,
  )

  pub none_of_all : (n : ℕ) → length requests ≤ n → NoneUpTo padded events requests frames gem extent among n
      → Decides false (IsSomeOf padded events requests frames gem extent among)
  none_of_all n all none = (
    λ is. absurd (true≢false (sym is)),
    λ some. absurd (none some.0 (omega (arith, some.1, all)) some.2),
  )
