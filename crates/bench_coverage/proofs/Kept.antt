-- The classes that are kept of frames.
use Rattle.std.proofs.Common.{◌≡◌, ◌⊎◌, ℕ, zero, suc, List, [], ◌∷◌, Option, Some, length, set, take, ap, sym, ◌∙◌, inl, inr}
use Rattle.std.specs.Prelude.{slice_get}
use Rattle.mib_state.specs.Entities.{Entities}
use Rattle.bench_coverage.specs.Known.{AreKnown, IsClassFrom, IsRight}
use Rattle.bench_coverage.specs.declared.known.Known.{Known}
use Rattle.bench_coverage.specs.declared.known.KnownClasses.{KnownClasses}

-- what stands in a list after a write is what was written, or stood there before
written : {A : Type 0} (xs : List A) (n : ℕ) (y : A) (k : ℕ) (x : A) → slice_get (set xs n y) k ≡ Some x → (y ≡ x) ⊎ (slice_get xs k ≡ Some x)
written [] n y k x at = absurd (cc at)
written (z ∷ xs) zero y zero x at = inl (cc at)
written (z ∷ xs) zero y (suc k) x at = inr at
written (z ∷ xs) (suc n) y zero x at = inr at
written (z ∷ xs) (suc n) y (suc k) x at = written xs n y k x at

same_inside : (one other : Known) → Some one ≡ Some other → one ≡ other
same_inside one other is = cc is

module _ (e : Entities) (port : ℕ) (head : List ℕ) (new : Known) (length_same : new.length ≡ length head) (front_same : new.front ≡ take 24 head) where
  -- the class from a head is right for what is kept of it, and the other way round
  pub right_from : IsClassFrom e port head new.class → IsRight e port new
  right_from is bytes fits long begins = is bytes fits (record { len = sym length_same ∙ long; front = sym front_same ∙ begins })

  pub right_for : IsRight e port new → IsClassFrom e port head new.class
  right_for right bytes fits is = right bytes fits (length_same ∙ is.len) (front_same ∙ is.front)

  pub one_more : (before after : KnownClasses) (place : ℕ) → AreKnown e port before → IsClassFrom e port head new.class
      → after.places.items ≡ set before.places.items place (Some new) → AreKnown e port after
  one_more before after place are is items =
      record {
        each = λ k known at.
            elim (written before.places.items place (Some new) k (Some known) (ap (λ (l : List (Option Known)). slice_get l k) (sym items) ∙ at)) [
              | inl same ↦ rw (sym (same_inside new known same)) (right_from is)
              | inr old ↦ are.each k known old
            ];
      }
