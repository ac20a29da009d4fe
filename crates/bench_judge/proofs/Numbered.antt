-- Numbers of a list, taken off one by one.
use Rattle.std.proofs.Common.{◌≡◌, ◌⊎◌, ℕ, zero, suc, List, [], ◌∷◌, length, inl, inr, refl, ap, sym, subst, arith}
use Rattle.std.specs.Prelude.{Contains}

-- an element of a list is its first or one of the others
pub first_or_rest : (x : ℕ) (xs : List ℕ) (n : ℕ) → Contains (x ∷ xs) n → (n ≡ x) ⊎ Contains xs n
first_or_rest x xs n (zero, lt, is) = inl (sym is)
first_or_rest x xs n (suc k, lt, is) = inr (k, omega (arith, lt), is)

pub in_rest : (x : ℕ) (xs : List ℕ) (n : ℕ) → Contains xs n → Contains (x ∷ xs) n
in_rest x xs n is = (suc is.0, omega (arith, is.1), is.2)

pub is_first : (x : ℕ) (xs : List ℕ) → Contains (x ∷ xs) x
is_first x xs = (zero, omega arith, refl)

-- of numbers that are still to come, none of those that went before had what is asked for
pub record ComeLast (all rest : List ℕ) (P : ℕ → Type 0) : Type 0 where
  pub some : (n : ℕ) → Contains rest n → Contains all n
  pub left : (n : ℕ) → Contains all n → P n → Contains rest n

pub all_come : (all : List ℕ) (P : ℕ → Type 0) → ComeLast all all P
all_come all P = record { some = λ n is. is; left = λ n is has. is }

pub one_less : (all : List ℕ) (x : ℕ) (old new : List ℕ) (P : ℕ → Type 0) → old ≡ x ∷ new → (P x → ⊥) → ComeLast all old P → ComeLast all new P
one_less all x old new P is not come = record {
  some = λ n has. come.some n (subst (λ l. Contains l n) (sym is) (in_rest x new n has));
  left = λ n has p.
      elim (first_or_rest x new n (subst (λ l. Contains l n) is (come.left n has p))) [
        | inl same ↦ absurd (not (subst P same p))
        | inr later ↦ later
      ];
}

pub first_there : (all : List ℕ) (x : ℕ) (old new : List ℕ) (P : ℕ → Type 0) → old ≡ x ∷ new → ComeLast all old P → Contains all x
first_there all x old new P is come = come.some x (subst (λ l. Contains l x) (sym is) (is_first x new))

pub none_there : (all old : List ℕ) (P : ℕ → Type 0) → old ≡ [] → ComeLast all old P → (n : ℕ) → Contains all n → P n → ⊥
none_there all old P is come n has p = no_element (come.left n has p)
  where
    no_element : Contains old n → ⊥
    no_element there = omega (arith, there.1, ap (λ (l : List ℕ). length l) is)
