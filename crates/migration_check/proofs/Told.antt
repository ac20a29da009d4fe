-- What answers tell of several things.
use Rattle.std.proofs.Common.{◌≡◌, ◌<◌, ◌+◌, ◌&&◌, ℕ, Bool, true, false, List, take, get_or, length, subst, sym, arith}
use Rattle.std.specs.Prelude.{All}
use Rattle.std.proofs.lemmas.List.{take-take, get_or-take, length-take-le}
use Rattle.std.proofs.lemmas.List.Elements.{All-more, All-take, All-same, All-get_or}
use Rattle.migration_check.specs.Telling.{Tells}

-- what is told holds, or doesn't
pub yes : (said : Bool) (P : Type 0) → said ≡ true → Tells said P → P
yes said P is told = subst (λ (b : Bool). Tells b P) is told

pub no : (said : Bool) (P : Type 0) → said ≡ false → Tells said P → P → ⊥
no said P is told = subst (λ (b : Bool). Tells b P) is told

-- of two things together
pub both : (one other all : Bool) (P Q R : Type 0) → all ≡ (one && other) → Tells one P → Tells other Q → (P → Q → R) → (R → P) → (R → Q) → Tells all R
both true true all P Q R is p q join first second = subst (λ (b : Bool). Tells b R) (sym is) (join p q)
both true false all P Q R is p q join first second = subst (λ (b : Bool). Tells b R) (sym is) (λ (r : R). q (second r))
both false true all P Q R is p q join first second = subst (λ (b : Bool). Tells b R) (sym is) (λ (r : R). p (first r))
both false false all P Q R is p q join first second = subst (λ (b : Bool). Tells b R) (sym is) (λ (r : R). p (first r))

-- of the same thing, said otherwise
pub otherwise : (said : Bool) (P Q : Type 0) → Tells said P → (P → Q) → (Q → P) → Tells said Q
otherwise true P Q p to from = to p
otherwise false P Q p to from = λ (q : Q). p (from q)

fewer : {X : Type 0} (P : X → Type 0) (list : List X) (i : ℕ) → All P (take (i + 1) list) → All P (take i list)
fewer P list i all = All-same P (take i list) (take i (take (i + 1) list)) (sym (take-take i (i + 1) list (omega arith))) (All-take P i (take (i + 1) list) all)

last : {X : Type 0} (P : X → Type 0) (list : List X) (i : ℕ) (d : X) → i < length list → All P (take (i + 1) list) → P (get_or list i d)
last P list i d within all =
    subst P (get_or-take (i + 1) list i d (omega arith))
    (All-get_or P (take (i + 1) list) i d (omega (arith, length-take-le (i + 1) list (omega arith))) all)

-- of one element more of a list
pub one_more : {X : Type 0} (P : X → Type 0) (list : List X) (i : ℕ) (d : X) (said here all : Bool) → all ≡ (said && here) → i < length list
    → Tells said (All P (take i list)) → Tells here (P (get_or list i d)) → Tells all (All P (take (i + 1) list))
one_more P list i d said here all is within before at =
    both said here all (All P (take i list)) (P (get_or list i d)) (All P (take (i + 1) list)) is before at
    (λ some one. All-more P list i d within some one) (fewer P list i) (last P list i d within)
