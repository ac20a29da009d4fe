-- Lists that begin with others.
use Rattle.std.proofs.Common.{◌≡◌, ◌≢◌, ◌≤◌, ℕ, ◌+◌, min, Bool, List, [], ◌++◌, length, take, drop, replicate, inl, inr, refl, sym, ap, subst, ◌∙◌, arith, append_assoc, length-append, length-take}
use Rattle.std.specs.Prelude.{Decides, nat_eq}
use Rattle.std.specs.Io.{StartsWith}
use Rattle.std.specs.List.{starts_with}
use Rattle.std.proofs.lemmas.Bool.{cases_lt}
use Rattle.std.proofs.lemmas.Bool.Decides.{Decides-at, Decides-eqb}
use Rattle.std.proofs.lemmas.List.{drop_all, drop_at, drop-append-le, length-replicate, length-take-le, take_all, take_at, take-append-drop, take-append-le, take-replicate}
use Rattle.std.proofs.lemmas.Slice.Eq.{slice_eq-Decides}

-- by what stands behind
pub begins_by : (xs p rest : List ℕ) → xs ≡ p ++ rest → StartsWith xs p
begins_by xs p rest is = ap (take (length p)) is ∙ take_at p rest (length p) refl

pub rest_of : (xs p : List ℕ) → StartsWith xs p → xs ≡ p ++ drop (length p) xs
rest_of xs p begins = sym (take-append-drop (length p) xs) ∙ ap (λ (l : List ℕ). l ++ drop (length p) xs) begins

pub shorter : (xs p : List ℕ) → StartsWith xs p → length p ≤ length xs
shorter xs p begins = omega (arith, ap (λ (l : List ℕ). length l) begins, length-take (length p) xs)

-- one that is as long is the same
pub same : (xs p : List ℕ) → length xs ≤ length p → StartsWith xs p → xs ≡ p
same xs p long begins = sym (take_all (length p) xs long) ∙ begins

pub itself : (xs : List ℕ) → StartsWith xs xs
itself xs = take_all (length xs) xs (omega arith)

-- as it is computed
pub Decides-begins : (xs p : List ℕ) → Decides (starts_with nat_eq xs p) (StartsWith xs p)
Decides-begins xs p =
    let d : Decides (starts_with nat_eq xs p) (p ≡ take (length p) xs) = slice_eq-Decides {A = ℕ} {E = nat_eq} Decides-eqb p (take (length p) xs) (starts_with nat_eq xs p) refl in
    (λ yes. sym (d.0 yes), λ begins. d.1 (sym begins))

pub Decides-starts : (xs p : List ℕ) (r : Bool) → r ≡ starts_with nat_eq xs p → Decides r (StartsWith xs p)
Decides-starts xs p r is = Decides-at r (starts_with nat_eq xs p) is (Decides-begins xs p)

-- ---- two parts

module _ (x y p : List ℕ) (k : ℕ) (least : k ≡ min (length p) (length x)) where
  -- what begins with the front of a list is a front of both
  pub parts_of : StartsWith (x ++ y) p → StartsWith x (take k p) × StartsWith y (drop k p)
  parts_of begins =
      elim (cases_lt (length x) (length p)) [
        | inl long ↦
            let at : k ≡ length x = omega arith in
            let rest = drop (length p) (x ++ y) in
            let whole : x ++ y ≡ p ++ rest = rest_of (x ++ y) p begins in
            let front : x ≡ take k p = sym (take_at x y k (sym at)) ∙ ap (take k) whole ∙ take-append-le k p rest (omega arith) in
            let behind : y ≡ drop k p ++ rest = sym (drop_at x y k (sym at)) ∙ ap (drop k) whole ∙ drop-append-le k p rest (omega arith) in
            (subst (λ (l : List ℕ). StartsWith x l) front (itself x), begins_by y (drop k p) rest behind)
        | inr short ↦
            let at : k ≡ length p = omega arith in
            let all : take k p ≡ p = take_all k p (omega arith) in
            let none : drop k p ≡ [] = drop_all k p (omega arith) in (
              subst (λ (l : List ℕ). StartsWith x l) (sym all) (sym (take-append-le (length p) x y short) ∙ begins),
              subst (λ (l : List ℕ). StartsWith y l) (sym none) refl,
            )
      ]

  pub parts_are : StartsWith x (take k p) → StartsWith y (drop k p) → StartsWith (x ++ y) p
  parts_are front behind =
      elim (cases_lt (length x) (length p)) [
        | inl long ↦
            let at : k ≡ length x = omega arith in
            let whole : x ≡ take k p = same x (take k p) (omega (arith, length-take-le k p (omega arith))) front in
            let rest = drop (length (drop k p)) y in
            begins_by (x ++ y) p rest
            (ap (λ (l : List ℕ). l ++ y) whole ∙ ap (λ (l : List ℕ). take k p ++ l) (rest_of y (drop k p) behind) ∙ sym (append_assoc (take k p) (drop k p) rest)
            ∙ ap (λ (l : List ℕ). l ++ rest) (take-append-drop k p))
        | inr short ↦
            let all : take k p ≡ p = take_all k p (omega arith) in
            take-append-le (length p) x y short ∙ subst (λ (l : List ℕ). StartsWith x l) all front
      ]

-- a list that isn't all of the first part and more is a front of that part alone
pub first_part : (x y p : List ℕ) → ((behind : List ℕ) → p ≢ x ++ behind) → StartsWith (x ++ y) p → StartsWith x p
first_part x y p none begins =
    elim (cases_lt (length x) (length p)) [
      | inl long ↦
          let front = (parts_of x y p (length x) (omega arith) begins).0 in
          let whole : x ≡ take (length x) p = same x (take (length x) p) (omega (arith, length-take-le (length x) p (omega arith))) front in
          absurd (none (drop (length x) p) (sym (take-append-drop (length x) p) ∙ ap (λ (l : List ℕ). l ++ drop (length x) p) (sym whole)))
      | inr short ↦ sym (take-append-le (length p) x y short) ∙ begins
    ]

pub in_first_part : (x y p : List ℕ) → StartsWith x p → StartsWith (x ++ y) p
in_first_part x y p begins = take-append-le (length p) x y (shorter x p begins) ∙ begins

-- behind the first part
pub behind_part : (x y p behind : List ℕ) (r : Bool) → p ≡ x ++ behind → Decides r (StartsWith y behind) → Decides r (StartsWith (x ++ y) p)
behind_part x y p behind r is decides = (
  λ yes.
      begins_by (x ++ y) p (drop (length behind) y)
      (ap (λ (l : List ℕ). x ++ l) (rest_of y behind (decides.0 yes)) ∙ sym (append_assoc x behind (drop (length behind) y)) ∙ ap (λ (l : List ℕ). l ++ drop (length behind) y) (sym is)),
  λ begins.
      decides.1
      (let long : length p ≡ length x + length behind = omega (arith, ap (λ (l : List ℕ). length l) is, length-append x behind) in
      let parts = parts_of x y p (length x) (omega arith) begins in
      subst (λ (l : List ℕ). StartsWith y l) (ap (drop (length x)) is ∙ drop_at x behind (length x) refl) parts.1),
)

-- ---- zeros

pub zeros_begin : (m : ℕ) (p : List ℕ) → length p ≤ m → p ≡ replicate (length p) 0 → StartsWith (replicate m 0) p
zeros_begin m p within zeros = take-replicate (length p) m 0 within ∙ sym zeros

pub are_zeros : (m : ℕ) (p : List ℕ) → StartsWith (replicate m 0) p → p ≡ replicate (length p) 0
are_zeros m p begins =
    let within : length p ≤ m = omega (arith, shorter (replicate m 0) p begins, length-replicate {A = ℕ} m 0) in sym begins ∙ take-replicate (length p) m 0 within
