-- Two lists beside one another.
use Rattle.std.proofs.Common.{◌≡◌, ℕ, ◌<◌, List, [], ◌∷◌, length, subst, arith, suc}
use Rattle.std.specs.Prelude.{Some, slice_index_or, Result, Ok, Err, IfOk}
use Rattle.std.specs.List.{AllZip}

pub zip_by_index : {J D : Type 0} (R : J → D → Type 0) (js : List J) (ds : List D) → length ds ≡ length js
    → ((i : ℕ) (d : D) → i < length js → (j : J) × (j ≡ slice_index_or js i j) × R j (slice_index_or ds i d)) → AllZip R js ds
zip_by_index R [] [] len each = tt
zip_by_index R [] (d ∷ ds) len each = absurd (omega arith)
zip_by_index R (j ∷ js) [] len each = absurd (omega arith)
zip_by_index R (j ∷ js) (d ∷ ds) len each =
    let first = each 0 d (omega arith) in
    (subst (λ x. R x d) first.1 first.2, zip_by_index R js ds (omega arith) (λ i e lt. each (suc i) e (omega arith)))

pub ok_then : {T E : Type 0} (r : Result T E) (P Q : T → Type 0) → IfOk r P → ((v : T) → P v → Q v) → IfOk r Q
ok_then (Ok v) P Q p f = f v p
ok_then (Err e) P Q p f = tt

pub same_some : {X : Type 0} (x y : X) (P : X → Type 0) → Some x ≡ Some y → P x → P y
same_some x y P e p = let same : x ≡ y = cc in subst P same p
