-- What instances say of where they are attached, read one after another.
use Rattle.std.proofs.Common.{◌≡◌, ℕ, zero, suc, List, [], ◌∷◌, ◌++◌, length, map, take, Some, None, refl, ap, sym, ◌∙◌}
use Rattle.std.specs.Prelude.{slice_get}
use Rattle.std.proofs.lemmas.Option.{none-some, same_Some}
use Rattle.managed_entity.specs.Instance.{Instance}
use Rattle.forward_plan.specs.declared.naming.Naming.{Naming}

-- one more
take_more : (l : List Instance) (n : ℕ) (here : Instance) → Some here ≡ slice_get l n → take (suc n) l ≡ take n l ++ here ∷ []
take_more [] n here is = absurd (none-some here (sym is))
take_more (x ∷ l) zero here is = ap (λ (i : Instance). i ∷ []) (same_Some x here (sym is))
take_more (x ∷ l) (suc n) here is = ap (λ (rest : List Instance). x ∷ rest) (take_more l n here is)

map_last : (f : Instance → Naming) (l : List Instance) (here : Instance) → map f (l ++ here ∷ []) ≡ map f l ++ f here ∷ []
map_last f [] here = refl
map_last f (x ∷ l) here = ap (λ (rest : List Naming). f x ∷ rest) (map_last f l here)

pub length_last : (names : List Naming) (name : Naming) → length (names ++ name ∷ []) ≡ suc (length names)
length_last [] name = refl
length_last (x ∷ names) name = ap suc (length_last names name)

pub read_more : (f : Instance → Naming) (l : List Instance) (names : List Naming) (here : Instance) (name : Naming) → Some here ≡ slice_get l (length names)
    → name ≡ f here → names ≡ map f (take (length names) l) → names ++ name ∷ [] ≡ map f (take (length (names ++ name ∷ [])) l)
read_more f l names here name is name_is so_far =
    ap (λ (ns : List Naming). ns ++ name ∷ []) so_far
    ∙ ap (λ (n : Naming). map f (take (length names) l) ++ n ∷ []) name_is
    ∙ sym (map_last f (take (length names) l) here)
    ∙ ap (map f) (sym (take_more l (length names) here is))
    ∙ ap (λ (n : ℕ). map f (take n l)) (sym (length_last names name))

-- behind the last there is none
take_all : (l : List Instance) (n : ℕ) → None ≡ slice_get l n → take n l ≡ l
take_all [] zero past = refl
take_all [] (suc n) past = refl
take_all (x ∷ l) zero past = absurd (none-some x past)
take_all (x ∷ l) (suc n) past = ap (λ (rest : List Instance). x ∷ rest) (take_all l n past)

pub read_all : (f : Instance → Naming) (l : List Instance) (names : List Naming) → None ≡ slice_get l (length names) → names ≡ map f (take (length names) l)
    → names ≡ map f l
read_all f l names past so_far = so_far ∙ ap (map f) (take_all l (length names) past)
