-- The rows of things of a list, one thing after another.
use Rattle.std.proofs.Common.{◌≡◌, ℕ, ◌+◌, List, [], ◌∷◌, ◌++◌, drop, refl, sym, ◌∙◌, append_assoc}
use Rattle.std.specs.Prelude.{All}
use Rattle.std.specs.List.{flat_map}
use Rattle.std.proofs.lemmas.List.{append-nil}
use Rattle.std.proofs.lemmas.List.Elements.{All-nil, All-cons}
use Rattle.mib_upload.specs.Rows.{RowFields}

-- the rows so far and those of what is left are all, and if what is left fits, all does
pub record Joins {A : Type 0} (rows_from : A → List RowFields) (Fits : A → Type 0) (l : List A) (initial : List RowFields) (place : ℕ) (rows : List RowFields) : Type 0 where
  pub all : rows ++ flat_map rows_from (drop place l) ≡ initial ++ flat_map rows_from l
  pub each : All Fits (drop place l) → All Fits l

module _ {A : Type 0} (rows_from : A → List RowFields) (Fits : A → Type 0) (l : List A) (initial : List RowFields) where
  pub joins_first : Joins rows_from Fits l initial 0 initial
  joins_first = record { all = refl; each = λ all. all }

  module _ (place : ℕ) (rows : List RowFields) (kept : Joins rows_from Fits l initial place rows) where
    pub joins_next : (a : A) → drop place l ≡ a ∷ drop (place + 1) l → (rows' : List RowFields) → rows' ≡ rows ++ rows_from a → Fits a
        → Joins rows_from Fits l initial (place + 1) rows'
    joins_next a here rows' grown fit = record {
      all =
          let all : rows ++ flat_map rows_from (a ∷ drop (place + 1) l) ≡ initial ++ flat_map rows_from l = rw here at kept.all in
          rw grown (append_assoc rows _ _ ∙ all);
      each = λ rest. kept.each (rw here (All-cons Fits a _ fit rest));
    }

    pub joined : drop place l ≡ [] → rows ≡ initial ++ flat_map rows_from l
    joined none = sym (append-nil rows) ∙ rw none at kept.all

    pub each_joined : drop place l ≡ [] → All Fits l
    each_joined none = kept.each (rw none (All-nil Fits))
