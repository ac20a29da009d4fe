-- How many rows attributes of known numbers of bytes make at most.
use Rattle.std.proofs.Common.{◌≡◌, ℕ, suc, ◌+◌, ◌<◌, ◌≤◌, List, [], ◌∷◌, refl, arith, inl, inr}
use Rattle.std.proofs.lemmas.Bool.{le-leb, lt-leb, cases_lt}
use Rattle.mib_upload.specs.Rows.{row_room}
use Rattle.mib_upload.specs.Room.{rows_by}

pub rows_by_fits : (begun w : ℕ) (rest : List ℕ) → begun + w ≤ row_room → rows_by begun (w ∷ rest) ≡ rows_by (begun + w) rest
rows_by_fits begun w rest h = rw (le-leb _ _ h) refl

pub rows_by_full : (begun w : ℕ) (rest : List ℕ) → row_room < begun + w → rows_by begun (w ∷ rest) ≡ suc (rows_by w rest)
rows_by_full begun w rest h = rw (lt-leb _ _ h) refl

-- a row that has fewer bytes makes no more rows, and any other at most one less
record AreBetween (widths : List ℕ) : Type 0 where
  rises : (a b : ℕ) → a ≤ b → rows_by a widths ≤ rows_by b widths
  one_more : (a b : ℕ) → rows_by a widths ≤ suc (rows_by b widths)

between_step : (w : ℕ) (rest : List ℕ) → AreBetween rest → AreBetween (w ∷ rest)
between_step w rest h = record {
  rises = λ a b le. elim (cases_lt row_room (a + w)) [
    | inl full_a ↦
        let full_b : row_room < b + w = omega arith in
        rw (rows_by_full a w rest full_a, rows_by_full b w rest full_b) (omega arith)
    | inr fits_a ↦ elim (cases_lt row_room (b + w)) [
      | inl full_b ↦ rw (rows_by_fits a w rest fits_a, rows_by_full b w rest full_b) (h.one_more (a + w) w)
      | inr fits_b ↦ rw (rows_by_fits a w rest fits_a, rows_by_fits b w rest fits_b) (h.rises (a + w) (b + w) (omega arith))
    ]
  ];
  one_more = λ a b. elim (cases_lt row_room (a + w)) [
    | inl full_a ↦ elim (cases_lt row_room (b + w)) [
      | inl full_b ↦ rw (rows_by_full a w rest full_a, rows_by_full b w rest full_b) (omega arith)
      | inr fits_b ↦ rw (rows_by_full a w rest full_a, rows_by_fits b w rest fits_b) (omega (arith, h.rises w (b + w) (omega arith)))
    ]
    | inr fits_a ↦ elim (cases_lt row_room (b + w)) [
      | inl full_b ↦ rw (rows_by_fits a w rest fits_a, rows_by_full b w rest full_b) (omega (arith, h.one_more (a + w) w))
      | inr fits_b ↦ rw (rows_by_fits a w rest fits_a, rows_by_fits b w rest fits_b) (h.one_more (a + w) (b + w))
    ]
  ];
}

are_between : (widths : List ℕ) → AreBetween widths
are_between [] = record { rises = λ a b le. omega arith; one_more = λ a b. omega arith }
are_between (w ∷ rest) = between_step w rest (are_between rest)

-- an attribute that isn't there makes no more rows
pub rows_by_without : (begun w : ℕ) (rest : List ℕ) → rows_by begun rest ≤ rows_by begun (w ∷ rest)
rows_by_without begun w rest = elim (cases_lt row_room (begun + w)) [
  | inl full ↦ rw (rows_by_full begun w rest full) (let b = are_between rest in b.one_more begun w)
  | inr fits ↦ rw (rows_by_fits begun w rest fits) (let b = are_between rest in b.rises begun (begun + w) (omega arith))
]

-- the begun row is among the rows
pub rows_by_some : (begun : ℕ) (widths : List ℕ) → 1 ≤ rows_by begun widths
rows_by_some begun [] = omega arith
rows_by_some begun (w ∷ rest) = elim (cases_lt row_room (begun + w)) [
  | inl full ↦ rw (rows_by_full begun w rest full) (omega arith)
  | inr fits ↦ rw (rows_by_fits begun w rest fits) (rows_by_some (begun + w) rest)
]
