-- The attributes of an instance parted into rows: what the computed rows are parts of, and that there is no other way.
use Rattle.std.proofs.Common.{◌≡◌, ℕ, ◌+◌, ◌-◌, ◌<◌, ◌≤◌, List, [], ◌∷◌, ◌++◌, length, map, refl, sym, ap, ◌∙◌, arith, append_assoc, inl, inr, length-append}
use Rattle.std.specs.Prelude.{All, if◌then◌else◌, nat_le}
use Rattle.std.specs.List.{flat_map, sum_by}
use Rattle.std.proofs.lemmas.List.{append-nil}
use Rattle.std.proofs.lemmas.List.Concat.{flat_map-append}
use Rattle.std.proofs.lemmas.List.Sums.{sum_by-append, sum_by-cons}
use Rattle.std.proofs.lemmas.List.Elements.{All-nil, All-cons, All-head, All-tail}
use Rattle.std.proofs.lemmas.Bool.{le-leb, lt-leb, cases_lt, ne_eqb}
use Rattle.std.proofs.Math.Pow.{pow_pos}
use Rattle.mib_upload.specs.Rows.{Numbered, row_of, bit_of, bytes_of, row_room, IsFilled, BeginWhereFull, IsParted, FitsRow, begun_row, with_attribute, filled_from}

-- the parts that a begun part and further attributes make
abbrev pub parts_from : List Numbered → List Numbered → List (List Numbered)
parts_from [] [] = []
parts_from (x ∷ begun) [] = (x ∷ begun) ∷ []
parts_from begun (a ∷ rest) =
    if nat_le (length (bytes_of begun) + length a.bytes) row_room then parts_from (begun ++ a ∷ []) rest else begun ∷ parts_from (a ∷ []) rest

-- attributes, one part after another
abbrev joined : List (List Numbered) → List Numbered
joined parts = flat_map (λ (part : List Numbered). part) parts

fits_step : (begun rest : List Numbered) (a : Numbered) → length (bytes_of begun) + length a.bytes ≤ row_room
    → parts_from begun (a ∷ rest) ≡ parts_from (begun ++ a ∷ []) rest
fits_step [] rest a h = rw (le-leb _ _ h) refl
fits_step (x ∷ begun) rest a h = rw (le-leb _ _ h) refl

full_step : (begun rest : List Numbered) (a : Numbered) → row_room < length (bytes_of begun) + length a.bytes
    → parts_from begun (a ∷ rest) ≡ begun ∷ parts_from (a ∷ []) rest
full_step [] rest a h = rw (lt-leb _ _ h) refl
full_step (x ∷ begun) rest a h = rw (lt-leb _ _ h) refl

bytes_more : (begun : List Numbered) (a : Numbered) → bytes_of (begun ++ a ∷ []) ≡ bytes_of begun ++ a.bytes
bytes_more begun a = flat_map-append (λ (a : Numbered). a.bytes) begun (a ∷ []) ∙ ap (λ end. bytes_of begun ++ end) (append-nil a.bytes)

width_more : (begun : List Numbered) (a : Numbered) → length (bytes_of (begun ++ a ∷ [])) ≡ length (bytes_of begun) + length a.bytes
width_more begun a = ap length (bytes_more begun a) ∙ length-append (bytes_of begun) a.bytes

-- ---- the computed rows are the rows of these parts

mask_one : (a : Numbered) → sum_by bit_of (a ∷ []) ≡ bit_of a
mask_one a = omega (arith, sum_by-cons bit_of a [])

mask_more : (begun : List Numbered) (a : Numbered) → sum_by bit_of (begun ++ a ∷ []) ≡ sum_by bit_of begun + bit_of a
mask_more begun a = omega (arith, sum_by-append bit_of begun (a ∷ []), mask_one a)

row_more : (class number : ℕ) (begun : List Numbered) (a : Numbered) → with_attribute (row_of class number begun) a ≡ row_of class number (begun ++ a ∷ [])
row_more class number begun a = rw (bytes_more begun a, mask_more begun a) refl

row_first : (class number : ℕ) (a : Numbered) → with_attribute (begun_row class number) a ≡ row_of class number (a ∷ [])
row_first class number a = rw (append-nil a.bytes, mask_one a) refl

-- a row with an attribute has a mask
has_mask : (x : Numbered) (begun : List Numbered) → 0 < sum_by bit_of (x ∷ begun)
has_mask x begun = omega (arith, sum_by-cons bit_of x begun, pow_pos (16 - x.number))

pub filled_parts : (class number : ℕ) (begun rest : List Numbered) → filled_from (row_of class number begun) rest ≡ map (row_of class number) (parts_from begun rest)
filled_parts class number [] [] = refl
filled_parts class number (x ∷ begun) [] = let some : 0 < sum_by bit_of (x ∷ begun) = has_mask x begun in rw (ne_eqb (sum_by bit_of (x ∷ begun)) 0 (omega arith)) refl
filled_parts class number begun (a ∷ rest) =
    elim (cases_lt row_room (length (bytes_of begun) + length a.bytes)) [
      | inl full ↦ rw (full_step begun rest a full, lt-leb _ _ full, row_first class number a) (ap (λ rows. row_of class number begun ∷ rows) (filled_parts class number (a ∷ []) rest))
      | inr fits ↦ rw (fits_step begun rest a fits, le-leb _ _ fits, row_more class number begun a) (filled_parts class number (begun ++ a ∷ []) rest)
    ]

-- ---- these parts are rows

pub joined_from : (begun rest : List Numbered) → joined (parts_from begun rest) ≡ begun ++ rest
joined_from [] [] = refl
joined_from (x ∷ begun) [] = refl
joined_from begun (a ∷ rest) =
    elim (cases_lt row_room (length (bytes_of begun) + length a.bytes)) [
      | inl full ↦ rw (full_step begun rest a full) (ap (λ later. begun ++ later) (joined_from (a ∷ []) rest))
      | inr fits ↦ rw (fits_step begun rest a fits) (joined_from (begun ++ a ∷ []) rest ∙ append_assoc begun (a ∷ []) rest)
    ]

not_empty : (begun : List Numbered) (a : Numbered) → FitsRow a → row_room < length (bytes_of begun) + length a.bytes → 0 < length begun
not_empty [] a small full = absurd (omega arith)
not_empty (x ∷ begun) a small full = omega arith

filled_one : (x : Numbered) (begun : List Numbered) → length (bytes_of (x ∷ begun)) ≤ row_room → IsFilled (x ∷ begun)
filled_one x begun h = record { not_empty = omega arith; fits = h }

pub all_filled : (begun rest : List Numbered) → length (bytes_of begun) ≤ row_room → All FitsRow rest → All IsFilled (parts_from begun rest)
all_filled [] [] h each = All-nil IsFilled
all_filled (x ∷ begun) [] h each = All-cons IsFilled (x ∷ begun) [] (filled_one x begun h) (All-nil IsFilled)
all_filled begun (a ∷ rest) h each =
    let small : FitsRow a = All-head FitsRow a rest each in
    let later : All FitsRow rest = All-tail FitsRow a rest each in
    let one : length (bytes_of (a ∷ [])) ≤ row_room = rw (append-nil a.bytes) small in
    elim (cases_lt row_room (length (bytes_of begun) + length a.bytes)) [
      | inl full ↦ rw (full_step begun rest a full) (All-cons IsFilled begun _ (record { not_empty = not_empty begun a small full; fits = h }) (all_filled (a ∷ []) rest one later))
      | inr fits ↦ rw (fits_step begun rest a fits) (all_filled (begun ++ a ∷ []) rest (rw (width_more begun a) fits) later)
    ]

begun_behind : (part : List Numbered) (a : Numbered) (begun rest : List Numbered) → row_room < length (bytes_of part) + length a.bytes
    → BeginWhereFull (part ∷ parts_from (a ∷ begun) rest)
begun_behind part a begun [] h = (h, tt)
begun_behind part a begun (c ∷ rest) h =
    elim (cases_lt row_room (length (bytes_of (a ∷ begun)) + length c.bytes)) [
      | inl full ↦ rw (full_step (a ∷ begun) rest c full) (h, begun_behind (a ∷ begun) c [] rest full)
      | inr fits ↦ rw (fits_step (a ∷ begun) rest c fits) (begun_behind part a (begun ++ c ∷ []) rest h)
    ]

pub begun_from : (begun rest : List Numbered) → BeginWhereFull (parts_from begun rest)
begun_from [] [] = tt
begun_from (x ∷ begun) [] = tt
begun_from begun (a ∷ rest) =
    elim (cases_lt row_room (length (bytes_of begun) + length a.bytes)) [
      | inl full ↦ rw (full_step begun rest a full) (begun_behind begun a [] rest full)
      | inr fits ↦ rw (fits_step begun rest a fits) (begun_from (begun ++ a ∷ []) rest)
    ]

pub parted : (all : List Numbered) → All FitsRow all → IsParted all (parts_from [] all)
parted all each = record { joined = joined_from [] all; filled = all_filled [] all (omega arith) each; begun = begun_from [] all }

-- ---- there is no other way

-- what is left of a part fits it
within : (begun left tail : List Numbered) (more : List (List Numbered)) → length (bytes_of (begun ++ left)) ≤ row_room
    → parts_from (begun ++ left) tail ≡ (begun ++ left) ∷ more → parts_from begun (left ++ tail) ≡ (begun ++ left) ∷ more
within begun [] tail more h goes = ap (λ b. parts_from b tail) (sym (append-nil begun)) ∙ goes
within begun (a ∷ left) tail more h goes =
    let split : (begun ++ a ∷ []) ++ left ≡ begun ++ a ∷ left = append_assoc begun (a ∷ []) left in
    let whole : length (bytes_of (begun ++ a ∷ left)) ≡ length (bytes_of begun) + length (bytes_of (a ∷ left)) =
    ap length (flat_map-append (λ (a : Numbered). a.bytes) begun (a ∷ left)) ∙ length-append (bytes_of begun) (bytes_of (a ∷ left)) in
    let fits : length (bytes_of begun) + length a.bytes ≤ row_room = omega (arith, whole, h, length-append a.bytes (bytes_of left)) in
    rw (fits_step begun (left ++ tail) a fits, ← split) (within (begun ++ a ∷ []) left tail more (rw split h) (rw split goes))

between : (part : List Numbered) (more : List (List Numbered)) → IsFilled part → All IsFilled more → BeginWhereFull (part ∷ more)
    → parts_from part (joined more) ≡ part ∷ more
between [] [] filled all begun = absurd (omega (arith, filled.not_empty))
between (x ∷ part) [] filled all begun = refl
between part ([] ∷ more) filled all begun = let next : IsFilled [] = All-head IsFilled [] more all in absurd (omega (arith, next.not_empty))
between part ((a ∷ next) ∷ more) filled all begun =
    let here : IsFilled (a ∷ next) = All-head IsFilled (a ∷ next) more all in
    rw (full_step part (next ++ joined more) a begun.0)
    (ap (λ rows. part ∷ rows) (within (a ∷ []) next (joined more) more here.fits (between (a ∷ next) more here (All-tail IsFilled (a ∷ next) more all) begun.1)))

pub parted_once : (all : List Numbered) (parts : List (List Numbered)) → IsParted all parts → parts ≡ parts_from [] all
parted_once all [] is = rw (← is.joined) refl
parted_once all (part ∷ more) is =
    let first : IsFilled part = All-head IsFilled part more is.filled in
    rw (← is.joined) (sym (within [] part (joined more) more first.fits (between part more first (All-tail IsFilled part more is.filled) is.begun)))
