-- How many rows there are up to each side.
use Rattle.std.proofs.Common.{◌≡◌, ℕ, zero, suc, ◌+◌, ◌<◌, ◌≤◌, List, [], ◌∷◌, ◌++◌, arith, refl, ap, sym, subst, length, map, take}
use Rattle.std.proofs.lemmas.List.{length-append}
use Rattle.std.specs.Prelude.{All, slice_get, slice_index}
use Rattle.std.specs.Option.{option_map_or}
use Rattle.frame_rows.specs.declared.row.Row.{Row}
use Rattle.frame_rows.specs.declared.rows.Rows.{Rows}
use Rattle.frame_classes.specs.Beside.{AreBeside, SideFits, SideMarks}
use Rattle.frame_classes.specs.Left.{count_to}
use Rattle.frame_classes.specs.Told.{rows_of_all, side_by}

-- how many rows the side at a place has
abbrev pub count_at : List Rows → ℕ → ℕ
count_at sides side = option_map_or (λ rows. length rows.rows.items) (slice_get sides side) 0

step : (first : Rows) (rest : List Rows) (n : ℕ) → count_to (map side_by (first ∷ rest)) (suc n) ≡ length first.rows.items + count_to (map side_by rest) n
step first rest n = length-append first.rows.items (rows_of_all (take n (map side_by rest)))

none : (n : ℕ) → count_to (map side_by []) n ≡ 0
none zero = refl
none (suc n) = refl

ends_are : (sides : List Rows) → (count_to (map side_by sides) 1 ≡ count_at sides 0)
    × ((count_to (map side_by sides) 2 ≡ count_at sides 0 + count_at sides 1)
    × (count_to (map side_by sides) 3 ≡ count_at sides 0 + count_at sides 1 + count_at sides 2))
ends_are [] = (refl, (refl, refl))
ends_are (a ∷ []) = let x = step a [] 0 in let y = step a [] 1 in let z = step a [] 2 in (omega (arith, x), (omega (arith, y), omega (arith, z)))
ends_are (a ∷ b ∷ []) =
    let x = step a (b ∷ []) 0 in let y = step a (b ∷ []) 1 in let z = step a (b ∷ []) 2 in
    let y' = step b [] 0 in let z' = step b [] 1 in
    (omega (arith, x), (omega (arith, y, y'), omega (arith, z, z')))
ends_are (a ∷ b ∷ c ∷ rest) =
    let x = step a (b ∷ c ∷ rest) 0 in let y = step a (b ∷ c ∷ rest) 1 in let z = step a (b ∷ c ∷ rest) 2 in
    let y' = step b (c ∷ rest) 0 in let z' = step b (c ∷ rest) 1 in let z'' = step c rest 0 in
    (omega (arith, x), (omega (arith, y, y'), omega (arith, z, z', z'')))

-- the sides, the rows of all, and their counts
pub beside : (sides : List Rows) (rows : List Row) (a b c : ℕ) → 0 < length sides → length sides ≤ 3 → rows ≡ rows_of_all (map side_by sides)
    → length rows ≤ 402 → All SideFits (map side_by sides) → All SideMarks (map side_by sides) → a ≡ count_at sides 0 → b ≡ count_at sides 1 → c ≡ count_at sides 2
    → AreBeside sides rows (a ∷ (a + b) ∷ (a + b + c) ∷ [])
beside sides rows a b c some three together few fit marked p q r =
    let ends = ends_are sides in
    record { some = some; three = three; together = together; few = few; ended = at; fit = fit; marked = marked }
  where
    at : (side : ℕ) → side < 3 → slice_index (a ∷ (a + b) ∷ (a + b + c) ∷ []) side ≡ count_to (map side_by sides) (side + 1)
    at zero h = rw p (sym (ends_are sides).0)
    at (suc zero) h = rw (p, q) (sym (ends_are sides).1.0)
    at (suc (suc zero)) h = rw (p, q, r) (sym (ends_are sides).1.1)
    at (suc (suc (suc n))) h = absurd (omega arith)

pub few_beside : (sides : List Rows) (rows : List Row) (a b c : ℕ) → length sides ≤ 3 → rows ≡ rows_of_all (map side_by sides)
    → length rows ≤ 402 → a ≡ count_at sides 0 → b ≡ count_at sides 1 → c ≡ count_at sides 2 → a + b + c ≤ 402
few_beside sides rows a b c three together few p q r =
    let all = (ends_are sides).1.1 in
    let count = up_to_all sides three in
    let long = ap length together in
    omega (arith, p, q, r, all, count, long)
  where
    up_to_all : (sides : List Rows) → length sides ≤ 3 → count_to (map side_by sides) 3 ≡ length (rows_of_all (map side_by sides))
    up_to_all [] h = refl
    up_to_all (a ∷ []) h = refl
    up_to_all (a ∷ b ∷ []) h = refl
    up_to_all (a ∷ b ∷ c ∷ []) h = refl
    up_to_all (a ∷ b ∷ c ∷ d ∷ rest) h = absurd (omega arith)

-- three sides have few rows
pub few_rows : (sides : List Rows) (rows : List Row) → length sides ≤ 3 → All (λ side. length side.rows.items ≤ 134) sides
    → rows ≡ rows_of_all (map side_by sides) → length rows ≤ 402
few_rows sides rows three each is = subst (λ (xs : List Row). length xs ≤ 402) (sym is) (at_most sides three each)
  where
    at_most : (sides : List Rows) → length sides ≤ 3 → All (λ side. length side.rows.items ≤ 134) sides → length (rows_of_all (map side_by sides)) ≤ 402
    at_most [] three each = omega arith
    at_most (a ∷ []) three each =
        let one = each 0 a (omega arith) in
        let all = length-append a.rows.items [] in
        omega (arith, one, all)
    at_most (a ∷ b ∷ []) three each =
        let one = each 0 a (omega arith) in
        let two = each 1 a (omega arith) in
        let all = length-append a.rows.items (b.rows.items ++ []) in
        let rest = length-append b.rows.items [] in
        omega (arith, one, two, all, rest)
    at_most (a ∷ b ∷ c ∷ []) three each =
        let one = each 0 a (omega arith) in
        let two = each 1 a (omega arith) in
        let last = each 2 a (omega arith) in
        let all = length-append a.rows.items (b.rows.items ++ (c.rows.items ++ [])) in
        let rest = length-append b.rows.items (c.rows.items ++ []) in
        let more = length-append c.rows.items [] in
        omega (arith, one, two, last, all, rest, more)
    at_most (a ∷ b ∷ c ∷ d ∷ rest) three each = absurd (omega arith)
