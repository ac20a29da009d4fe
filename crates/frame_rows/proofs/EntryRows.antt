-- The rows of entries, one after the other.
use Rattle.std.proofs.Common.{◌≡◌, ℕ, suc, ◌+◌, ◌<◌, List, [], ◌∷◌, ◌++◌, Option, arith, refl, ap, append_assoc, length, length-take, take, get_or}
use Rattle.std.specs.Prelude.{OnOk, Result, Ok, Err}
use Rattle.std.proofs.lemmas.List.{take_more}
use Rattle.vlan_rule.specs.Choice.{entry_at}
use Rattle.pmapper.specs.Mapper.{Unmarked}
use Rattle.frame_meaning.specs.Meaning.{Table}
use Rattle.frame_rows.specs.declared.row.Row.{Row}
use Rattle.frame_rows.specs.Rows.{entry_row, entry_rows}

-- those of one place more
entry_rows-append : (table : Table) (unmarked : Option Unmarked) (number : ℕ) (places : List ℕ) (place : ℕ)
    → entry_rows table unmarked number (places ++ place ∷ [])
    ≡ entry_rows table unmarked number places ++ entry_row table unmarked (number + length places) (entry_at table.entries place) ∷ []
entry_rows-append table unmarked number [] place =
    ap (λ n. entry_row table unmarked n (entry_at table.entries place) ∷ []) (omega arith)
entry_rows-append table unmarked number (first ∷ rest) place =
    let same : number + 1 + length rest ≡ number + suc (length rest) = omega arith in
    ap (λ (rows : List Row). entry_row table unmarked number (entry_at table.entries first) ∷ rows)
    (rw (← same) (entry_rows-append table unmarked (number + 1) rest place))

-- a list that grows by the row of the next entry
pub one_more : (table : Table) (unmarked : Option Unmarked) (places : List ℕ) (number : ℕ) (before now after : List Row) (row : Row)
    → number < length places → now ≡ before ++ entry_rows table unmarked 0 (take number places)
    → row ≡ entry_row table unmarked number (entry_at table.entries (get_or places number 0)) → after ≡ now ++ row ∷ []
    → after ≡ before ++ entry_rows table unmarked 0 (take (number + 1) places)
one_more table unmarked places number before now after row within invariant is grown =
    let count : length (take number places) ≡ number = omega (arith, length-take {A = ℕ}) in
    let more : entry_rows table unmarked 0 (take (number + 1) places)
    ≡ entry_rows table unmarked 0 (take number places) ++ row ∷ [] =
    rw (take_more places number 0 within, entry_rows-append table unmarked 0 (take number places) (get_or places number 0), is) (ap (λ n. entry_rows table unmarked 0 (take number places) ++ entry_row table unmarked n (entry_at table.entries (get_or places number 0)) ∷ []) (omega arith)) in
    rw (grown, invariant, more, append_assoc) refl

-- a list that grows twice
pub grown_twice : (before now after first second : List Row) → now ≡ before ++ first → after ≡ now ++ second → after ≡ before ++ (first ++ second)
grown_twice before now after first second p q = rw (q, p, append_assoc) refl

-- ---- of a result

-- what follows of two facts where it succeeds
pub on_ok : {T E : Type 0} (P Q R : Type 0) (result : Result T E) → OnOk result P → OnOk result Q → (P → Q → R) → OnOk result R
on_ok {T} {E} P Q R (Ok x) p q both = both p q
on_ok {T} {E} P Q R (Err e) p q both = p
