-- The walk over the options, one at a time.
use Rattle.std.proofs.Common.{◌≡◌, ◌≤◌, ◌<◌, ℕ, zero, suc, ◌==◌, true, false, List, [], ◌∷◌, length, Option, Some, None, arith, refl, ap, length-drop}
use Rattle.std.specs.Prelude.{if◌then◌else◌, nat_lt, option_and_then}
use Rattle.std.proofs.lemmas.Bool.{le-ltb, lt-ltb, ne_eqb}
use Rattle.bench_pcapng.specs.Numbers.{number_in}
use Rattle.bench_pcapng.specs.Interfaces.{behind_option, first_option, options_from, options_of}
use Rattle.bench_pcapng.specs.declared.interface.Interface.{Interface}
use Rattle.bench_pcapng.specs.declared.order.Order.{Order}

-- what is left gets shorter
pub behind_shorter : (order : Order) (bytes : List ℕ) (most : ℕ) → length bytes ≤ suc most → length (behind_option order bytes) ≤ most
unfolding behind_option
behind_shorter order bytes most h = simp length-drop (omega (arith, h))

-- a number of options that is enough may be any other
pub options_enough : (a b : ℕ) (order : Order) (plain : Interface) (bytes : List ℕ) → length bytes ≤ a → length bytes ≤ b
    → options_from a order plain bytes ≡ options_from b order plain bytes
options_enough zero zero order plain bytes ha hb = refl
options_enough zero (suc b) order plain [] ha hb = refl
options_enough zero (suc b) order plain (x ∷ bytes) ha hb = absurd (omega (arith, ha))
options_enough (suc a) zero order plain [] ha hb = refl
options_enough (suc a) zero order plain (x ∷ bytes) ha hb = absurd (omega (arith, hb))
options_enough (suc a) (suc b) order plain bytes ha hb =
    let behind = behind_option order bytes in
    let left = behind_shorter order bytes a ha in
    let right = behind_shorter order bytes b hb in
    ap (λ (later : Option Interface). if length bytes == 0 then Some plain
    else (if nat_lt (length bytes) 4 then None
    else (if number_in 2 order bytes == 0 then Some plain else later)))
    (elim (first_option order plain bytes) as (λ (first : Option Interface).
    option_and_then (λ (more : Interface). options_from a order more behind) first
    ≡ option_and_then (λ (more : Interface). options_from b order more behind) first) [
      | Some more ↦ options_enough a b order more behind left right
      | None ↦ refl
    ])

not_empty : (bytes : List ℕ) → 4 ≤ length bytes → (length bytes == 0) ≡ false
not_empty bytes long = ne_eqb (length bytes) 0 (λ none. omega (arith, long, none))

-- nothing is left
pub options_none : (order : Order) (plain : Interface) (bytes : List ℕ) → length bytes ≡ 0 → options_of order plain bytes ≡ Some plain
unfolding options_of
options_none order plain [] none = refl
options_none order plain (x ∷ bytes) none = absurd (omega (arith, none))

-- too few bytes for an option
pub options_short : (order : Order) (plain : Interface) (bytes : List ℕ) → (length bytes ≡ 0 → ⊥) → length bytes < 4 → options_of order plain bytes ≡ None
unfolding options_of
options_short order plain [] some short = absurd (some refl)
options_short order plain (x ∷ bytes) some short =
    let a : (length (x ∷ bytes) == 0) ≡ false = ne_eqb (length (x ∷ bytes)) 0 some in
    let b : nat_lt (length (x ∷ bytes)) 4 ≡ true = lt-ltb (length (x ∷ bytes)) 4 short in
    rw (a, b) refl

-- the option that ends them
pub options_end : (order : Order) (plain : Interface) (bytes : List ℕ) → 4 ≤ length bytes → number_in 2 order bytes ≡ 0 → options_of order plain bytes ≡ Some plain
unfolding options_of
options_end order plain [] long ends = refl
options_end order plain (x ∷ bytes) long ends =
    let a = not_empty (x ∷ bytes) long in
    let b : nat_lt (length (x ∷ bytes)) 4 ≡ false = le-ltb (length (x ∷ bytes)) 4 long in
    rw (a, b, ends) refl

-- a broken one
pub options_broken : (order : Order) (plain : Interface) (bytes : List ℕ) → 4 ≤ length bytes → (number_in 2 order bytes ≡ 0 → ⊥)
    → first_option order plain bytes ≡ None → options_of order plain bytes ≡ None
unfolding options_of
options_broken order plain [] long goes broken = absurd (omega (arith, long))
options_broken order plain (x ∷ bytes) long goes broken =
    let a = not_empty (x ∷ bytes) long in
    let b : nat_lt (length (x ∷ bytes)) 4 ≡ false = le-ltb (length (x ∷ bytes)) 4 long in
    let d : (number_in 2 order (x ∷ bytes) == 0) ≡ false = ne_eqb (number_in 2 order (x ∷ bytes)) 0 goes in
    rw (a, b, d, broken) refl

-- one more, and those behind it
pub options_next : (order : Order) (plain more : Interface) (bytes : List ℕ) → 4 ≤ length bytes → (number_in 2 order bytes ≡ 0 → ⊥)
    → first_option order plain bytes ≡ Some more → options_of order plain bytes ≡ options_of order more (behind_option order bytes)
unfolding options_of
options_next order plain more [] long goes is = absurd (omega (arith, long))
options_next order plain more (x ∷ bytes) long goes is =
    let a = not_empty (x ∷ bytes) long in
    let b : nat_lt (length (x ∷ bytes)) 4 ≡ false = le-ltb (length (x ∷ bytes)) 4 long in
    let d : (number_in 2 order (x ∷ bytes) == 0) ≡ false = ne_eqb (number_in 2 order (x ∷ bytes)) 0 goes in
    let behind = behind_option order (x ∷ bytes) in
    rw (a, b, d, is) (options_enough (length bytes) (length behind) order more behind (behind_shorter order (x ∷ bytes) (length bytes) (omega arith)) (omega arith))
