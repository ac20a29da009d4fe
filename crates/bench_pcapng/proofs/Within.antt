-- The bytes within a block that is passed over.
use Rattle.std.proofs.Common.{◌≡◌, ◌≤◌, ◌<◌, ℕ, ◌+◌, ◌-◌, ◌==◌, ◌⊎◌, inl, inr, Bool, true, List, length, take, drop, arith, refl, sym, ap, ◌∙◌}
use Rattle.std.specs.Prelude.{if◌then◌else◌, Result, nat_lt}
use Rattle.std.proofs.lemmas.Bool.{cases_lt, le-ltb, lt-ltb}
use Rattle.bench_pcapng.specs.Numbers.{number_in}
use Rattle.bench_pcapng.specs.Passing.{ends_with, fault_in, inside_of, outcome_in, step_within}
use Rattle.bench_pcapng.specs.Reading.{Progress, Step, Fails}
use Rattle.bench_pcapng.specs.declared.effect.Effect.{Effect}
use Rattle.bench_pcapng.specs.declared.fault.BlockFault.{BlockFault}
use Rattle.bench_pcapng.specs.declared.fault.BlockFault.TheVariants.{Torn}
use Rattle.bench_pcapng.specs.declared.passing.Passing.{Passing}

fewer : (a b k : ℕ) → k ≤ a → k ≤ b → nat_lt (a - k) (b - k) ≡ nat_lt a b
fewer a b k in_a in_b = elim (cases_lt a b) [
  | inl under ↦ lt-ltb (a - k) (b - k) (omega (arith, under, in_a, in_b)) ∙ sym (lt-ltb a b under)
  | inr over ↦ le-ltb (a - k) (b - k) (omega (arith, over, in_a, in_b)) ∙ sym (le-ltb a b over)
]

-- the step over a block that has such an effect: by whether it is short, and whether its second length is the first one
abbrev pub step_by_tests : Bool → Progress → Bool → Bool → List ℕ → Result Effect BlockFault → Step
step_by_tests first known short same behind does =
    if short then Fails (fault_in first known.number Torn)
    else (if same then ends_with first known behind does else Fails (fault_in first known.number Torn))

-- some bytes without so many of them, which stand in front of the place that is behind so many of the others
pub record IsWithout (bytes rest : List ℕ) (count least : ℕ) : Type 0 where
  pub size : length bytes ≡ length rest + count
  pub behind : (n : ℕ) → least ≤ n → drop (n + count) bytes ≡ drop n rest

-- the step over a block without some bytes, by the tests of all of them
pub rest_tests : (known : Progress) (passing : Passing) (bytes rest : List ℕ) (count inside : ℕ) → IsWithout bytes rest count (inside_of passing)
    → inside_of passing + count ≡ inside
    → step_within known passing rest ≡ step_by_tests passing.first known (nat_lt (length bytes) (inside + 4)) (number_in 4 passing.order (drop inside bytes) == passing.total)
    (drop (inside + 4) bytes) (outcome_in passing.order passing.outcome (take (inside_of passing) rest))
unfolding step_within
rest_tests known passing bytes rest count inside is all =
    let own = inside_of passing in
    let short : nat_lt (length bytes) (inside + 4) ≡ nat_lt (length rest) (own + 4) =
    sym (fewer (length bytes) (inside + 4) count (omega (arith, is.size)) (omega (arith, all)))
    ∙ ap (λ (n : ℕ). nat_lt n (inside + 4 - count)) (let a : length bytes - count ≡ length rest = omega (arith, is.size) in a)
    ∙ ap (λ (n : ℕ). nat_lt (length rest) n) (let a : inside + 4 - count ≡ own + 4 = omega (arith, all) in a) in
    let last : drop inside bytes ≡ drop own rest = ap (λ (n : ℕ). drop n bytes) (sym all) ∙ is.behind own (omega arith) in
    let behind : drop (inside + 4) bytes ≡ drop (own + 4) rest =
    ap (λ (n : ℕ). drop n bytes) (let a : inside + 4 ≡ own + 4 + count = omega (arith, all) in a) ∙ is.behind (own + 4) (omega arith) in
    rw (short, last, behind) refl

-- where all that is left makes the same of what is in front of the second length, the step is the same
pub rest_same : (known : Progress) (passing other : Passing) (bytes rest : List ℕ) (count : ℕ) → IsWithout bytes rest count (inside_of other)
    → inside_of other + count ≡ inside_of passing → other.first ≡ passing.first → other.order ≡ passing.order → other.total ≡ passing.total
    → (inside_of passing ≤ length bytes
    → outcome_in other.order other.outcome (take (inside_of other) rest) ≡ outcome_in passing.order passing.outcome (take (inside_of passing) bytes))
    → step_within known passing bytes ≡ step_within known other rest
unfolding step_within
rest_same known passing other bytes rest count is all first order total does =
    by_length (cases_lt (length bytes) (inside_of passing + 4)) ∙ sym (rest_tests known other bytes rest count (inside_of passing) is all)
  where
    by_length : (length bytes < inside_of passing + 4) ⊎ (inside_of passing + 4 ≤ length bytes)
        → step_by_tests passing.first known (nat_lt (length bytes) (inside_of passing + 4)) (number_in 4 passing.order (drop (inside_of passing) bytes) == passing.total)
        (drop (inside_of passing + 4) bytes) (outcome_in passing.order passing.outcome (take (inside_of passing) bytes))
        ≡ step_by_tests other.first known (nat_lt (length bytes) (inside_of passing + 4)) (number_in 4 other.order (drop (inside_of passing) bytes) == other.total)
        (drop (inside_of passing + 4) bytes) (outcome_in other.order other.outcome (take (inside_of other) rest))
    by_length (inl short) =
        let a : nat_lt (length bytes) (inside_of passing + 4) ≡ true = lt-ltb _ _ short in
        rw (first, a) refl
    by_length (inr long) =
        let a = does (omega (arith, long)) in
        rw (a, first, order, total) refl
