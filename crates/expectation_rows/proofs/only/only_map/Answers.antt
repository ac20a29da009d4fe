use Rattle.std.proofs.Common.{◌≡◌, ℕ, ◌-◌, ◌*◌, ◌/◌, ◌%◌, ◌^◌, ◌<◌, arith, ap, refl, ◌∙◌}
use Rattle.std.proofs.lemmas.Bool.{lt-ltb, le-ltb}
use Rattle.expectation_rows.specs.Only.{eighth, only_map, three_bytes}
use Rattle.expectation_rows.proofs.OnlyMap.{eighth_fits}
use Rattle.expectation_rows.proofs.only.only_map.Goals as goal

-- the group fits in a word
group_is : (n p dscp : ℕ) → n ≡ p → p < 8 → n * 2 ^ (3 * (7 - dscp % 8)) % 4294967296 ≡ eighth dscp p
group_is n p dscp is low =
    let fits = eighth_fits dscp p low in
    ap (λ (m : ℕ). m * 2 ^ (3 * (7 - dscp % 8)) % 4294967296) is ∙ small (eighth dscp p) fits
  where
    small : (m : ℕ) → m < 2 ^ 24 → m % 4294967296 ≡ m
    small m h = omega arith

pub overflow_cast-map : goal.overflow_cast-map
overflow_cast-map c =
    let fits = eighth_fits c.args.dscp c.args.priority c.requires in
    let is = group_is c.from.result c.args.priority c.args.dscp c.from.ensures c.requires in
    omega arith

pub returns-then-dscp-lt64 : goal.returns-then-dscp-lt64
unfolding only_map
returns-then-dscp-lt64 c =
    let is = group_is c.from.result c.args.priority c.args.dscp c.from.ensures c.requires in
    let within = lt-ltb c.args.dscp 64 c.if-dscp-lt64.true in
    rw within
    (ap (λ (p : ℕ). three_bytes (3 * p) (c.from.result * 2 ^ (3 * (7 - c.args.dscp % 8)) % 4294967296)) c.from-place.ensures
    ∙ ap (three_bytes (3 * (c.args.dscp / 8))) is)

pub returns-else-dscp-lt64 : goal.returns-else-dscp-lt64
unfolding only_map
returns-else-dscp-lt64 c = let past = le-ltb c.args.dscp 64 c.if-dscp-lt64.false in rw past refl
