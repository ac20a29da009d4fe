use Rattle.std.proofs.Common.{◌≡◌, ◌∙◌, ℕ, Option, Some, None, true, false, codes, sym, subst}
use Rattle.clap.specs.Words.{found_of, rows_of}
use Rattle.command_words.specs.Asked.{IsCoverage, IsNumber, IsOptionalNumber, asks_for_coverage, asks_for_each}
use Rattle.command_words.proofs.Given.{option_same}
use Rattle.command_words.proofs.reading.read_coverage.Goals as goal

pub returns-then-is_asked-clause-asked : goal.returns-then-is_asked-clause-asked
returns-then-is_asked-clause-asked c = (
  sym c.is_asked.ensures ∙ c.if-is_asked.true,
  sym c.is_asked-then-is_asked.ensures ∙ c.if-is_asked-2.false,
  record { given = c.in_ok-least.least; value = c.in_ok-least.ensures.asked; number = c.unwrap_or.ensures },
)

pub returns-then-is_asked-2-clause-none : goal.returns-then-is_asked-2-clause-none
returns-then-is_asked-2-clause-none c coverage is fits =
    let rows = rows_of (found_of c.args.given.now) in
    let asked : asks_for_coverage rows ≡ true = sym c.is_asked.ensures ∙ c.if-is_asked.true in
    let each : asks_for_each rows ≡ true = sym c.is_asked-then-is_asked.ensures ∙ c.if-is_asked-2.true in
    apart coverage is asked each
  where
    apart : (coverage : Option ℕ) → IsCoverage (rows_of (found_of c.args.given.now)) coverage
        → asks_for_coverage (rows_of (found_of c.args.given.now)) ≡ true → asks_for_each (rows_of (found_of c.args.given.now)) ≡ true → ⊥
    apart (Some n) is asked each = let both : false ≡ true = sym is.1 ∙ each in absurd (cc)
    apart None is asked each = let both : false ≡ true = sym is.0 ∙ asked in absurd (cc)

pub returns-in-None-clause-asked : goal.returns-in-None-clause-asked
returns-in-None-clause-asked c =
    let rows = rows_of (found_of c.args.given.now) in (
      sym c.is_asked.ensures ∙ c.if-is_asked.false,
      subst (λ (n : Option ℕ). IsOptionalNumber (codes "least") rows n) c.in-None.is c.in_ok-least.ensures.asked,
    )

pub returns-in-Some-clause-none : goal.returns-in-Some-clause-none
returns-in-Some-clause-none c coverage is fits =
    let rows = rows_of (found_of c.args.given.now) in
    let alone : asks_for_coverage rows ≡ false = sym c.is_asked.ensures ∙ c.if-is_asked.false in
    let given : IsNumber (codes "least") rows c.in-Some.field-0 =
    subst (λ (n : Option ℕ). IsOptionalNumber (codes "least") rows n) c.in-Some.is c.in_ok-least.ensures.asked in
    apart coverage is alone given
  where
    apart : (coverage : Option ℕ) → IsCoverage (rows_of (found_of c.args.given.now)) coverage
        → asks_for_coverage (rows_of (found_of c.args.given.now)) ≡ false
        → IsNumber (codes "least") (rows_of (found_of c.args.given.now)) c.in-Some.field-0 → ⊥
    apart (Some n) is alone given = let both : false ≡ true = sym alone ∙ is.0 in absurd (cc)
    apart None is alone given =
        let same : None ≡ Some c.in-Some.field-0 =
        option_same (codes "least") (rows_of (found_of c.args.given.now)) None (Some c.in-Some.field-0) is.1 given in
        absurd (cc)
