use Rattle.std.proofs.Common.{◌≡◌, ◌∙◌, ℕ, Option, Some, None, true, false, codes, sym, subst, refl}
use Rattle.clap.specs.Words.{found_of, rows_of}
use Rattle.command_words.specs.Asked.{IsListed, IsNumber, IsOptionalNumber, asks_for_all}
use Rattle.command_words.proofs.Given.{option_same}
use Rattle.command_words.proofs.reading.read_listed.Goals as goal

pub returns-in-None-clause-asked : goal.returns-in-None-clause-asked
returns-in-None-clause-asked c =
    let rows = rows_of (found_of c.args.given.now) in (
      sym c.asks_for_all-all.ensures ∙ c.if-all.true,
      record { given = None; value = subst (λ (n : Option ℕ). IsOptionalNumber (codes "most") rows n) c.in-None.is c.in_ok-most.ensures.asked; number = refl },
    )

pub returns-in-None-2-clause-asked : goal.returns-in-None-2-clause-asked
returns-in-None-2-clause-asked c =
    let rows = rows_of (found_of c.args.given.now) in (
      sym c.asks_for_all-all.ensures ∙ c.if-all.false,
      subst (λ (n : Option ℕ). IsOptionalNumber (codes "most") rows n) c.in-None-2.is c.in_ok-most.ensures.asked,
    )

pub returns-in-Some-clause-asked : goal.returns-in-Some-clause-asked
returns-in-Some-clause-asked c =
    let rows = rows_of (found_of c.args.given.now) in (
      sym c.asks_for_all-all.ensures ∙ c.if-all-2.true,
      record {
        given = Some c.in-Some.most;
        value = subst (λ (n : Option ℕ). IsOptionalNumber (codes "most") rows n) c.in-Some.is c.in_ok-most.ensures.asked;
        number = refl;
      },
    )

pub returns-in-Some-2-clause-none : goal.returns-in-Some-2-clause-none
returns-in-Some-2-clause-none c listed is fits =
    let rows = rows_of (found_of c.args.given.now) in
    let alone : asks_for_all rows ≡ false = sym c.asks_for_all-all.ensures ∙ c.if-all-2.false in
    let given : IsNumber (codes "most") rows c.in-Some-2.field-0 =
    subst (λ (n : Option ℕ). IsOptionalNumber (codes "most") rows n) c.in-Some-2.is c.in_ok-most.ensures.asked in
    apart listed is alone given
  where
    apart : (listed : Option ℕ) → IsListed (rows_of (found_of c.args.given.now)) listed → asks_for_all (rows_of (found_of c.args.given.now)) ≡ false
        → IsNumber (codes "most") (rows_of (found_of c.args.given.now)) c.in-Some-2.field-0 → ⊥
    apart (Some n) is alone given = let both : false ≡ true = sym alone ∙ is.0 in absurd (cc)
    apart None is alone given =
        let same : None ≡ Some c.in-Some-2.field-0 =
        option_same (codes "most") (rows_of (found_of c.args.given.now)) None (Some c.in-Some-2.field-0) is.1 given in
        absurd (cc)
