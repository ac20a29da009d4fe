use Rattle.std.proofs.Common.{◌≡◌, ◌∙◌, ◌<◌, ◌^◌, ◌==◌, List, [], ◌∷◌, ℕ, Some, None, true, length, refl, arith, sym, subst}
use Rattle.std.specs.List.{after_first, before_first, position_or_len}
use Rattle.std.specs.Str.Parse.{IsNumeral, digits_value, without_leading_plus}
use Rattle.std.proofs.lemmas.Bool.{eqb-true}
use Rattle.std.proofs.lemmas.Str.Pattern.{split_once_first}
use Rattle.command_words.specs.Numbered.{is_mark}
use Rattle.command_words.proofs.Given.{if_none}
use Rattle.command_words.proofs.numbered.read_numbered.Goals as goal

no_text : (xs : List ℕ) → true ≡ (length xs == 0) → xs ≡ []
no_text [] is = refl
no_text (x ∷ xs) is = absurd (omega (arith, eqb-true (length (x ∷ xs)) 0 (sym is)))

pub returns-in_err-digits-clause-none : goal.returns-in_err-digits-clause-none
returns-in_err-digits-clause-none c = if_none c.from_residual.result (λ words is small.
    let whole : position_or_len is_mark c.args.text.now ≡ length c.args.text.now =
    split_once_first 61 c.args.text.now None c.in_err-digits.ensures.cases (omega arith) in
    omega (arith, is.mark, whole))

pub returns-then-is_empty-clause-none : goal.returns-then-is_empty-clause-none
returns-then-is_empty-clause-none c words is small =
    let cut = split_once_first 61 c.args.text.now (Some (c.in_ok-digits.digits, c.in_ok-digits.file)) c.in_ok-digits.ensures.cases (omega arith) in
    let rest : c.in_ok-digits.file.now ≡ after_first is_mark c.args.text.now = cut.2 in
    is.some (is.file ∙ sym rest ∙ no_text c.in_ok-digits.file.now c.if-is_empty.ensures)

pub returns-in-Err-clause-none : goal.returns-in-Err-clause-none
returns-in-Err-clause-none c words is small =
    let cut = split_once_first 61 c.args.text.now (Some (c.in_ok-digits.digits, c.in_ok-digits.file)) c.in_ok-digits.ensures.cases (omega arith) in
    let front : before_first is_mark c.args.text.now ≡ c.in_ok-digits.digits.now = sym cut.1 in
    let numeral = subst (λ (t : List ℕ). IsNumeral 10 (without_leading_plus t)) front is.numeral in
    let fits = subst (λ (t : List ℕ). digits_value 10 (without_leading_plus t) < 2 ^ 16) front (omega (arith, is.number, small)) in
    c.in-Err.ensures.value.0 (numeral, fits)
