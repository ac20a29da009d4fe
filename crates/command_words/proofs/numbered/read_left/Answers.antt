use Rattle.std.proofs.Common.{◌≡◌, ◌∙◌, Some, ap, arith, codes, false, sym, true}
use Rattle.std.specs.Borrow.{Bor}
use Rattle.std.specs.Str.{bytes_eq}
use Rattle.std.proofs.lemmas.Str.Pattern.{split_once_first}
use Rattle.clap.specs.Words.{Text}
use Rattle.command_words.specs.Numbered.{IsLeftBy, IsLeftByInRange}
use Rattle.command_words.specs.declared.numbered.LeftBy.{LeftBy}
use Rattle.command_words.specs.declared.numbered.LeftBy.TheVariants.{Gem, Any, Interface}
use Rattle.command_words.proofs.Given.{if_none}
use Rattle.command_words.proofs.numbered.read_left.Goals as goal

pub returns-in_err-numbered-clause-none : goal.returns-in_err-numbered-clause-none
returns-in_err-numbered-clause-none c = if_none c.from_residual.result (λ words is small. none_by words.by words.file is small)
  where
    none_by : (by : LeftBy) (file : Bor Text) → IsLeftBy by c.args.text.now file → IsLeftByInRange by → ⊥
    none_by (Gem n) file is small = c.in_err-numbered.ensures.none (record { number = n; file = file }) is small
    none_by Any file is small =
        let cut = split_once_first 61 c.args.text.now (Some (c.in-Some.front, c.in-Some.file)) c.in-Some.ensures.cases (omega arith) in
        let same : c.in-Some.front.now ≡ codes "any" = cut.1 ∙ is.1 in
        let bad : false ≡ true = sym c.if-eq.false ∙ c.eq.ensures ∙ ap (λ (t : Text). bytes_eq t (codes "any")) same in
        absurd (cc)
    none_by Interface file is small =
        let cut = split_once_first 61 c.args.text.now (Some (c.in-Some.front, c.in-Some.file)) c.in-Some.ensures.cases (omega arith) in
        omega (arith, is.0, cut.0)
