use Rattle.std.proofs.Common.{◌∙◌, ap, List, Option, subst, sym}
use Rattle.std.specs.Prelude.{IfNone, IfSome}
use Rattle.std.proofs.lemmas.Result.{err_from_is_err_and}
use Rattle.clap.specs.Walk.{texts}
use Rattle.clap.specs.Words.{App, Row, Text, subcommand_rows_of, takes}
use Rattle.command_words.specs.Asked.{IsAskedBy}
use Rattle.command_words.specs.Range.{IsInRange}
use Rattle.command_words.specs.declared.words.Words.{Words}
use Rattle.command_line.proofs.Parsed.{rows_read}
use Rattle.command_line.proofs.parsing.read_by.Goals as goal

pub returns-in-Some-clause-asked : goal.returns-in-Some-clause-asked
returns-in-Some-clause-asked c =
    let same = rows_read _ (texts c.args.words.now) _ c.requires c.in_ok-matches.ensures.ok.2 in
    subst (λ (o : Option (Text × List Row)). IsAskedBy o c.in-Some.asked) same
    (subst (λ (read : Option Words). IfSome read (IsAskedBy (subcommand_rows_of c.in_ok-matches.matches))) c.in-Some.is c.in_ok-asked.ensures.asked)

pub returns-clause-refused : goal.returns-clause-refused
returns-clause-refused c = λ taken words asked fits.
    let same = rows_read _ (texts c.args.words.now) _ c.requires c.in_ok-matches.ensures.ok.2 in
    let unread = subst (λ (read : Option Words). IfNone read ((words : Words)
    → IsAskedBy (subcommand_rows_of c.in_ok-matches.matches) words → IsInRange words → ⊥)) c.in-None.is c.in_ok-asked.ensures.none in
    absurd (unread words (subst (λ (o : Option (Text × List Row)). IsAskedBy o words) (sym same) asked) fits)

pub returns-in_err-matches-clause-refused : goal.returns-in_err-matches-clause-refused
returns-in_err-matches-clause-refused c =
    let p = err_from_is_err_and c.from_residual.result c.from_residual.ensures.1 in
    rw p.1 (λ taken words asked fits.
    rw p.2 (c.in_err-matches.ensures.passes (ap (λ (a : App). takes a (texts c.args.words.now)) c.requires ∙ taken)))

pub returns-in_err-refusal-in-None-clause-refused : goal.returns-in_err-refusal-in-None-clause-refused
returns-in_err-refusal-in-None-clause-refused c =
    let p = err_from_is_err_and c.from_residual-in_err-refusal-in-None.result c.from_residual-in_err-refusal-in-None.ensures.1 in
    rw p.1 (λ taken words asked fits. p.2)
