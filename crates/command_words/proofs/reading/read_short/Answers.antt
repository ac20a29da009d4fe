use Rattle.std.proofs.Common.{◌∙◌, sym}
use Rattle.clap.specs.Words.{found_of}
use Rattle.clap.proofs.WalkLemmas.{first_value-rows}
use Rattle.command_words.proofs.Given.{short_unread, if_none, nothing_read, number_read, something_read}
use Rattle.command_words.proofs.reading.read_short.Goals as goal

pub returns-then-is_none-clause-asked : goal.returns-then-is_none-clause-asked
returns-then-is_none-clause-asked c =
    sym (first_value-rows (found_of c.args.given.now) c.args.name.now) ∙ sym c.get_str.ensures ∙ nothing_read _ c.get_str.result c.if-is_none.ensures

pub returns-in_err-get_one-clause-none : goal.returns-in_err-get_one-clause-none
returns-in_err-get_one-clause-none c =
    let there = something_read _ c.get_str.result c.if-is_none.ensures in
    if_none c.from_residual.result
    (short_unread (found_of c.args.given.now) c.args.name.now there.0 (sym c.get_str.ensures ∙ there.1) c.in_err-get_one.ensures.value)

pub returns-clause-asked : goal.returns-clause-asked
returns-clause-asked c = number_read 16 (found_of c.args.given.now) c.args.name.now _ c.in_ok-get_one.ensures.none c.in_ok-get_one.ensures.value
