use Rattle.std.proofs.Common.{◌∙◌, codes}
use Rattle.clap.specs.Words.{found_of}
use Rattle.clap.proofs.WalkLemmas.{one_text-rows}
use Rattle.command_words.proofs.Given.{if_none, number_read}
use Rattle.command_words.proofs.Sides.{behind_unread, from_unread}
use Rattle.command_words.proofs.reading.read_hitless.Goals as goal

pub returns-clause-asked : goal.returns-clause-asked
returns-clause-asked c =
    let found = found_of c.args.given.now in
    record {
      trace = c.in_ok-trace.ensures.asked;
      from = number_read 32 found (codes "from") _ c.in_ok-from.ensures.none c.in_ok-from.ensures.value;
      order = c.is_not_behind.ensures.yes c.if-not-is_not_behind.false;
      port = c.in_ok-read_short.ensures.asked;
      least = c.in_ok-read_short-2.ensures.asked;
      json = record {
        with = λ e. c.get_flag.ensures.value (one_text-rows found (codes "json") ∙ e);
        without = λ e. c.get_flag.ensures.other (one_text-rows found (codes "json") ∙ e);
      };
    }

pub returns-in_err-from-clause-none : goal.returns-in_err-from-clause-none
returns-in_err-from-clause-none c = if_none c.from_residual-in_err-from.result (from_unread (found_of c.args.given.now) c.in_err-from.ensures.value)

pub returns-then-not-is_not_behind-clause-none : goal.returns-then-not-is_not_behind-clause-none
returns-then-not-is_not_behind-clause-none c =
    let found = found_of c.args.given.now in
    let from = number_read 32 found (codes "from") _ c.in_ok-from.ensures.none c.in_ok-from.ensures.value in
    behind_unread found _ _ from c.in_ok-trace.ensures.asked.until (c.is_not_behind.ensures.no c.if-not-is_not_behind.true)
