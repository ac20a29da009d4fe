use Rattle.std.proofs.Common.{◌∙◌, codes}
use Rattle.clap.specs.Words.{found_of}
use Rattle.clap.proofs.WalkLemmas.{one_text-rows}
use Rattle.command_words.proofs.Given.{explain_unread, if_none, number_read}
use Rattle.command_words.proofs.reading.read_explain.Goals as goal

pub returns-clause-asked : goal.returns-clause-asked
returns-clause-asked c =
    let found = found_of c.args.given.now in
    record {
      trace = c.in_ok-read_trace.ensures.asked;
      port = number_read 16 found (codes "port") _ c.in_ok-get_one.ensures.none c.in_ok-get_one.ensures.value;
      frame = c.in_ok-read_frame.ensures.asked;
      all = record {
        with = λ e. c.get_flag.ensures.value (one_text-rows found (codes "all") ∙ e);
        without = λ e. c.get_flag.ensures.other (one_text-rows found (codes "all") ∙ e);
      };
      json = record {
        with = λ e. c.get_flag-2.ensures.value (one_text-rows found (codes "json") ∙ e);
        without = λ e. c.get_flag-2.ensures.other (one_text-rows found (codes "json") ∙ e);
      };
    }

pub returns-in_err-get_one-clause-none : goal.returns-in_err-get_one-clause-none
returns-in_err-get_one-clause-none c = if_none c.from_residual-in_err-get_one.result (explain_unread (found_of c.args.given.now) c.in_err-get_one.ensures.value)

pub returns-in_err-read_frame-clause-none : goal.returns-in_err-read_frame-clause-none
returns-in_err-read_frame-clause-none c = if_none c.from_residual-in_err-read_frame.result (λ words is port fits line. c.in_err-read_frame.ensures.none words.frame is.frame fits)
