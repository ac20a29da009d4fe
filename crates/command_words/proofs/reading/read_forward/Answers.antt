use Rattle.std.proofs.Common.{◌∙◌, codes, sym}
use Rattle.clap.specs.Words.{found_of}
use Rattle.clap.proofs.WalkLemmas.{first_value-rows, one_text-rows}
use Rattle.command_words.proofs.Given.{forward_missing, forward_unread, if_none, number_read}
use Rattle.command_words.proofs.reading.read_forward.Goals as goal

pub returns-in_err-get_str-clause-none : goal.returns-in_err-get_str-clause-none
returns-in_err-get_str-clause-none c = if_none c.from_residual-in_err-get_str.result (forward_missing (found_of c.args.given.now) (sym c.in_err-get_str.ensures))

pub returns-in_err-get_one-clause-none : goal.returns-in_err-get_one-clause-none
returns-in_err-get_one-clause-none c = if_none c.from_residual-in_err-get_one.result (forward_unread (found_of c.args.given.now) c.in_err-get_one.ensures.value)

pub returns-clause-asked : goal.returns-clause-asked
returns-clause-asked c =
    let found = found_of c.args.given.now in
    record {
      trace = c.in_ok-read_trace.ensures.asked;
      frames = sym (first_value-rows found (codes "frames")) ∙ sym c.in_ok-get_str.ensures;
      port = number_read 16 found (codes "port") _ c.in_ok-get_one.ensures.none c.in_ok-get_one.ensures.value;
      out = sym (first_value-rows found (codes "out")) ∙ sym c.get_str-2.ensures;
      dropped = sym (first_value-rows found (codes "dropped")) ∙ sym c.get_str-3.ensures;
      verdicts = sym (first_value-rows found (codes "verdicts")) ∙ sym c.get_str-4.ensures;
      json = record {
        with = λ e. c.get_flag.ensures.value (one_text-rows found (codes "json") ∙ e);
        without = λ e. c.get_flag.ensures.other (one_text-rows found (codes "json") ∙ e);
      };
    }
