use Rattle.std.proofs.Common.{◌∙◌, codes, sym}
use Rattle.clap.specs.Words.{found_of}
use Rattle.clap.proofs.WalkLemmas.{first_value-rows, one_text-rows}
use Rattle.command_words.proofs.Given.{if_none, trace_file_missing}
use Rattle.command_words.proofs.reading.read_trace.Goals as goal

pub returns-in_err-get_str-clause-none : goal.returns-in_err-get_str-clause-none
returns-in_err-get_str-clause-none c = if_none c.from_residual.result (trace_file_missing (found_of c.args.given.now) (sym c.in_err-get_str.ensures))

pub returns-clause-asked : goal.returns-clause-asked
returns-clause-asked c =
    let found = found_of c.args.given.now in
    record {
      file = sym (first_value-rows found (codes "trace")) ∙ sym c.in_ok-get_str.ensures;
      until = c.in_ok-read_optional.ensures.asked;
      strict = record {
        with = λ e. c.get_flag.ensures.value (one_text-rows found (codes "strict") ∙ e);
        without = λ e. c.get_flag.ensures.other (one_text-rows found (codes "strict") ∙ e);
      };
    }
