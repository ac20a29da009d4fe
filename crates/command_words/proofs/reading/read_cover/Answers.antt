use Rattle.std.proofs.Common.{◌∙◌, codes, sym}
use Rattle.clap.specs.Words.{found_of}
use Rattle.clap.proofs.WalkLemmas.{first_value-rows, one_text-rows}
use Rattle.command_words.proofs.reading.read_cover.Goals as goal

pub returns-clause-asked : goal.returns-clause-asked
returns-clause-asked c =
    let found = found_of c.args.given.now in
    record {
      trace = c.in_ok-read_trace.ensures.asked;
      port = c.in_ok-read_short.ensures.asked;
      least = c.in_ok-read_short-2.ensures.asked;
      script = record {
        with = λ e. c.get_flag.ensures.value (one_text-rows found (codes "script") ∙ e);
        without = λ e. c.get_flag.ensures.other (one_text-rows found (codes "script") ∙ e);
      };
      json = record {
        with = λ e. c.get_flag-2.ensures.value (one_text-rows found (codes "json") ∙ e);
        without = λ e. c.get_flag-2.ensures.other (one_text-rows found (codes "json") ∙ e);
      };
      out = sym (first_value-rows found (codes "out")) ∙ sym c.get_str.ensures;
    }
