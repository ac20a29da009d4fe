use Rattle.std.proofs.Common.{◌∙◌, codes}
use Rattle.clap.specs.Words.{found_of}
use Rattle.clap.proofs.WalkLemmas.{one_text-rows}
use Rattle.command_words.proofs.reading.read_decode.Goals as goal

pub returns : goal.returns
returns c =
    let found = found_of c.args.given.now in
    record {
      files = c.in_ok-texts_of.ensures;
      source = record {
        with = λ e. c.get_flag.ensures.value (one_text-rows found (codes "source") ∙ e);
        without = λ e. c.get_flag.ensures.other (one_text-rows found (codes "source") ∙ e);
      };
      json = record {
        with = λ e. c.get_flag-2.ensures.value (one_text-rows found (codes "json") ∙ e);
        without = λ e. c.get_flag-2.ensures.other (one_text-rows found (codes "json") ∙ e);
      };
    }
