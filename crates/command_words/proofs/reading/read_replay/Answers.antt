use Rattle.std.proofs.Common.{◌∙◌, codes, sym}
use Rattle.clap.specs.Words.{found_of}
use Rattle.clap.proofs.WalkLemmas.{first_value-rows, one_text-rows}
use Rattle.command_words.proofs.reading.read_replay.Goals as goal

pub returns : goal.returns
returns c =
    let found = found_of c.args.given.now in
    record {
      file = sym (first_value-rows found (codes "script")) ∙ sym c.get_str.ensures;
      json = record {
        with = λ e. c.get_flag.ensures.value (one_text-rows found (codes "json") ∙ e);
        without = λ e. c.get_flag.ensures.other (one_text-rows found (codes "json") ∙ e);
      };
    }
