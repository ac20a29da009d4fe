use Rattle.std.proofs.Common.{◌∙◌, codes, sym}
use Rattle.clap.specs.Words.{found_of}
use Rattle.clap.proofs.WalkLemmas.{first_value-rows}
use Rattle.command_words.proofs.reading.read_encode.Goals as goal

pub returns-clause-asked : goal.returns-clause-asked
returns-clause-asked c =
    let found = found_of c.args.given.now in
    record {
      file = sym (first_value-rows found (codes "text")) ∙ sym c.get_str.ensures;
      identifier = c.in_ok-read_short.ensures.asked;
    }
