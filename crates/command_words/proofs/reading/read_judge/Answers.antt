use Rattle.std.proofs.Common.{◌∙◌, codes, sym}
use Rattle.clap.specs.Words.{found_of}
use Rattle.clap.proofs.WalkLemmas.{first_value-rows, one_text-rows}
use Rattle.command_words.proofs.reading.read_judge.Goals as goal

pub returns-clause-asked : goal.returns-clause-asked
returns-clause-asked c =
    let found = found_of c.args.given.now in
    record {
      file = sym (first_value-rows found (codes "history")) ∙ sym c.get_str.ensures;
      modelled = record {
        with = λ e. c.get_flag.ensures.value (one_text-rows found (codes "modelled") ∙ e);
        without = λ e. c.get_flag.ensures.other (one_text-rows found (codes "modelled") ∙ e);
      };
      unordered = record {
        with = λ e. c.get_flag-2.ensures.value (one_text-rows found (codes "unordered") ∙ e);
        without = λ e. c.get_flag-2.ensures.other (one_text-rows found (codes "unordered") ∙ e);
      };
      allow_strays = record {
        with = λ e. c.get_flag-3.ensures.value (one_text-rows found (codes "allow-strays") ∙ e);
        without = λ e. c.get_flag-3.ensures.other (one_text-rows found (codes "allow-strays") ∙ e);
      };
      padded = record {
        with = λ e. c.get_flag-4.ensures.value (one_text-rows found (codes "padded") ∙ e);
        without = λ e. c.get_flag-4.ensures.other (one_text-rows found (codes "padded") ∙ e);
      };
      repeats = record {
        with = λ e. c.get_flag-5.ensures.value (one_text-rows found (codes "repeats") ∙ e);
        without = λ e. c.get_flag-5.ensures.other (one_text-rows found (codes "repeats") ∙ e);
      };
      start = sym (first_value-rows found (codes "start")) ∙ sym c.get_str-2.ensures;
      listed = c.in_ok-listed.ensures.asked;
      coverage = c.in_ok-coverage.ensures.asked;
      allow_unfinished = record {
        with = λ e. c.get_flag-6.ensures.value (one_text-rows found (codes "allow-unfinished") ∙ e);
        without = λ e. c.get_flag-6.ensures.other (one_text-rows found (codes "allow-unfinished") ∙ e);
      };
      json = record {
        with = λ e. c.get_flag-7.ensures.value (one_text-rows found (codes "json") ∙ e);
        without = λ e. c.get_flag-7.ensures.other (one_text-rows found (codes "json") ∙ e);
      };
    }
