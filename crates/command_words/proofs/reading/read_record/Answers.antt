use Rattle.std.proofs.Common.{◌∙◌, codes, sym}
use Rattle.clap.specs.Words.{found_of}
use Rattle.clap.proofs.WalkLemmas.{first_value-rows, one_text-rows}
use Rattle.command_words.proofs.Given.{late_unread}
use Rattle.command_words.proofs.reading.read_record.Goals as goal

pub returns-clause-asked : goal.returns-clause-asked
returns-clause-asked c =
    let found = found_of c.args.given.now in
    record {
      omci = c.in_ok-texts_of.ensures;
      into = c.in_ok-texts_of-2.ensures;
      out_of = c.in_ok-texts_of-3.ensures;
      tpids = c.in_ok-texts_of-4.ensures;
      wait = c.in-Some.ensures.asked;
      lost = c.in-Some-read_optional.ensures.asked;
      late = c.in-Some-read_late.ensures.asked;
      early = record {
        with = λ e. c.get_flag.ensures.value (one_text-rows found (codes "early") ∙ e);
        without = λ e. c.get_flag.ensures.other (one_text-rows found (codes "early") ∙ e);
      };
      skews = c.in_ok-texts_of-5.ensures;
      fcs = record {
        with = λ e. c.get_flag-2.ensures.value (one_text-rows found (codes "fcs") ∙ e);
        without = λ e. c.get_flag-2.ensures.other (one_text-rows found (codes "fcs") ∙ e);
      };
      padded = record {
        with = λ e. c.get_flag-3.ensures.value (one_text-rows found (codes "padded") ∙ e);
        without = λ e. c.get_flag-3.ensures.other (one_text-rows found (codes "padded") ∙ e);
      };
      sources = record {
        with = λ e. c.get_flag-4.ensures.value (one_text-rows found (codes "sources") ∙ e);
        without = λ e. c.get_flag-4.ensures.other (one_text-rows found (codes "sources") ∙ e);
      };
      out = sym (first_value-rows found (codes "out")) ∙ sym c.get_str.ensures;
      strict = record {
        with = λ e. c.get_flag-5.ensures.value (one_text-rows found (codes "strict") ∙ e);
        without = λ e. c.get_flag-5.ensures.other (one_text-rows found (codes "strict") ∙ e);
      };
    }

pub returns-in_default-read_late-clause-none : goal.returns-in_default-read_late-clause-none
returns-in_default-read_late-clause-none c =
    late_unread (found_of c.args.given.now) c.in-Some-read_optional.lost c.in-Some-read_optional.ensures.asked c.in_default-read_late.ensures.none
