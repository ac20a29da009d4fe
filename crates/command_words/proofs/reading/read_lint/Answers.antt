use Rattle.std.proofs.Common.{◌∙◌, Option, codes, sym, subst}
use Rattle.std.specs.Prelude.{IfSome}
use Rattle.clap.specs.Words.{found_of, rows_of}
use Rattle.clap.proofs.WalkLemmas.{first_value-rows, one_text-rows}
use Rattle.command_words.specs.Asked.{IsTraces}
use Rattle.command_words.specs.declared.words.TracesWords.{TracesWords}
use Rattle.command_words.proofs.reading.read_lint.Goals as goal

pub returns-clause-asked : goal.returns-clause-asked
returns-clause-asked c =
    let found = found_of c.args.given.now in
    record {
      traces = subst (λ (read : Option TracesWords). IfSome read (IsTraces (rows_of found))) c.in-Some.is c.in_ok-traces.ensures.asked;
      ignored = c.in_ok-texts_of.ensures;
      fail_on = sym (first_value-rows found (codes "fail-on")) ∙ sym c.get_str.ensures;
      json = record {
        with = λ e. c.get_flag.ensures.value (one_text-rows found (codes "json") ∙ e);
        without = λ e. c.get_flag.ensures.other (one_text-rows found (codes "json") ∙ e);
      };
    }
