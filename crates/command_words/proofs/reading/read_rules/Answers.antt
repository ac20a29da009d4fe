use Rattle.std.proofs.Common.{◌∙◌, Option, codes, subst}
use Rattle.std.specs.Prelude.{IfSome}
use Rattle.clap.specs.Words.{found_of, rows_of}
use Rattle.clap.proofs.WalkLemmas.{one_text-rows}
use Rattle.command_words.proofs.Given.{number_read, rules_unread}
use Rattle.command_words.specs.Asked.{IsTraces}
use Rattle.command_words.specs.declared.words.TracesWords.{TracesWords}
use Rattle.command_words.proofs.reading.read_rules.Goals as goal

pub returns-clause-asked : goal.returns-clause-asked
returns-clause-asked c =
    let found = found_of c.args.given.now in
    record {
      traces = subst (λ (read : Option TracesWords). IfSome read (IsTraces (rows_of found))) c.in-Some-2.is c.in_ok-traces.ensures.asked;
      port = number_read 16 found (codes "port") _ c.in-Some.ensures.none c.in-Some.ensures.value;
      json = record {
        with = λ e. c.get_flag.ensures.value (one_text-rows found (codes "json") ∙ e);
        without = λ e. c.get_flag.ensures.other (one_text-rows found (codes "json") ∙ e);
      };
    }

pub returns-in_default-clause-none : goal.returns-in_default-clause-none
returns-in_default-clause-none c = rules_unread (found_of c.args.given.now) c.in_default.ensures.value
