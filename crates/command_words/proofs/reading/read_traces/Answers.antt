use Rattle.std.proofs.Common.{◌≡◌, ◌∙◌, List, ap, codes, false, length, sym, true}
use Rattle.std.specs.Prelude.{◌==◌}
use Rattle.std.specs.Borrow.{Bor}
use Rattle.clap.specs.Words.{Text, found_of}
use Rattle.clap.proofs.WalkLemmas.{one_text-rows}
use Rattle.command_words.proofs.reading.read_traces.Goals as goal

pub returns-clause-asked : goal.returns-clause-asked
returns-clause-asked c =
    let found = found_of c.args.given.now in
    record {
      files = c.in_ok-files.ensures;
      some = λ e.
          let bad : false ≡ true =
          sym c.if-is_empty.false ∙ c.is_empty.ensures ∙ ap (λ n. n == 0) (c.in_ok-files.files.ok.0 ∙ ap (λ (items : List (Bor Text)). length items) e) in
          absurd (cc);
      until = c.in-Some.ensures.asked;
      strict = record {
        with = λ e. c.get_flag.ensures.value (one_text-rows found (codes "strict") ∙ e);
        without = λ e. c.get_flag.ensures.other (one_text-rows found (codes "strict") ∙ e);
      };
    }
