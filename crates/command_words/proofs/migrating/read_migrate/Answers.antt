use Rattle.std.proofs.Common.{◌∙◌, codes, sym}
use Rattle.clap.specs.Words.{found_of}
use Rattle.clap.proofs.WalkLemmas.{first_value-rows, one_text-rows}
use Rattle.command_words.proofs.Sides.{sides_apart}
use Rattle.command_words.proofs.migrating.read_migrate.Goals as goal

pub returns-clause-asked : goal.returns-clause-asked
returns-clause-asked c =
    let found = found_of c.args.given.now in
    record {
      trace = c.in_ok-trace.ensures.asked;
      from = c.in_ok-from.ensures.asked;
      to = sym (first_value-rows found (codes "to")) ∙ sym c.get_str-to.ensures;
      sides = c.are_sides.ensures.yes c.if-not-are_sides.false;
      leave = record {
        with = λ e. c.get_flag.ensures.value (one_text-rows found (codes "leave") ∙ e);
        without = λ e. c.get_flag.ensures.other (one_text-rows found (codes "leave") ∙ e);
      };
      identifier = c.in_ok-read_short.ensures.asked;
      no_ties = record {
        with = λ e. c.get_flag-2.ensures.value (one_text-rows found (codes "no-ties") ∙ e);
        without = λ e. c.get_flag-2.ensures.other (one_text-rows found (codes "no-ties") ∙ e);
      };
      json = record {
        with = λ e. c.get_flag-3.ensures.value (one_text-rows found (codes "json") ∙ e);
        without = λ e. c.get_flag-3.ensures.other (one_text-rows found (codes "json") ∙ e);
      };
    }

pub returns-then-not-are_sides-clause-none : goal.returns-then-not-are_sides-clause-none
returns-then-not-are_sides-clause-none c =
    let found = found_of c.args.given.now in
    let to = sym (first_value-rows found (codes "to")) ∙ sym c.get_str-to.ensures in
    λ words is line identifier last.
    sides_apart found _ words.to _ words.from _ words.trace.until to c.in_ok-from.ensures.asked c.in_ok-trace.ensures.asked.until
    (c.are_sides.ensures.no c.if-not-are_sides.true) is.to is.from is.trace.until is.sides
