use Rattle.std.proofs.Common.{◌∙◌, codes, sym}
use Rattle.clap.specs.Words.{found_of}
use Rattle.clap.proofs.WalkLemmas.{first_value-rows, one_text-rows}
use Rattle.command_words.proofs.Ordered.{order_unread}
use Rattle.command_words.proofs.expecting.read_expect.Goals as goal

pub returns-clause-asked : goal.returns-clause-asked
returns-clause-asked c =
    let found = found_of c.args.given.now in
    record {
      trace = c.in_ok-trace.ensures.asked;
      from = c.in_ok-from.ensures.asked;
      order = c.are_in_order.ensures.yes c.if-not-are_in_order.false;
      file = sym (first_value-rows found (codes "expectations")) ∙ sym c.get_str.ensures;
      least = c.in_ok-read_short.ensures.asked;
      json = record {
        with = λ e. c.get_flag.ensures.value (one_text-rows found (codes "json") ∙ e);
        without = λ e. c.get_flag.ensures.other (one_text-rows found (codes "json") ∙ e);
      };
    }

pub returns-then-not-are_in_order-clause-none : goal.returns-then-not-are_in_order-clause-none
returns-then-not-are_in_order-clause-none c =
    let found = found_of c.args.given.now in
    order_unread found _ _ c.in_ok-from.ensures.asked c.in_ok-trace.ensures.asked.until (c.are_in_order.ensures.no c.if-not-are_in_order.true)
