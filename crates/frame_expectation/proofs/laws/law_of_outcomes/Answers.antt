-- The law, beside the worked examples, which are checked where they are cited.
use Rattle.std.proofs.Common.{sym, ◌∙◌}
use Rattle.std.proofs.lemmas.Bool.{true≢false}
use Rattle.frame_expectation.proofs.Examples.{admitted, conditions, dropped, failing, kept, numbered, second_ports, tagged_so, through, unread, wanted_so, widely}
use Rattle.frame_expectation.proofs.laws.law_of_outcomes.Goals as goal

pub returns : goal.returns
returns c =
    let first = admitted in let second = conditions in let third = dropped in let fourth = failing in let fifth = kept in let sixth = numbered in
    let seventh = second_ports in let eighth = tagged_so in let ninth = through in let tenth = unread in let eleventh = wanted_so in
    let twelfth = widely in
    record {
      not_void = λ e expected least holds void. void holds.some.0 holds.some.1;
      not_failed = λ e expected least holds bytes fails. true≢false (sym (holds.each bytes fails.admitted) ∙ fails.unmet);
      none_fails = λ e expected least void bytes fails. void bytes fails.admitted;
    }
