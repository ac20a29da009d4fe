use Rattle.std.proofs.Common.{◌==◌, IsSome, ap, subst, sym, ◌∙◌}
use Rattle.std.specs.List.{position}
use Rattle.explain.proofs.Orders.{number_found}
use Rattle.explain.proofs.order.number_of.Goals as goal

pub returns-clause-value : goal.returns-clause-value
returns-clause-value c =
    c.first_at.ensures
    ∙ ap (position (λ tried. tried == c.args.place)) (c.as_slice.ensures.value ∙ c.tried_order.ensures.order)

pub returns-clause-found : goal.returns-clause-found
returns-clause-found c = λ within.
    subst IsSome (sym (returns-clause-value c)) (number_found c.args.table.now c.args.place within)
