use Rattle.std.proofs.Common.{ℕ, ◌<◌, List, ◌++◌, arith, ap, append_assoc, length, length-append, ◌∙◌}
use Rattle.std.proofs.lemmas.List.Elements.{All-same}
use Rattle.vlan_rule.specs.declared.rank.Rank.TheVariants.{Ordinary, Default, Predefined}
use Rattle.explain.specs.Order.{places_of, tried_order}
use Rattle.explain.proofs.Orders.{length-places, tried_within}
use Rattle.explain.proofs.order.tried_order.Goals as goal

pub append_places-requires-clause-room : goal.append_places-requires-clause-room
append_places-requires-clause-room c =
    omega (arith, length-places c.args.table.now, ap length c.new-order.ensures)

pub append_places-requires-2-clause-room : goal.append_places-requires-2-clause-room
append_places-requires-2-clause-room c =
    let entries = c.args.table.now in
    let first = ap length c.append_places.ensures ∙ length-append c.new-order.result.items (places_of Ordinary entries) in
    omega (arith, length-places entries, ap length c.new-order.ensures)

pub append_places-requires-3-clause-room : goal.append_places-requires-3-clause-room
append_places-requires-3-clause-room c =
    let entries = c.args.table.now in
    let first = ap length c.append_places.ensures ∙ length-append c.new-order.result.items (places_of Ordinary entries) in
    let second = ap length c.append_places-2.ensures ∙ length-append c.append_places.new.order.items (places_of Default entries) in
    omega (arith, length-places entries, ap length c.new-order.ensures)

pub returns-clause-order : goal.returns-clause-order
unfolding tried_order
returns-clause-order c =
    let entries = c.args.table.now in
    let first = c.append_places.ensures ∙ ap (λ (l : List ℕ). l ++ places_of Ordinary entries) c.new-order.ensures in
    let second = c.append_places-2.ensures ∙ ap (λ (l : List ℕ). l ++ places_of Default entries) first in
    c.append_places-3.ensures ∙ ap (λ (l : List ℕ). l ++ places_of Predefined entries) second
    ∙ append_assoc (places_of Ordinary entries) (places_of Default entries) (places_of Predefined entries)

pub returns-clause-in_range : goal.returns-clause-in_range
returns-clause-in_range c =
    let entries = c.args.table.now in
    All-same (λ place. place < length entries) c.append_places-3.new.order.items (tried_order entries) (returns-clause-order c) (tried_within entries)
