use Rattle.std.proofs.Common.{◌≡◌, arith, ap, sym, drop, length, length-append, ◌∙◌}
use Rattle.vlan_rule.specs.Meaning.{rank_number}
use Rattle.vlan_rule.specs.Choice.{rank_at}
use Rattle.explain.specs.Order.{places_from, places_of}
use Rattle.explain.proofs.Orders.{places_more}
use Rattle.explain.proofs.order.append_places.Goals as goal

pub push-requires : goal.push-requires
push-requires c =
    let entries = c.args.table.now in
    let rank = c.args.rank in
    let place = c.loop-place.place in
    let has : rank_at entries place ≡ rank_number rank =
    sym (ap rank_number c.in-Some.ensures.1.rank) ∙ sym c.number.ensures ∙ c.if-number.true ∙ c.number-in-Some.ensures in
    let more = ap length (places_more rank entries place c.in-Some.ensures.0 has) in
    let all = ap length c.loop-place.invariant in
    let before = length-append c.loop-place.order.items (places_from rank place (drop place entries)) in
    let after = length-append c.args.order.now.items (places_of rank entries) in
    (omega arith, omega (arith, c.requires.room))
