use Rattle.frame_classes.proofs.FirstRows.{apart_along, first_fits, get_there}
use Rattle.frame_classes.proofs.sides.Sides.is_apart.Goals as goal

pub are_first_apart-requires-clause-fits : goal.are_first_apart-requires-clause-fits
are_first_apart-requires-clause-fits c =
    first_fits c.args.self.now.sides.now c.args.one c.in-Some-Some.side.now c.args.values.now c.args.left.now _ c.requires.beside.fit c.requires.left
    (get_there c.args.self.now.sides.now c.args.one c.in-Some-Some.side.now c.in-Some-Some.ensures.lookup.3.0 (c.in-Some-Some.ensures.lookup.3.1 c.in-Some-Some.side.now)) c.first-row.ensures

pub are_first_apart-requires-clause-beside_fits : goal.are_first_apart-requires-clause-beside_fits
are_first_apart-requires-clause-beside_fits c =
    first_fits c.args.self.now.sides.now c.args.other c.in-Some-Some.next.now c.args.values.now c.args.left.now _ c.requires.beside.fit c.requires.left
    (get_there c.args.self.now.sides.now c.args.other c.in-Some-Some.next.now c.in-Some-Some.ensures'.lookup.3.0 (c.in-Some-Some.ensures'.lookup.3.1 c.in-Some-Some.next.now)) c.first-beside.ensures

pub returns-in-Some-Some : goal.returns-in-Some-Some
returns-in-Some-Some c =
    apart_along c.args.self.now.sides.now c.args.one c.args.other c.in-Some-Some.side.now c.in-Some-Some.next.now c.args.values.now c.args.left.now
    c.args.reasons _ _ c.are_first_apart.result c.requires.left c.in-Some-Some.ensures.lookup.3.1 c.in-Some-Some.ensures'.lookup.3.1 c.first-row.ensures
    c.first-beside.ensures c.are_first_apart.ensures
