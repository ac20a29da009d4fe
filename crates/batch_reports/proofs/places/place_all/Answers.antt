use Rattle.std.proofs.Common.{◌<◌, ◌∙◌, ap, length, rules, vec_len}
use Rattle.std.proofs.lemmas.Iterator.Adapters.{YieldsList-from_vec}
use Rattle.batch_reports.specs.Gathering.{misplaced}
use Rattle.batch_reports.proofs.Filling.{behind, fits_push, no_place}
use Rattle.batch_reports.proofs.places.place_all.Goals as goal

pub loop-item-preserved : goal.loop-item-preserved
loop-item-preserved g c =
    let number = g.T.Numbered.number in
    let free = c.in_default.ensures.free in
    let room : number c.in-Some.item < length c.loop-item.slots.items = search rules in
    rw c.in_default.ensures.placed (fits_push number _ c.loop-item.yielded c.loop-item.slots.items c.in-Some.item c.loop-item.invariant room free.1)

pub returns-in-Err-clause-misfit : goal.returns-in-Err-clause-misfit
returns-in-Err-clause-misfit g c =
    let number = g.T.Numbered.number in
    let road = YieldsList-from_vec {s = c.into_iter-item-iterator.result} c.args.items.items (search rules) (search rules) in
    let split = behind road c.loop-item.yielded c.loop-item.item-iterator c.loop-item.yielded_by c.in-Some.item c.next.result c.next.new.self c.in-Some.is c.next.ensures.steps in
    ap (misplaced number (vec_len c.args.slots)) split.1
    ∙ no_place number (vec_len c.args.slots) c.loop-item.yielded c.loop-item.slots.items c.in-Some.item c.in-Err.fault split.0 c.loop-item.invariant c.in-Err.ensures.misfit
