use Rattle.std.proofs.Common.{◌∙◌, Some, ap, sym, length, rules}
use Rattle.std.proofs.lemmas.Iterator.Adapters.{YieldsList-from_vec}
use Rattle.std.proofs.lemmas.Iterator.Consumers.{YieldsList-turn}
use Rattle.std.proofs.lemmas.Option.{slice_get-get_or}
use Rattle.std.proofs.lemmas.Result.{err_from_is_err_and}
use Rattle.plan_publish.specs.Told.{told_list}
use Rattle.run_lanes.proofs.Collecting.{collected_none, collected_push}
use Rattle.run_lanes.proofs.settling.collect.Goals as goal

pub loop-done-init : goal.loop-done-init
loop-done-init c = rw c.new-all.ensures.items (collected_none (told_list c.args.told.now))

pub loop-done-preserved : goal.loop-done-preserved
loop-done-preserved c =
    let s = c.in_ok-confirmed.ensures.confirmed in
    rw c.in_ok-all.ensures.added (collected_push (told_list c.args.told.now) c.loop-done.yielded c.loop-done.all.items c.in-Some.done c.in_ok-confirmed.field-0 c.loop-done.invariant s.0 s.1)

pub returns-in_err-confirmed-clause-full : goal.returns-in_err-confirmed-clause-full
returns-in_err-confirmed-clause-full c is =
    let all = c.args.all_done.items in
    let done = c.in-Some.done in
    let road = YieldsList-from_vec {s = c.into_iter-done-iterator.result} all (search rules) (search rules) in
    let turn = YieldsList-turn road c.loop-done.yielded c.loop-done.done-iterator c.loop-done.yielded_by c.next.result c.next.new.self done c.in-Some.is c.next.ensures.steps in
    let told = err_from_is_err_and c.from_residual.result c.from_residual.ensures.1 in
    let given = told.1 in
    let same = told.2 in
    let full = c.in_err-confirmed.ensures.full cc in
    record {
      place = length c.loop-done.yielded;
      done = done;
      at_place = slice_get-get_or all (length c.loop-done.yielded) done turn.0 ∙ ap Some (sym turn.1);
      is_full = full.0;
      began = full.1;
    }
