use Rattle.std.proofs.Common.{◌≡◌, ◌∙◌, length, get_or, drop, arith, rules, sym, subst, take_at, List}
use Rattle.std.specs.List.{AllZip}
use Rattle.std.proofs.lemmas.List.{length-set, get_or-set_other}
use Rattle.plan_publish.specs.declared.lane.Lane.{Lane}
use Rattle.plan_publish.specs.Told.{told_list}
use Rattle.run_lanes.specs.Settling.{HasLearnt}
use Rattle.run_lanes.proofs.Zips.{zip_by_index}
use Rattle.run_lanes.proofs.Learnt.{learn_done, same_default}
use Rattle.run_lanes.proofs.run.learn_all.Goals as goal

pub loop-lane-preserved : goal.loop-lane-preserved
loop-lane-preserved c =
    let v = c.loop-lane.invariant in
    let e = c.learn.ensures in
    record {
      len = length-set c.loop-lane.lane-items c.loop-lane.lane-index c.learn.new.self ∙ v.len;
      done = learn_done (told_list c.args.told.now) c.args.lanes.now.items c.loop-lane.lane-items c.loop-lane.lane-index _ c.learn.new.self (search rules) v.len v.done v.left
          (record { number_is = e.number; held = e.held; home_is = e.home; learnt = e.told });
      left = λ k d le. get_or-set_other c.loop-lane.lane-items c.loop-lane.lane-index k c.learn.new.self d (λ same. absurd (omega (arith, le, same))) ∙ v.left k d (omega (arith, le));
    }

pub returns : goal.returns
returns c =
    let v = c.loop-lane.invariant in
    let log = told_list c.args.told.now in
    let n : length c.loop-lane.lane-items ≡ c.args.lanes.now.len = search rules in
    let whole = take_at c.loop-lane.lane-items (drop (length c.loop-lane.lane-items) c.args.lanes.now.items) c.args.lanes.now.len n in
    let A : List Lane → Type 0 = λ l. AllZip (HasLearnt log) c.args.lanes.now.items l in
    subst A (sym whole)
    (zip_by_index (HasLearnt log) c.args.lanes.now.items c.loop-lane.lane-items v.len
    (λ i d lt. (get_or c.args.lanes.now.items i d, same_default c.args.lanes.now.items i d _ lt, v.done i d (omega (arith, lt)))))
