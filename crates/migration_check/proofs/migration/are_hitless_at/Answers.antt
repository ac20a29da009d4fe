use Rattle.std.proofs.Common.{ap, arith}
use Rattle.mib_state.specs.Entities.{State}
use Rattle.frame_classes.specs.Told.{side_by}
use Rattle.migration_check.proofs.Carried.{left_more}
use Rattle.migration_check.proofs.Placed.{given_none, given_some, whole_next}
use Rattle.migration_check.proofs.Ways.{further, torn_there}
use Rattle.migration_check.proofs.migration.are_hitless_at.Goals as goal

pub loop-place-preserved : goal.loop-place-preserved
loop-place-preserved c =
    let e = c.args.before.now.entities in
    let g = c.args.after.now.entities in
    let requests = c.args.requests.now in
    let place = c.loop-place.place in
    let here = c.carry_out.new.self.entities in
    let at = left_more e requests place c.index-requests-place.result c.loop-place.here.entities here (omega (arith, c.saturating_sub-between.ensures))
    c.index-requests-place.is c.loop-place.invariant.here (ap (λ (s : State). s.entities) c.carry_out.ensures.after) in
    let followed = given_some e here g c.args.port c.in_ok-next.field-0 c.in-Some.next c.in-Some.is (c.in_ok-next.ensures c.loop-place.invariant.last) in
    record {
      here = at;
      whole = further e requests g here c.args.port place c.loop-place.invariant.whole at followed.0;
      last = whole_next e here g c.args.port (side_by c.in-Some.next) followed.1 followed.0;
    }

pub returns-in_default : goal.returns-in_default
returns-in_default c =
    let e = c.args.before.now.entities in
    let g = c.args.after.now.entities in
    let requests = c.args.requests.now in
    let place = c.loop-place.place in
    let here = c.carry_out.new.self.entities in
    let at = left_more e requests place c.index-requests-place.result c.loop-place.here.entities here (omega (arith, c.saturating_sub-between.ensures))
    c.index-requests-place.is c.loop-place.invariant.here (ap (λ (s : State). s.entities) c.carry_out.ensures.after) in
    torn_there e requests g here c.args.port place at (omega (arith, c.saturating_sub-between.ensures))
    (given_none e here g c.args.port c.in_ok-next.field-0 c.in_default.is (c.in_ok-next.ensures c.loop-place.invariant.last))
