use Rattle.std.proofs.Common.{ap, arith}
use Rattle.mib_state.specs.Entities.{State}
use Rattle.migration_check.proofs.Carried.{left_more, told_more}
use Rattle.migration_check.proofs.accepting.carry_out_all.Goals as goal

pub loop-each-preserved : goal.loop-each-preserved
loop-each-preserved c =
    let e = c.args.mib.now.entities in
    let requests = c.args.requests.now in
    let i = c.loop-each.each-index in
    let q = c.each-item.result in
    let now = c.loop-each.mib.entities in
    let carried = c.carry_out-carried in
    record {
      accepted = told_more e requests i q now c.loop-each.accepted carried.result.accepted c.are_both-accepted.result (omega arith) c.each-item.is
          c.loop-each.invariant.after c.loop-each.invariant.accepted carried.ensures.accepted c.are_both-accepted.ensures;
      after = left_more e requests i q now carried.new.self.entities (omega arith) c.each-item.is c.loop-each.invariant.after
          (ap (λ (s : State). s.entities) carried.ensures.after);
    }
