use Rattle.std.proofs.Common.{◌≤◌, ap, arith, length}
use Rattle.std.proofs.lemmas.Grind.{common_steps}
use Rattle.mib_state.specs.Entities.{State}
use Rattle.migration_check.proofs.Carried.{left_more}
use Rattle.migration_check.proofs.Named.{named_more}
use Rattle.migration_check.proofs.ports.add_ports_on_way.Goals as goal

pub loop-each-preserved : goal.loop-each-preserved
loop-each-preserved c =
    let e = c.args.here.now.entities in
    let requests = c.args.requests.now in
    let i = c.loop-each.each-index in
    let here = c.carry_out.new.self.entities in
    let at = left_more e requests i c.each-item.result c.loop-each.here.entities here (omega arith) c.each-item.is c.loop-each.invariant.here
    (ap (λ (s : State). s.entities) c.carry_out.ensures.after) in
    record {
      here = at;
      named = named_more e requests i _ _ here c.loop-each.invariant.named at c.in_ok-add_ports-2.ensures;
    }

pub returns : goal.returns
returns c =
    let past : length c.args.requests.now ≤ c.loop-each.each-index = grind (arith, common_steps) in
    record { each = λ count port within among. c.loop-each.invariant.named count port (omega (arith, within, past)) among }
