use Rattle.std.proofs.Common.{arith}
use Rattle.port_plan.proofs.CompiledTables.{order_few}
use Rattle.port_plan.proofs.compiled_table.CompiledTable.step.Goals as goal

pub insert_treat-self-inside-requires-clause-space : goal.insert_treat-self-inside-requires-clause-space
insert_treat-self-inside-requires-clause-space c =
    omega (arith, c.self.invariant.1.no_more, order_few c.self.inside.index, c.in-Added.ensures.step.1)

pub invariant_of-self-in-Deleted : goal.invariant_of-self-in-Deleted
invariant_of-self-in-Deleted c =
    let before = c.self.invariant in
    let kept = c.remove_treat-self-inside.ensures in
    let less = c.in-Deleted.ensures.followed in (
      omega (arith, kept.room, before.0),
      kept.treats c.self.inside.settings c.self.inside.index c.approach.new.self less.0 less.1 before.1,
      before.2,
      kept.none before.3,
      kept.some before.4,
    )
