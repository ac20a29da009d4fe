use Rattle.std.proofs.Common.{◌∙◌, sym}
use Rattle.migration_check.proofs.Numbers.{found_more}
use Rattle.migration_check.proofs.same.are_gem_ports_same.Goals as goal

pub loop-number-preserved : goal.loop-number-preserved
loop-number-preserved c =
    let n = c.loop-number.number in
    found_more c.args.one.now.entities.gem_ports c.args.other.now.entities.gem_ports n c.loop-number.invariant
    (sym c.gem_port.ensures ∙ (c.is_gem_port_same.ensures c.if-not-is_gem_port_same.false n ∙ c.gem_port-in-loop-number.ensures))
