use Rattle.std.proofs.Common.{ℕ, List, ◌≤◌, arith, length, subst}
use Rattle.std.specs.Prelude.{All}
use Rattle.std.proofs.lemmas.Grind.{common_steps}
use Rattle.std.proofs.lemmas.List.{take_all}
use Rattle.migration_check.specs.Migration.{IsSeenAlikeAt}
use Rattle.migration_check.specs.Telling.{Tells}
use Rattle.migration_check.proofs.Told.{one_more}
use Rattle.migration_check.proofs.reaching.are_alike_at_all.Goals as goal

pub loop-port-preserved : goal.loop-port-preserved
loop-port-preserved c =
    one_more (IsSeenAlikeAt c.args.one.now.entities c.args.other.now.entities) c.args.ports.now c.loop-port.port-index 0
    c.loop-port.are_alike c.in_ok-are_alike_here.are_alike_here c.are_both-are_alike.result c.are_both-are_alike.ensures (omega arith)
    c.loop-port.invariant c.in_ok-are_alike_here.ensures

pub returns : goal.returns
returns c =
    let past : length c.args.ports.now ≤ c.loop-port.port-index = grind (arith, common_steps) in
    subst (λ (ports : List ℕ). Tells c.loop-port.are_alike (All (IsSeenAlikeAt c.args.one.now.entities c.args.other.now.entities) ports))
    (take_all c.loop-port.port-index c.args.ports.now past) c.loop-port.invariant
