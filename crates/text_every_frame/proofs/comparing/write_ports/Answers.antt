use Rattle.std.proofs.Common.{ℕ, List, ◌≤◌, arith, length, subst}
use Rattle.std.proofs.lemmas.Grind.{common_steps}
use Rattle.std.proofs.lemmas.List.{take_all}
use Rattle.text_every_frame.specs.Same.{IsSaidOf}
use Rattle.text_every_frame.proofs.Saying.{said_more}
use Rattle.text_every_frame.proofs.comparing.write_ports.Goals as goal

pub loop-port-preserved : goal.loop-port-preserved
loop-port-preserved g c =
    said_more c.args.compared.now.before.mib.now.entities c.args.compared.now.after.mib.now.entities c.args.least c.args.ports.now c.loop-port.port-index
    c.loop-port.is_same c.in_ok-is_same_here.is_same_here c.are_both-is_same.result c.are_both-is_same.ensures (omega arith) c.loop-port.invariant c.in_ok-is_same_here.ensures

pub returns : goal.returns
returns g c =
    let past : length c.args.ports.now ≤ c.loop-port.port-index = grind (arith, common_steps) in
    subst (λ (ports : List ℕ). IsSaidOf c.args.compared.now.before.mib.now.entities c.args.compared.now.after.mib.now.entities c.args.least ports c.loop-port.is_same)
    (take_all c.loop-port.port-index c.args.ports.now past) c.loop-port.invariant
