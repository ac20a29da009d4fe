use Rattle.std.proofs.Common.{ℕ, List, subst, sym}
use Rattle.text_every_frame.specs.Ports.{ArePortsOfSides}
use Rattle.text_every_frame.specs.Same.{IsSaid}
use Rattle.text_every_frame.proofs.Saying.{said}
use Rattle.text_every_frame.proofs.comparing.write_differences.Goals as goal

pub returns : goal.returns
returns g c =
    let e = c.args.compared.now.before.mib.now.entities in
    let f = c.args.compared.now.after.mib.now.entities in
    let port = c.args.frames.port in
    let ports : ArePortsOfSides port e f c.deref.result.now =
    subst (λ (l : List ℕ). ArePortsOfSides port e f l) (sym c.deref.ensures.value) c.in_ok-ports.ensures in
    subst (λ (n : ℕ). IsSaid e f port n c.in_ok-is_same.is_same) c.from-least.ensures
    (said c.law_of_named_ports.ensures port e f c.deref.result.now c.from-least.result c.in_ok-is_same.is_same ports c.in_ok-is_same.ensures)
