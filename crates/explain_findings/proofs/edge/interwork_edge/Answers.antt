use Rattle.std.proofs.Common.{◌≡◌, refl}
use Rattle.std.specs.Prelude.{is_none}
use Rattle.mib_state.specs.Entities.{find}
use Rattle.explain_findings.proofs.Growing.{is_none-found}
use Rattle.explain_findings.proofs.edge.interwork_edge.Goals as goal

pub returns : goal.returns
returns c =
    let missing : c.is_none-is_missing.result ≡ is_none (find c.pointer_of_point-pointer.result c.args.mib.now.entities.gem_ports) =
    is_none-found _ c.gem_port.result (find c.pointer_of_point-pointer.result c.args.mib.now.entities.gem_ports) c.is_none-is_missing.result c.is_none-is_missing.ensures c.gem_port.ensures in
    rw (c.plain_edge.ensures, c.node.ensures, c.node-2.ensures, missing, ← c.pointer_of_point-pointer.ensures c.args.number) refl
