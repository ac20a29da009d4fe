use Rattle.std.proofs.Common.{arith, sym, ◌∙◌}
use Rattle.frame_meaning.proofs.GemPorts.{behind_some}
use Rattle.frame_meaning.proofs.gem_port.gem_port_behind.Goals as goal

pub returns : goal.returns
returns c = λ n.
    c.port_id_of.ensures c.args.point.now.gem_port_pointer
    ∙ sym (behind_some c.args.mib.now.entities n c.args.point.now _ (omega arith) (sym (rw c.in_ok-gem.ensures.ok_part at c.gem_port.ensures)))
