use Rattle.std.proofs.Common.{sym}
use Rattle.frame_meaning.proofs.GemPorts.{at_mapper}
use Rattle.frame_meaning.proofs.gem_port.gem_port_at.Goals as goal

pub returns : goal.returns
returns c =
    at_mapper c.args.mib.now.entities c.args.port c.args.tags.now c.args.dscp c.in_ok-mapper.mapper.now c.priority.result c.gem_port_of.result
    (c.in_ok-mapper.field-0-0, sym (rw c.in_ok-mapper.ensures.ok_part at c.mapper_at.ensures)) c.priority.ensures.value c.gem_port_of.ensures
