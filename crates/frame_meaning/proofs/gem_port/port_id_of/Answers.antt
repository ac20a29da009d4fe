use Rattle.std.proofs.Common.{arith}
use Rattle.frame_meaning.proofs.GemPorts.{id_upstream}
use Rattle.frame_meaning.proofs.gem_port.port_id_of.Goals as goal

pub returns : goal.returns
returns c = λ n. rw (c.ok_or.ensures.value, c.then_some-port_id.ensures) (id_upstream n c.args.gem.now _ (omega arith) (c.carries_upstream.ensures n))
