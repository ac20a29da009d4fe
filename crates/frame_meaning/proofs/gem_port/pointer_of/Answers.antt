use Rattle.std.proofs.Common.{arith, ◌∙◌}
use Rattle.frame_meaning.proofs.Numbers.{pointer_null, pointer_set}
use Rattle.frame_meaning.proofs.gem_port.pointer_of.Goals as goal

pub returns-in_err-pointer : goal.returns-in_err-pointer
returns-in_err-pointer c = λ n. c.from_residual.ensures ∙ pointer_null n c.args.priority c.args.mapper.now c.requires c.in_err-pointer.ensures

pub returns : goal.returns
returns c = λ n. pointer_set n c.args.priority c.in_ok-pointer.pointer c.args.mapper.now c.requires (omega arith) c.in_ok-pointer.ensures
