use Rattle.std.proofs.Common.{◌∙◌, refl}
use Rattle.frame_meaning.proofs.Numbers.{one_byte, two_bytes}
use Rattle.forward_plan.proofs.naming.Naming.of_mapper.Goals as goal

pub returns : goal.returns
returns c = c.new.ensures.value ∙ rw (one_byte c.args.mapper.now.tp_type, two_bytes c.args.mapper.now.tp_pointer c.new.ensures.fits) refl
