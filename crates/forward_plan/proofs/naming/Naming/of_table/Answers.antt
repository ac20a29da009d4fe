use Rattle.std.proofs.Common.{◌∙◌, refl}
use Rattle.frame_meaning.proofs.Numbers.{one_byte, two_bytes}
use Rattle.forward_plan.proofs.naming.Naming.of_table.Goals as goal

pub returns : goal.returns
returns c = c.new.ensures.value ∙ rw (one_byte c.args.table.now.association, two_bytes c.args.table.now.pointer c.new.ensures.fits) refl
