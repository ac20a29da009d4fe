-- What stands behind the tags is taken to its end.
use Rattle.std.proofs.Common.{refl}
use Rattle.std.proofs.lemmas.List.{take_rest}
use Rattle.frame_meaning.proofs.out_frame.OutFrame.rest.Goals as goal

pub returns : goal.returns
returns c = rw (← c.self.view_is, take_rest) refl
