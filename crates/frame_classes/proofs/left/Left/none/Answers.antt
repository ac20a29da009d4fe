use Rattle.frame_classes.proofs.WordPlaces.{none_in_zeros}
use Rattle.frame_classes.proofs.left.Left.none.Goals as goal

pub returns : goal.returns
returns c = none_in_zeros 448 7
