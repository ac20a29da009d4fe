-- The law, beside the worked examples, which are checked where they are cited.
use Rattle.frame_rows.proofs.Examples.{seen, told_apart}
use Rattle.frame_rows.proofs.SeenApart.{values_tell_apart}
use Rattle.frame_rows.proofs.laws.law_of_sights.Goals as goal

pub returns : goal.returns
returns c = let first = seen in let second = told_apart in values_tell_apart
