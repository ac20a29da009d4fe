use Rattle.std.proofs.Common.{subst}
use Rattle.arrayvec.proofs.IterLemmas.{rest_runs}
use Rattle.frame_classes.specs.Words.{AreInOrder}
use Rattle.frame_classes.proofs.Filtered.{all_from_0}
use Rattle.frame_classes.proofs.WordPlaces.{places_in_order}
use Rattle.frame_classes.proofs.left.Left.iter.Goals as goal

pub returns-clause-places : goal.returns-clause-places
returns-clause-places c = all_from_0 c.args.self.now

pub returns-clause-order : goal.returns-clause-order
returns-clause-order c = subst (AreInOrder 0 448) c.self.view_is (places_in_order 448 c.self.inside.words)

pub returns-clause-runs : goal.returns-clause-runs
returns-clause-runs c = rest_runs
