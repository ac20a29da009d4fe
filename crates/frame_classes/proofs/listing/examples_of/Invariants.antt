use Rattle.std.specs.Prelude.{map}
use Rattle.frame_classes.specs.Listed.{of_one, tell}
use Rattle.frame_classes.specs.Splitting.{AreExamplesOf}
use Rattle.frame_classes.proofs.listing.examples_of.Given as goal

-- those of the samples that were looked at
abbrev pub invariant-loop-place : goal.invariant-loop-place
invariant-loop-place l = AreExamplesOf l.least l.place l.found.samples.items (tell of_one (map (λ e. (e.class, e.frame.items)) l.examples.items))
