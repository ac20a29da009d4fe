use Rattle.std.specs.Prelude.{map}
use Rattle.frame_classes.specs.Listed.{of_three, tell}
use Rattle.frame_classes.specs.Splitting.{AreExamplesOf}
use Rattle.frame_classes.proofs.listing.tears_of.Given as goal

-- those of the samples that were looked at
abbrev pub invariant-loop-place : goal.invariant-loop-place
invariant-loop-place l = AreExamplesOf l.least l.place l.found.samples.items (tell of_three (map (λ e. ((e.before, e.here, e.after), e.frame.items)) l.tears.items))
