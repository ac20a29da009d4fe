use Rattle.std.specs.Prelude.{map}
use Rattle.frame_classes.specs.Listed.{of_two, tell}
use Rattle.frame_classes.specs.Splitting.{AreExamplesOf}
use Rattle.frame_classes.proofs.listing.differences_of.Given as goal

-- those of the samples that were looked at
abbrev pub invariant-loop-place : goal.invariant-loop-place
invariant-loop-place l = AreExamplesOf l.least l.place l.found.samples.items (tell of_two (map (λ e. ((e.before, e.after), e.frame.items)) l.differences.items))
