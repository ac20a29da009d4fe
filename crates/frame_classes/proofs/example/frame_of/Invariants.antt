use Rattle.std.proofs.Common.{◌≡◌, ◌++◌}
use Rattle.std.specs.Prelude.{replicate}
use Rattle.frame_classes.proofs.example.frame_of.Given as goal

-- the bytes behind the first are 0
abbrev pub invariant-loop-more : goal.invariant-loop-more
invariant-loop-more l = l.frame.items ≡ l.initial.frame.items ++ replicate l._more 0
