use Rattle.std.proofs.Common.{map, take}
use Rattle.bench_record.specs.Spans.{IsWithin}
use Rattle.bench_record.proofs.Ends.{time_of}
use Rattle.bench_record.proofs.spans.times_of.Given as goal

-- the ends of the times so far
abbrev pub invariant-loop-frame : goal.invariant-loop-frame
invariant-loop-frame l = IsWithin (map time_of (take l.frame-index l.frames)) l.times
