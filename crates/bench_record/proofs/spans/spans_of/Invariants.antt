use Rattle.std.proofs.Common.{take}
use Rattle.bench_record.specs.Spans.{AreSpans}
use Rattle.bench_record.proofs.spans.spans_of.Given as goal

-- when the captures so far begin and end
abbrev pub invariant-loop-capture : goal.invariant-loop-capture
invariant-loop-capture l = AreSpans (take l.capture-index l.captures) l.spans.items
