use Rattle.std.proofs.Common.{◌≡◌, List, true}
use Rattle.std.specs.List.{list_all}
use Rattle.bench_record.specs.Index.{HasNumbers}
use Rattle.bench_record.specs.Spans.{AreSpans}
use Rattle.bench_record.specs.declared.captured.Capture.{Capture}
use Rattle.bench_record.proofs.Recordings.{long_at}
use Rattle.bench_record.proofs.Walks.{IsWalked}
use Rattle.bench_record.proofs.recording.walk_over.Given as goal

-- the frames so far were seen, and none of the others is earlier
abbrev pub invariant-loop-at : goal.invariant-loop-at
invariant-loop-at l = record {
  walked : (captures : List Capture) → AreSpans captures l.given.spans.now → IsWalked l.given.settings captures l.frames l.at-index l.walk;
  numbers : HasNumbers l.walk;
  long : list_all (long_at l.given.settings l.walk.shortest) l.frames ≡ true;
}
