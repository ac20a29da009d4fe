use Rattle.std.proofs.Common.{◌≡◌, ◌++◌, List, drop, map}
use Rattle.bench_history.specs.Doubts.{IsDoubted}
use Rattle.bench_record.specs.Index.{kept_shown}
use Rattle.bench_record.specs.Matching.{Frames}
use Rattle.bench_record.specs.Recorded.{losses_from}
use Rattle.bench_record.specs.Spans.{AreSpans}
use Rattle.bench_record.specs.Text.{timed_shown}
use Rattle.bench_record.specs.declared.captured.Capture.{Capture}
use Rattle.bench_record.proofs.walk.Walk.lose_all.Given as goal

-- the losses so far and those of the frames that are left
abbrev pub invariant-loop-number : goal.invariant-loop-number
invariant-loop-number l = record {
  sent : l.self.sent ≡ l.fn.self.sent;
  doubts : l.self.doubts ≡ l.fn.self.doubts;
  hidden : l.self.hidden ≡ l.fn.self.hidden;
  passed : l.self.passed ≡ l.fn.self.passed;
  events : (captures : List Capture) (frames : Frames) → AreSpans captures l.spans → map kept_shown l.fn.self.sent.items ≡ frames.sent
      → IsDoubted frames.named l.fn.self.doubts
      → map timed_shown l.self.events.items ++ losses_from l.lost captures l.fn.self.hidden.items frames.named l.number (drop l.number frames.sent)
      ≡ map timed_shown l.fn.self.events.items ++ losses_from l.lost captures l.fn.self.hidden.items frames.named 0 frames.sent;
}
