use Rattle.std.proofs.Common.{◌<◌, ◌≤◌, ◌-◌, ℕ}
use Rattle.bench_judge.specs.Frames.{Fits}
use Rattle.bench_judge.proofs.halving.greatest_version.Given as goal

abbrev pub invariant-loop-high : goal.invariant-loop-high
invariant-loop-high l = record {
  apart : l.low < l.high;
  from_on : l.some ≤ l.low;
  low : (versions : ℕ → ℕ) × Fits l.case.padded l.case.unordered l.case.events.now l.case.requests.now l.case.frames.now versions × (l.low ≤ versions l.number);
  high : (versions : ℕ → ℕ) → Fits l.case.padded l.case.unordered l.case.events.now l.case.requests.now l.case.frames.now versions → versions l.number < l.high;
}

abbrev pub decreases-loop-high : goal.decreases-loop-high
decreases-loop-high l = l.high - l.low
