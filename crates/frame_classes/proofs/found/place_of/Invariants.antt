use Rattle.std.proofs.Common.{◌<◌, ◌≤◌, ◌-◌, ℕ, length, get_or}
use Rattle.frame_classes.specs.declared.found.Sample.{Sample}
use Rattle.frame_classes.specs.Found.{number_of}
use Rattle.frame_classes.proofs.found.place_of.Given as goal

-- the samples before `low` have smaller numbers, and those from `high` on don't
abbrev pub invariant-loop-low : goal.invariant-loop-low
invariant-loop-low l =
    record {
      low : l.low ≤ l.high;
      high : l.high ≤ length l.samples;
      before : (k : ℕ) (d : Sample) → k < l.low → number_of (get_or l.samples k d) < l.number;
      behind : (d : Sample) → l.high < length l.samples → l.number ≤ number_of (get_or l.samples l.high d);
    }

abbrev pub decreases-loop-low : goal.decreases-loop-low
decreases-loop-low l = l.high - l.low
