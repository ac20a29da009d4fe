use Rattle.std.proofs.Common.{◌<◌, ◌≤◌, ◌-◌, ℕ, length, get_or}
use Rattle.frame_rows.specs.Class.{class_number}
use Rattle.frame_classes.specs.declared.example.ClassExample.{ClassExample}
use Rattle.bench_coverage.proofs.marking.place_of.Given as goal

-- the classes before `low` have smaller numbers, and those from `high` on don't
abbrev pub invariant-loop-low : goal.invariant-loop-low
invariant-loop-low l =
    record {
      low : l.low ≤ l.high;
      high : l.high ≤ length l.classes;
      before : (k : ℕ) (d : ClassExample) → k < l.low → class_number (get_or l.classes k d).class < l.number;
      behind : (d : ClassExample) → l.high < length l.classes → l.number ≤ class_number (get_or l.classes l.high d).class;
    }

abbrev pub decreases-loop-low : goal.decreases-loop-low
decreases-loop-low l = l.high - l.low
