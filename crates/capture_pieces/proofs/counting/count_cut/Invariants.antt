-- What is counted and what is left to count are all.
use Rattle.std.proofs.Common.{◌≡◌, ◌<◌, ◌+◌, ◌^◌, length}
use Rattle.capture_pieces.specs.CutFrames.{all_cut_in, counted}
use Rattle.capture_pieces.proofs.counting.count_cut.Given as goal

abbrev pub invariant-loop-order : goal.invariant-loop-order
invariant-loop-order l = record {
  all : counted (l.cut + all_cut_in l.order l.records) ≡ counted (all_cut_in l.order l.fn.records);
  few : l.cut < 2 ^ 64;
}

abbrev pub decreases-loop-order : goal.decreases-loop-order
decreases-loop-order l = length l.records
