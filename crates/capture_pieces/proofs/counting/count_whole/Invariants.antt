-- What is counted and what is left to count are all.
use Rattle.std.proofs.Common.{◌≡◌, ◌<◌, ◌+◌, ◌^◌, length}
use Rattle.capture_pieces.specs.CutFrames.{all_cut_in, counted}
use Rattle.capture_pieces.proofs.counting.count_whole.Given as goal

abbrev pub invariant-loop-rest : goal.invariant-loop-rest
invariant-loop-rest l = record {
  all : counted (l.cut + all_cut_in l.order l.rest) ≡ counted (all_cut_in l.order l.fn.bytes);
  few : l.cut < 2 ^ 64;
}

abbrev pub decreases-loop-rest : goal.decreases-loop-rest
decreases-loop-rest l = length l.rest
