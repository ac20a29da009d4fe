use Rattle.std.proofs.Common.{◌≡◌, ◌≤◌, take}
use Rattle.std.specs.List.{count_by}
use Rattle.bench_history.specs.History.{are_among}
use Rattle.bench_history.specs.declared.doubts.Doubt.{Doubt}
use Rattle.bench_history.proofs.doubts.count_among.Given as goal

abbrev pub invariant-loop-doubt : goal.invariant-loop-doubt
invariant-loop-doubt l = record {
  count : l.count ≡ count_by (λ (doubt : Doubt). are_among l.frames doubt.frames.items) (take l.doubt-index l.doubts);
  few : l.count ≤ l.doubt-index;
}
