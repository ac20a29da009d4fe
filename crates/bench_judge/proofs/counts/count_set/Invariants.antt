use Rattle.std.proofs.Common.{◌≡◌, ◌≤◌, Bool, take}
use Rattle.std.specs.List.{count_by}
use Rattle.bench_judge.proofs.counts.count_set.Given as goal

abbrev pub invariant-loop-mark : goal.invariant-loop-mark
invariant-loop-mark l = record {
  count : l.count ≡ count_by (λ (mark : Bool). mark) (take l.mark-index l.marks);
  few : l.count ≤ l.mark-index;
}
