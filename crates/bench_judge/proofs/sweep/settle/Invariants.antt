use Rattle.std.proofs.Common.{◌≡◌, ◌-◌, length, take}
use Rattle.std.specs.Prelude.{slice_index}
use Rattle.mib_state.specs.After.{after}
use Rattle.bench_judge.specs.Sweep.{IsSoFar, IsWhole}
use Rattle.bench_judge.proofs.sweep.settle.Given as goal

abbrev pub invariant-each_head : goal.invariant-each_head
invariant-each_head l = record {
  slots : length l.sweep.waiting.items ≡ length l.fn.sweep.waiting.items;
  whole : IsWhole l.case.frames.now l.sweep;
  so_far : l.live ≡ after (take l.version l.case.requests.now)
      → IsSoFar l.case.padded l.case.unordered l.case.events.now l.case.requests.now l.case.frames.now l.version l.slot l.fn.sweep
      → IsSoFar l.case.padded l.case.unordered l.case.events.now l.case.requests.now l.case.frames.now l.version l.slot l.sweep;
}

abbrev pub decreases-each_head : goal.decreases-each_head
decreases-each_head l = length l.case.frames.now - slice_index l.sweep.waiting.items l.slot
