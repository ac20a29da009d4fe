use Rattle.std.proofs.Common.{◌≡◌, ◌≤◌, ◌+◌, take}
use Rattle.mib_state.specs.After.{after}
use Rattle.frame_meaning.specs.Meaning.{meaning}
use Rattle.bench_judge.specs.Judged.{AreRunsUpTo}
use Rattle.bench_judge.proofs.runs.runs.Given as goal

abbrev pub invariant-loop-version : goal.invariant-loop-version
invariant-loop-version l = record {
  live : l.live ≡ after (take (l.base + l.version) l.requests);
  from_on : l.from ≤ l.version;
  runs : AreRunsUpTo (λ v. meaning (after (take (l.base + v) l.requests)) l.port l.sent) l.sent l.from (l.version + 1) l.runs.items;
}
