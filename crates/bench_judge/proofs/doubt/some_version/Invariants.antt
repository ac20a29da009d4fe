use Rattle.std.proofs.Common.{◌≡◌, take}
use Rattle.mib_state.specs.After.{after}
use Rattle.bench_judge.proofs.Versions.{NoneUpTo}
use Rattle.bench_judge.proofs.doubt.some_version.Given as goal

abbrev pub invariant-loop-before : goal.invariant-loop-before
invariant-loop-before l = record {
  live : l.live ≡ after (take l.before l.case.requests.now);
  none : NoneUpTo l.case.padded l.case.events.now l.case.requests.now l.case.frames.now l.doubtful.gem l.doubtful.extent l.doubtful.among.now l.before;
}
