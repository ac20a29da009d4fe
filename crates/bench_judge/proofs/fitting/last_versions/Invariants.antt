use Rattle.bench_judge.specs.Alone.{IsLate}
use Rattle.bench_judge.proofs.fitting.last_versions.Given as goal

abbrev pub invariant-loop-event : goal.invariant-loop-event
invariant-loop-event l = IsLate l.case.padded l.case.events.now l.case.requests.now l.case.frames.now l.late
