use Rattle.bench_judge.proofs.WasJudged.{AreNoDoubts}
use Rattle.bench_judge.proofs.evidence.has_known_doubt.Given as goal

abbrev pub invariant-loop-event : goal.invariant-loop-event
invariant-loop-event l = AreNoDoubts l.events l.event-index
