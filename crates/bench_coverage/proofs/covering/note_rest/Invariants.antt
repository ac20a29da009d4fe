use Rattle.bench_coverage.specs.Noting.{IsGoing}
use Rattle.bench_coverage.proofs.covering.note_rest.Given as goal

abbrev pub invariant-loop-place : goal.invariant-loop-place
invariant-loop-place l =
    IsGoing l.fn.passage.requests.now l.fn.passage.base l.fn.passage.least l.frames l.passage l.place l.done.items l.last
