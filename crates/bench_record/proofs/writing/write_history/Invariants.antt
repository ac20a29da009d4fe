use Rattle.bench_record.specs.Text.{names_of}
use Rattle.bench_record.specs.declared.event.TimedEvent.{TimedEvent}
use Rattle.bench_record.proofs.Parts.{IsTold, lines_at}
use Rattle.bench_record.proofs.writing.write_history.Given as goal

-- the lines of the events that are left complete what is written
abbrev pub invariant-loop-timed : goal.invariant-loop-timed
invariant-loop-timed g l =
    IsTold TimedEvent (lines_at (names_of l.names)) (g.W.Write.contents l.fn.writer) (g.W.Write.contents l.writer) l.timed-index l.events
