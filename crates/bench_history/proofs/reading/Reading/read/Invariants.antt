use Rattle.std.proofs.Common.{◌≡◌, length}
use Rattle.script_lines.specs.Text.{lines_of}
use Rattle.bench_history.specs.History.{events_from}
use Rattle.bench_history.specs.Seen.{IsSeen}
use Rattle.bench_history.proofs.reading.Reading.read.Given as goal

-- the lines read give the events so far
abbrev pub invariant-loop-rest : goal.invariant-loop-rest
invariant-loop-rest g l = record {
  so_far : events_from l.fn.self.events.items (lines_of l.text) ≡ events_from l.self.events.items (lines_of l.rest);
  kept : IsSeen l.self.events.items l.self.seen;
}

abbrev pub decreases-loop-rest : goal.decreases-loop-rest
decreases-loop-rest g l = length l.rest
