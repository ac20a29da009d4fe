use Rattle.std.proofs.Common.{◌≡◌, take, true}
use Rattle.std.specs.List.{list_all}
use Rattle.bench_record.proofs.Recordings.{long_at}
use Rattle.bench_record.proofs.recording.shortest_front.Given as goal

-- no front so far has fewer
abbrev pub invariant-loop-at : goal.invariant-loop-at
invariant-loop-at l = list_all (long_at l.settings l.shortest) (take l.at-index l.frames) ≡ true
