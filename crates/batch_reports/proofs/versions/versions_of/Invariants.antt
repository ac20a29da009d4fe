use Rattle.std.proofs.Common.{◌≡◌, ◌≤◌, length, map, take, vec_capacity}
use Rattle.std.specs.Borrow.{Bor}
use Rattle.batch_reports.specs.declared.batch.Tally.{Tally}
use Rattle.batch_reports.proofs.versions.versions_of.Given as goal

abbrev pub invariant-loop-tally : goal.invariant-loop-tally
invariant-loop-tally l = record {
  so_far : l.versions.items ≡ map (λ (t : Bor Tally). t.now.version) (take l.tally-index l.tallies);
  room : length l.tallies ≤ vec_capacity l.versions;
}
