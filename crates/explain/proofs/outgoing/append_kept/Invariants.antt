use Rattle.std.proofs.Common.{◌≡◌, ◌+◌, ◌≤◌, ◌++◌, length, drop}
use Rattle.explain.specs.Outgoing.{kept_after, kept_from}
use Rattle.explain.proofs.outgoing.append_kept.Given as goal

abbrev pub invariant-loop-place : goal.invariant-loop-place
invariant-loop-place l = record {
  kept : l.tags.items ++ kept_from l.place (drop l.place l.received) ≡ l.fn.tags.items ++ kept_after l.remove l.received;
  room : length l.tags.items ≤ l.place + 2;
}
