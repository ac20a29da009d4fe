use Rattle.std.proofs.Common.{◌≡◌, ◌++◌, ◌≤◌, drop, length}
use Rattle.explain_findings.specs.Graph.{priorities_from}
use Rattle.explain_findings.proofs.edge.priorities_of.Given as goal

abbrev pub invariant-each : goal.invariant-each
invariant-each l = record {
  rest : l.list.items ++ priorities_from l.pointer l.priority (drop l.priority l.pointers) ≡ priorities_from l.pointer 0 l.pointers;
  few : length l.list.items ≤ l.priority;
}
