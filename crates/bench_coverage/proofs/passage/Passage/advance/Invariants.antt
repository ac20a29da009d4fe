use Rattle.std.proofs.Common.{◌≡◌, ◌≤◌, ◌-◌}
use Rattle.bench_coverage.specs.Passage.{GoesOn, IsPassage}
use Rattle.bench_coverage.proofs.passage.Passage.advance.Given as goal

abbrev pub invariant-each_version : goal.invariant-each_version
invariant-each_version l = record {
  passes : IsPassage l.self;
  within : l.self.version ≤ l.version;
  port : l.self.port ≡ l.fn.self.port;
  on : GoesOn l.fn.self l.self;
}

abbrev pub decreases-each_version : goal.decreases-each_version
decreases-each_version l = l.version - l.self.version
