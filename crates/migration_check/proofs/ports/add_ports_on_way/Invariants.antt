use Rattle.std.proofs.Common.{◌≡◌, ◌≤◌, ℕ}
use Rattle.std.specs.Prelude.{Contains}
use Rattle.explain_findings.specs.Reach.{ports}
use Rattle.migration_check.specs.Migration.{version}
use Rattle.migration_check.proofs.ports.add_ports_on_way.Given as goal

-- what is here, and that none is left out that any configuration so far names
abbrev pub invariant-loop-each : goal.invariant-loop-each
invariant-loop-each l = record {
  here : l.here.entities ≡ version l.fn.here.entities l.requests l.each-index;
  named : (count port : ℕ) → count ≤ l.each-index → Contains (ports (version l.fn.here.entities l.requests count)) port → Contains l.ports.items port;
}
