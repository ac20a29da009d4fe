use Rattle.std.proofs.Common.{◌≡◌, take}
use Rattle.mib_state.specs.After.{after_from}
use Rattle.migration_check.specs.Migration.{all_accepted}
use Rattle.migration_check.proofs.accepting.carry_out_all.Given as goal

-- the requests that were carried out
abbrev pub invariant-loop-each : goal.invariant-loop-each
invariant-loop-each l = record {
  accepted : l.accepted ≡ all_accepted l.fn.mib.entities (take l.each-index l.requests);
  after : l.mib.entities ≡ after_from l.fn.mib.entities (take l.each-index l.requests);
}
