use Rattle.std.proofs.Common.{Some, ap}
use Rattle.migration_check.proofs.same.is_vlan_same.Goals as goal

pub returns-in-Some-Some : goal.returns-in-Some-Some
returns-in-Some-Some c = λ yes n. rw (c.in-Some-Some.is-0, c.in-Some-Some.is-1) (ap Some (c.is_vlan_same_as.ensures yes n))
