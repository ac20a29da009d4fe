-- Bounded, so that a wrong body is refused at once.
use Rattle.std.proofs.Common.{rules}
use Rattle.mib_state.proofs.mib.Mib.vlan_at.Goals as goal

pub returns-clause-shown : goal.returns-clause-shown
returns-clause-shown c = search rules fits 30

pub returns-clause-found : goal.returns-clause-found
returns-clause-found c = search rules fits 30

pub returns-clause-room : goal.returns-clause-room
returns-clause-room c = assumption
