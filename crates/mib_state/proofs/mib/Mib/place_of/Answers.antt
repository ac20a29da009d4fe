-- Bounded, so that a wrong body is refused at once.
use Rattle.std.proofs.Common.{rules}
use Rattle.mib_state.proofs.mib.Mib.place_of.Goals as goal

pub returns-in-Vlan-clause-place : goal.returns-in-Vlan-clause-place
returns-in-Vlan-clause-place c = search rules fits 30

pub returns-in-Vlan-clause-instance : goal.returns-in-Vlan-clause-instance
returns-in-Vlan-clause-instance c = search rules fits 30

pub returns-in-Vlan-clause-held : goal.returns-in-Vlan-clause-held
returns-in-Vlan-clause-held c = search rules fits 30

pub returns-in-Vlan-clause-room : goal.returns-in-Vlan-clause-room
returns-in-Vlan-clause-room c = search rules fits 30
