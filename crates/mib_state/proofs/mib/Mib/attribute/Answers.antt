-- Bounded where few lemmas do, so that a wrong body is refused at once.
use Rattle.std.proofs.Common.{rules}
use Rattle.mib_state.proofs.mib.Mib.attribute.Goals as goal

pub returns-in-OnuData-clause-value : goal.returns-in-OnuData-clause-value
returns-in-OnuData-clause-value c = search rules fits 30

pub returns-in-Mapper-clause-value : goal.returns-in-Mapper-clause-value
returns-in-Mapper-clause-value c = search rules

pub returns-in-Mapper-clause-width : goal.returns-in-Mapper-clause-width
returns-in-Mapper-clause-width c = search rules fits 30

pub returns-in-Vlan-clause-value : goal.returns-in-Vlan-clause-value
returns-in-Vlan-clause-value c = search rules

pub returns-in-Vlan-clause-width : goal.returns-in-Vlan-clause-width
returns-in-Vlan-clause-width c = search rules fits 30

pub returns-in-Interwork-clause-value : goal.returns-in-Interwork-clause-value
returns-in-Interwork-clause-value c = search rules

pub returns-in-Interwork-clause-width : goal.returns-in-Interwork-clause-width
returns-in-Interwork-clause-width c = search rules fits 30

pub returns-in-GemPort-clause-value : goal.returns-in-GemPort-clause-value
returns-in-GemPort-clause-value c = search rules

pub returns-in-GemPort-clause-width : goal.returns-in-GemPort-clause-width
returns-in-GemPort-clause-width c = search rules fits 30
