-- Bounded, so that a wrong body is refused at once.
use Rattle.std.proofs.Common.{rules}
use Rattle.vlan_rule.proofs.refusal.of_filters.Goals as goal

pub returns-then-have_bad_vid : goal.returns-then-have_bad_vid
returns-then-have_bad_vid c = search rules fits 30

pub returns-then-have_bad_tpid : goal.returns-then-have_bad_tpid
returns-then-have_bad_tpid c = search rules fits 30

pub returns-then-ethertype-gt5 : goal.returns-then-ethertype-gt5
returns-then-ethertype-gt5 c = search rules fits 30

pub returns-else-ethertype-gt5 : goal.returns-else-ethertype-gt5
returns-else-ethertype-gt5 c = search rules fits 30
