use Rattle.migration_check.proofs.Ways.{lead}
use Rattle.migration_check.proofs.migration.do_lead.Goals as goal

pub returns-clause-lead : goal.returns-clause-lead
returns-clause-lead c =
    let carried = c.carry_out_all-are_accepted in
    λ fine. lead c.args.aim c.args.end.now.entities carried.new.mib.entities c.args.requests.now c.args.goal.now.entities carried.result
    carried.ensures.accepted c.if-not-are_accepted.false carried.ensures.after (c.in_ok-is_reached.ensures fine)
