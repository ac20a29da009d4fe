use Rattle.migration_check.proofs.Ways.{migration}
use Rattle.migration_check.proofs.migration.is_way.Goals as goal

pub returns : goal.returns
returns c =
    λ fine. migration c.args.wanted.now.aim c.args.before.now.entities c.args.end.now.entities c.do_lead.new.end.entities
    c.args.requests.now c.args.wanted.now.goal.now.entities c.in_ok-are_hitless.are_hitless c.requires.end c.in_ok-do_lead.ensures.after
    (c.in_ok-do_lead.ensures.lead c.if-not-do_lead.false) fine c.in_ok-are_hitless.ensures
