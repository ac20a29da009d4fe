use Rattle.frame_classes.specs.Meeting.{meets_use}
use Rattle.frame_classes.proofs.MetRows.{kept_few}
use Rattle.frame_classes.proofs.meeting.met.Goals as goal

pub returns-clause-few : goal.returns-clause-few
returns-clause-few c =
    kept_few (meets_use c.args.rows.now c.args.used) c.args.side.now.rows.items c.loop-row.kept.items c.loop-row.row-index c.loop-row.invariant
