use Rattle.std.proofs.Common.{rules, ◌≡◌}
use Rattle.frame_rows.specs.declared.row.Ends.TheVariants as ends
use Rattle.frame_rows.specs.declared.source.Source.TheVariants.{Dscp}
use Rattle.frame_classes.proofs.OnlyEndings.{by_dscp}
use Rattle.frame_classes.proofs.alike.only_ending.Goals as goal

pub returns-in-true : goal.returns-in-true
returns-in-true c =
    let source = c.in-ByPriority-Dscp.source in
    let is : c.args.ends.now ≡ ends.ByPriority (Dscp source) = search rules in
    by_dscp c.args.endings.now c.args.ends.now source c.ending_of_all-in-true.result is c.in-true.is c.ending_of_all-in-true.ensures
