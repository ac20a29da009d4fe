use Rattle.std.proofs.Common.{◌≡◌, None, ap, sym, ◌∙◌}
use Rattle.frame_meaning.specs.Meaning.{table_at}
use Rattle.explain_findings.specs.Drops.{port_drops, table_reason, uncarried}
use Rattle.explain_findings.proofs.drops.port_drops.Goals as goal

pub returns-in-None-Some : goal.returns-in-None-Some
unfolding port_drops
returns-in-None-Some c =
    let there = c.in-None-Some.ensures' in
    let none : table_reason (table_at c.args.mib.now.entities c.args.port) ≡ None = ap table_reason (sym c.at.ensures) ∙ sym c.table_reason.ensures ∙ c.in-None-Some.is-0 in
    rw (none, sym there) (c.uncarried.ensures ∙ ap (uncarried c.args.port) (c.routes.ensures c.in-None-Some.field-0-0-1))
