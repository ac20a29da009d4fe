use Rattle.std.proofs.Common.{Bor, map, ap, sym, ◌∙◌}
use Rattle.batch_reports.specs.declared.batch.Tally.{Tally}
use Rattle.batch_reports.proofs.Lent.{misplaced_lent, versions_of_lent, why_lent}
use Rattle.batch_reports.proofs.versions.gather_versions.Goals as goal

pub returns-in-Err-clause-fault : goal.returns-in-Err-clause-fault
returns-in-Err-clause-fault c = why_lent c.args.count c.in-Ok.lent.items c.args.tallies.now c.in-Err.fault c.in-Ok.ensures c.in-Err.ensures.fault

pub returns-clause-gathered : goal.returns-clause-gathered
returns-clause-gathered c =
    let o = c.in-Ok-in_order_with_counts.ensures in
    let ordered = c.in-Ok-in_order_with_counts.gathered in
    versions_of_lent c.args.count c.in-Ok.lent.items ordered.0.items c.args.tallies.now c.in-Ok-versions_of.versions.items ordered.1 c.in-Ok.ensures o.gathered
    (c.in-Ok-versions_of.ensures ∙ ap (map (λ (t : Bor Tally). t.now.version)) c.as_slice.ensures.value) o.counts

pub returns-clause-fits : goal.returns-clause-fits
returns-clause-fits c = sym (misplaced_lent c.args.count c.in-Ok.lent.items c.args.tallies.now c.in-Ok.ensures) ∙ c.in-Ok-in_order_with_counts.ensures.fits
