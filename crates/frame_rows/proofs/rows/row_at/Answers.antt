use Rattle.std.proofs.Common.{◌≡◌, ap, subst, true, ◌∙◌}
use Rattle.std.specs.Option.{option_map}
use Rattle.pmapper.specs.Mapper.{unmarked_of}
use Rattle.vlan_rule.specs.declared.treatment.Treatment.{Treatment}
use Rattle.vlan_rule.specs.Choice.{entry_at}
use Rattle.vlan_rule.specs.Meaning.{treatment_fits}
use Rattle.frame_meaning.specs.Meaning.{Table}
use Rattle.frame_rows.specs.Rows.{entry_row}
use Rattle.frame_rows.specs.Treatments.{Fits}
use Rattle.frame_rows.proofs.rows.row_at.Goals as goal

pub returns-clause-row : goal.returns-clause-row
returns-clause-row c =
    let entries = c.table.inside.rules.now in
    c.entry_row.ensures (entry_at entries c.args.place) entries c.in-Some.ensures.1
    ∙ ap
    (λ (t : Table). entry_row t (option_map (λ m. unmarked_of m.now) c.args.mapper) c.args.number (entry_at t.entries c.args.place))
    c.table.view_is

pub returns-clause-fits : goal.returns-clause-fits
returns-clause-fits c =
    let inside : Fits c.table.inside.rules.now c.args.place =
    subst (λ (t : Treatment). treatment_fits t ≡ true) c.in-Some.ensures.1.treatment c.in-Some.rule.now.fits in
    subst (λ (t : Table). Fits t.entries c.args.place) c.table.view_is inside
