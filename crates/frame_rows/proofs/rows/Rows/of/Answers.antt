use Rattle.std.proofs.Common.{ap, subst, ◌∙◌}
use Rattle.std.specs.Prelude.{IfSome, Option}
use Rattle.std.specs.Option.{option_map}
use Rattle.frame_meaning.specs.Meaning.{Table, mapper_at, table_at, unmarked_at}
use Rattle.frame_rows.specs.Rows.{settings_by}
use Rattle.frame_rows.specs.Treatments.{TreatmentsFit}
use Rattle.frame_rows.proofs.Meant.{mean_along, means}
use Rattle.frame_rows.proofs.Seen.{are_seen, seen_along}
use Rattle.frame_rows.proofs.Fitting.{few_along, fit_along, marked_along}
use Rattle.frame_rows.proofs.rows.Rows.of.Goals as goal

pub returns-clause-mean : goal.returns-clause-mean
returns-clause-mean c =
    mean_along c.args.mib.now.entities c.args.port _ _ c.endings_of.ensures c.in_ok-rows.ensures.rows
    (means c.args.mib.now.entities c.args.port (λ table is.
    subst (λ (t : Option Table). IfSome t (λ table. TreatmentsFit table.entries)) is c.in_ok-rows.ensures.fits))

pub returns-clause-seen : goal.returns-clause-seen
returns-clause-seen c =
    seen_along c.args.mib.now.entities c.args.port _ _ _ (c.settings_of.ensures ∙ ap settings_by c.at.ensures) c.endings_of.ensures c.in_ok-rows.ensures.rows
    (are_seen c.args.mib.now.entities c.args.port (λ table is.
    subst (λ (t : Option Table). IfSome t (λ table. TreatmentsFit table.entries)) is c.in_ok-rows.ensures.fits))

pub returns-clause-fit : goal.returns-clause-fit
returns-clause-fit c =
    fit_along (table_at c.args.mib.now.entities c.args.port) (option_map unmarked_at (mapper_at c.args.mib.now.entities c.args.port)) _ _
    c.in_ok-rows.ensures.fits (c.settings_of.ensures ∙ ap settings_by c.at.ensures) c.in_ok-rows.ensures.rows

pub returns-clause-marked : goal.returns-clause-marked
returns-clause-marked c =
    marked_along (table_at c.args.mib.now.entities c.args.port) (option_map unmarked_at (mapper_at c.args.mib.now.entities c.args.port)) _ _
    (c.settings_of.ensures ∙ ap settings_by c.at.ensures) c.in_ok-rows.ensures.rows

pub returns-clause-few : goal.returns-clause-few
returns-clause-few c =
    few_along (table_at c.args.mib.now.entities c.args.port) (option_map unmarked_at (mapper_at c.args.mib.now.entities c.args.port)) _
    c.in_ok-rows.ensures.few c.in_ok-rows.ensures.rows
