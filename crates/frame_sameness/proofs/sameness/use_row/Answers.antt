use Rattle.frame_sameness.proofs.UseRows.{fits_long}
use Rattle.std.proofs.Common.{sym, ◌∙◌}
use Rattle.frame_sameness.proofs.sameness.use_row.Goals as goal

pub returns-clause-fits : goal.returns-clause-fits
returns-clause-fits c = λ input fits. fits_long input c.args.row.now c.retag_of.result (sym c.is_long.ensures ∙ c.if-not-is_long.false) c.retag_of.ensures.fits fits
