use Rattle.std.proofs.Common.{◌∙◌, ap, sym}
use Rattle.std.specs.Prelude.{is_ok}
use Rattle.mib_state.proofs.Accepted.{accepted_by_ok, accepted_by_err}
use Rattle.mib_state.proofs.mib.Mib.accepts.Goals as goal

pub returns-in-Ok : goal.returns-in-Ok
returns-in-Ok c = c.may_change.ensures ∙ accepted_by_ok c.args.self.now c.args.request.now (ap is_ok (sym c.in-Ok.ensures))

pub returns-in-Err : goal.returns-in-Err
returns-in-Err c = accepted_by_err c.args.self.now c.args.request.now (ap is_ok (sym c.in-Err.ensures))
