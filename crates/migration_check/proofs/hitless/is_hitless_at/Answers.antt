use Rattle.std.proofs.Common.{◌≡◌, ◌==◌, length}
use Rattle.migration_check.proofs.Looking.{hitless_at}
use Rattle.migration_check.proofs.hitless.is_hitless_at.Goals as goal

pub returns : goal.returns
returns c =
    let none : c.is_empty.result ≡ (length c.in_ok-tears.tears.items == 0) = rw (← c.as_slice-found.ensures.value) c.is_empty.ensures in
    hitless_at c.args.before.now.entities c.args.here.now.entities c.args.after.now.entities c.args.port c.in_ok-tears.tears.items c.is_empty.result none c.in_ok-tears.ensures
