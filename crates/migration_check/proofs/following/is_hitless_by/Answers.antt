use Rattle.std.proofs.Common.{◌≡◌, ◌==◌, length}
use Rattle.migration_check.proofs.Looking.{hitless_by}
use Rattle.migration_check.proofs.following.is_hitless_by.Goals as goal

pub returns : goal.returns
returns c =
    let moment = c.args.moment.now in
    let none : c.is_empty.result ≡ (length c.in_ok-tears.tears.items == 0) = rw (← c.as_slice-found.ensures.value) c.is_empty.ensures in
    hitless_by moment.before.now.entities moment.here.now.entities moment.after.now.entities moment.port c.args.used c.in_ok-tears.tears.items
    c.is_empty.result none c.in_ok-tears.ensures
