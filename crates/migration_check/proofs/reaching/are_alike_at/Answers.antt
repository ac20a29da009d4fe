use Rattle.std.proofs.Common.{◌≡◌, ◌==◌, length}
use Rattle.migration_check.proofs.Looking.{seen_alike_at}
use Rattle.migration_check.proofs.reaching.are_alike_at.Goals as goal

pub returns : goal.returns
returns c =
    let none : c.is_empty.result ≡ (length c.in_ok-apart.apart.items == 0) = rw (← c.as_slice-found.ensures.value) c.is_empty.ensures in
    seen_alike_at c.args.one.now.entities c.args.other.now.entities c.args.port c.in_ok-apart.apart.items c.is_empty.result none c.in_ok-apart.ensures
