use Rattle.std.proofs.Common.{subst, sym}
use Rattle.std.specs.Prelude.{All}
use Rattle.migration_check.specs.Migration.{IsSeenAlike, IsSeenAlikeAt}
use Rattle.migration_check.specs.Ports.{AreNamedBy}
use Rattle.migration_check.proofs.Told.{otherwise}
use Rattle.migration_check.proofs.Elsewhere.{seen_alike, seen_alike_at_all}
use Rattle.migration_check.proofs.reaching.are_alike.Goals as goal

pub returns : goal.returns
returns c =
    let e = c.args.one.now.entities in
    let f = c.args.other.now.entities in
    let list = c.deref.result.now in
    let named : AreNamedBy e f list = subst (AreNamedBy e f) (sym c.deref.ensures.value) c.in_ok-ports.ensures in
    otherwise c.in_ok-are_alike.are_alike (All (IsSeenAlikeAt e f) list) (IsSeenAlike e f) c.in_ok-are_alike.ensures
    (seen_alike c.law_of_named_ports.ensures e f list named) (seen_alike_at_all e f list)
