use Rattle.std.proofs.Common.{List, subst}
use Rattle.frame_rows.specs.declared.row.Row.{Row}
use Rattle.frame_classes.specs.Told.{side_by}
use Rattle.migration_check.specs.Following.{ChangedAreWhole}
use Rattle.migration_check.proofs.Placed.{told}
use Rattle.migration_check.proofs.following.is_whole.Goals as goal

pub returns-then-are_asked_alike : goal.returns-then-are_asked_alike
returns-then-are_asked_alike c =
    let moment = c.args.moment.now in
    let e = moment.before.now.entities in
    let f = moment.here.now.entities in
    let g = moment.after.now.entities in
    let last = c.args.last.now in
    let next = c.args.next.now in
    λ was.
    told e f g moment.port (side_by last) (side_by next) c.in_ok-are_whole.are_whole (c.are_asked_alike.ensures c.if-are_asked_alike.true) c.requires.seen c.requires.mean
    (λ holds. subst (λ (rows : List Row). ChangedAreWhole e f g moment.port rows next.rows.items) c.deref.ensures.value
    (subst (λ (rows : List Row). ChangedAreWhole e f g moment.port c.deref.result.now rows) c.deref-then-are_asked_alike.ensures.value (c.in_ok-are_whole.ensures.whole holds)))
    c.in_ok-are_whole.ensures.torn was
