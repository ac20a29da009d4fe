use Rattle.std.proofs.Common.{sym, subst}
use Rattle.bench_judge.specs.Walk.{AreSound}
use Rattle.bench_judge.proofs.InOrder.{history_is_sound}
use Rattle.bench_judge.proofs.following.follow_pieces.Goals as goal

pub follow_upon-requires : goal.follow_upon-requires
follow_upon-requires g c =
    subst AreSound (sym c.deref.ensures.value) (history_is_sound c.args.history.now c.in_ok-events.events.items c.in_ok-events.ensures.events)
