use Rattle.bench_judge.proofs.InOrder.{history_is_sound}
use Rattle.bench_judge.proofs.deviations.judge_all.Goals as goal

pub find_all-requires : goal.find_all-requires
find_all-requires g c = history_is_sound c.args.history.now c.in_ok-events.events.items c.in_ok-events.ensures.events
