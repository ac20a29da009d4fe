use Rattle.bench_forward.proofs.Wholes.{all_part, no_part, on_err}
use Rattle.bench_forward.proofs.forwarding.write_frame.Goals as goal

-- what isn't reached is as it was, and what came before is whole
pub returns-in_err-write_left-clause-drops_part : goal.returns-in_err-write_left-clause-drops_part
returns-in_err-write_left-clause-drops_part g c = on_err c.from_residual.result (no_part _ _)

pub returns-in_err-write_left-clause-lines_part : goal.returns-in_err-write_left-clause-lines_part
returns-in_err-write_left-clause-lines_part g c = on_err c.from_residual.result (λ table are. no_part _ _)

pub returns-in_err-write_lost-clause-packets_part : goal.returns-in_err-write_lost-clause-packets_part
returns-in_err-write_lost-clause-packets_part g c =
    rw (← c.time-time.ensures) (on_err c.from_residual-in_err-write_lost.result (all_part _ _ _ c.in_ok-write_left.ensures.ok))

pub returns-in_err-write_lost-clause-lines_part : goal.returns-in_err-write_lost-clause-lines_part
returns-in_err-write_lost-clause-lines_part g c = on_err c.from_residual-in_err-write_lost.result (λ table are. no_part _ _)
