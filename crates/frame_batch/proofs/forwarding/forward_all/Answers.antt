use Rattle.frame_batch.proofs.forwarding.forward_all.Goals as goal

pub returns-in-Ok-clause-verdicts : goal.returns-in-Ok-clause-verdicts
returns-in-Ok-clause-verdicts g c = rw c.live.ensures at c.in-Ok.ensures
