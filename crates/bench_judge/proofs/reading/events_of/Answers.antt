use Rattle.bench_judge.proofs.reading.events_of.Goals as goal

pub returns-in-Err-clause-fault : goal.returns-in-Err-clause-fault
returns-in-Err-clause-fault g c = c.why.ensures c.args.history.now c.in-Err.ensures.fault
