-- What was taken of the format is what was taken of its records or blocks.
use Rattle.bench_capture.proofs.Taking.{classic_faulty, classic_taken}
use Rattle.bench_capture.proofs.format.Format.take.Goals as goal

pub returns-in-Ok-clause-takes : goal.returns-in-Ok-clause-takes
returns-in-Ok-clause-takes c = rw c.in-Classic.is (classic_taken c.in-Classic.records c.take.new.self c.args.bytes.now c.in-Ok.taken c.in-Ok.ensures)

pub returns-in-Err-clause-takes : goal.returns-in-Err-clause-takes
returns-in-Err-clause-takes c = rw c.in-Classic.is (classic_faulty c.in-Classic.records c.take.new.self c.args.bytes.now c.in-Err.fault c.requires.some c.in-Err.ensures)
