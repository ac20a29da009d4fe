-- A file may end between two records.
use Rattle.bench_capture.proofs.Wholes.{classic_none}
use Rattle.bench_capture.proofs.format.Format.fault_at_end.Goals as goal

pub returns-in-Classic : goal.returns-in-Classic
returns-in-Classic c = rw c.in-Classic.is (classic_none c.in-Classic.field-0)
