use Rattle.bench_coverage.proofs.Used.{none_read, none_unread}
use Rattle.bench_coverage.proofs.uses.use_without_table.Goals as goal

pub returns-in-Ok : goal.returns-in-Ok
returns-in-Ok c = none_read c.args.bytes.now c.in-Ok.field-0 c.in-Ok.ensures.value

pub returns-in-Err : goal.returns-in-Err
returns-in-Err c = none_unread c.args.bytes.now c.in-Err.field-0 c.in-Err.ensures.value
