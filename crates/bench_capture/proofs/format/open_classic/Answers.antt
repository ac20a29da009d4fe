-- The header is the beginning of a file in the classic format.
use Rattle.std.proofs.Common.{arith, sym}
use Rattle.capture.proofs.Captures.{header_long}
use Rattle.bench_capture.proofs.Taking.{classic_not_opened, classic_opened}
use Rattle.bench_capture.proofs.format.open_classic.Goals as goal

pub returns-in-Ok-clause-opens : goal.returns-in-Ok-clause-opens
returns-in-Ok-clause-opens c =
    rw c.has_nanoseconds.ensures
    (header_long c.args.file.now c.in-Ok.order (sym c.in-Ok.ensures), omega arith, classic_opened c.args.file.now c.in-Ok.order c.requires (sym c.in-Ok.ensures))

pub returns-in-Err-clause-opens : goal.returns-in-Err-clause-opens
returns-in-Err-clause-opens c = rw c.from.ensures (classic_not_opened c.args.file.now c.in-Err.fault c.requires (sym c.in-Err.ensures))
