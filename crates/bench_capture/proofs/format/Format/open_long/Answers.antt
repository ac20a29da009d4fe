-- A first block that isn't held is passed over.
use Rattle.std.proofs.Common.{sym}
use Rattle.bench_capture.proofs.Taking.{first_held, first_opened}
use Rattle.bench_capture.proofs.format.Format.open_long.Goals as goal

pub returns-in_err-known-clause-held : goal.returns-in_err-known-clause-held
returns-in_err-known-clause-held c = λ none. first_held c.args.file.now (sym c.in_err-known.ensures.past)

pub returns-clause-opens : goal.returns-clause-opens
returns-clause-opens c = first_opened c.args.file.now c.in_ok-known.known c.in_ok-known.past c.in_ok-known.ensures.known (sym c.in_ok-known.ensures.past)
