-- The options that are left make of the interface so far what all of them make of the plain one.
use Rattle.std.proofs.Common.{◌≡◌, length}
use Rattle.bench_pcapng.specs.Interfaces.{options_of}
use Rattle.bench_pcapng.proofs.options.with_options.Given as goal

abbrev pub invariant-loop-rest : goal.invariant-loop-rest
invariant-loop-rest l = options_of l.order l.interface l.rest ≡ options_of l.order l.fn.plain l.options

abbrev pub decreases-loop-rest : goal.decreases-loop-rest
decreases-loop-rest l = length l.rest
