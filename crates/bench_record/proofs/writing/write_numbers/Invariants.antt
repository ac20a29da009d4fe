use Rattle.std.proofs.Common.{◌∷◌, ℕ}
use Rattle.std.specs.Fmt.{decimal}
use Rattle.bench_record.proofs.Parts.{IsTold}
use Rattle.bench_record.proofs.writing.write_numbers.Given as goal

-- the words of the numbers that are left complete what is written
abbrev pub invariant-loop-number : goal.invariant-loop-number
invariant-loop-number g l = IsTold ℕ (λ n. 32 ∷ decimal n) (g.W.Write.contents l.fn.writer) (g.W.Write.contents l.writer) l.number-index l.numbers
