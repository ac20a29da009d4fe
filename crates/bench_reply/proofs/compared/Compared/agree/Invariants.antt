use Rattle.std.proofs.Common.{◌≡◌, ◌<◌, ℕ, true, slice_get}
use Rattle.bench_reply.specs.Kept.{compares}
use Rattle.bench_reply.proofs.compared.Compared.agree.Given as goal

abbrev pub invariant-loop-byte : goal.invariant-loop-byte
invariant-loop-byte l = (k : ℕ) → k < l.byte → compares l.self k ≡ true → slice_get l.seen k ≡ slice_get l.model k
