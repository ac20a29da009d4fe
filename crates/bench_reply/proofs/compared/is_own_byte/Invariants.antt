use Rattle.std.proofs.Common.{◌≡◌, drop}
use Rattle.bench_reply.specs.Replies.{is_own_byte}
use Rattle.bench_reply.proofs.compared.is_own_byte.Given as goal

abbrev pub invariant-loop-place : goal.invariant-loop-place
invariant-loop-place l = is_own_byte l.mask l.place (drop l.place l.layout) l.behind ≡ is_own_byte l.mask 0 l.layout l.byte
