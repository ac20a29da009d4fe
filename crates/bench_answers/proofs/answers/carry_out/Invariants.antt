use Rattle.std.proofs.Common.{take}
use Rattle.bench_answers.specs.Kept.{IsBegun}
use Rattle.bench_answers.proofs.answers.carry_out.Given as goal

abbrev pub invariant-loop-request : goal.invariant-loop-request
invariant-loop-request l = IsBegun (take l.request-index l.requests) l.fn.asking l.asking l.expected.items
