use Rattle.std.proofs.Common.{◌≡◌, Bool, false, List, take}
use Rattle.std.specs.List.{list_any}
use Rattle.bench_reply.specs.Replies.{Wanted, has_head}
use Rattle.bench_answers.specs.Kept.{AreExpected}
use Rattle.bench_answers.proofs.search.has_one_head.Given as goal

abbrev pub invariant-loop-number : goal.invariant-loop-number
invariant-loop-number l = (modelled : Bool) (requests : List Wanted) → AreExpected modelled requests l.expected
    → list_any (λ w. has_head w.reply l.reply) (take l.number requests) ≡ false
