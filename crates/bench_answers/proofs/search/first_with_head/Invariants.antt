use Rattle.std.proofs.Common.{◌≡◌, Bool, List, drop}
use Rattle.std.specs.List.{position_from}
use Rattle.bench_reply.specs.Replies.{Wanted, has_head}
use Rattle.bench_answers.specs.Kept.{AreExpected}
use Rattle.bench_answers.proofs.search.first_with_head.Given as goal

abbrev pub invariant-loop-number : goal.invariant-loop-number
invariant-loop-number l = (modelled : Bool) (requests : List Wanted) → AreExpected modelled requests l.expected
    → position_from (λ w. has_head w.reply l.reply) l.number (drop l.number requests)
    ≡ position_from (λ w. has_head w.reply l.reply) l.from (drop l.from requests)
