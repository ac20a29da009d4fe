use Rattle.std.proofs.Common.{◌≡◌, Bool, List, drop}
use Rattle.std.specs.List.{position_from}
use Rattle.bench_reply.specs.Replies.{Wanted, is_reply}
use Rattle.bench_answers.specs.Kept.{AreExpected}
use Rattle.bench_answers.proofs.search.first_right.Given as goal

abbrev pub invariant-loop-number : goal.invariant-loop-number
invariant-loop-number l = (modelled : Bool) (requests : List Wanted) → AreExpected modelled requests l.expected
    → position_from (λ w. is_reply modelled w l.reply) l.number (drop l.number requests)
    ≡ position_from (λ w. is_reply modelled w l.reply) l.from (drop l.from requests)
