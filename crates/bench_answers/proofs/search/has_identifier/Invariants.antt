use Rattle.std.proofs.Common.{◌≡◌, Bool, List, drop}
use Rattle.std.specs.Prelude.{◌==◌}
use Rattle.std.specs.List.{list_any}
use Rattle.bench_reply.specs.Replies.{Wanted}
use Rattle.bench_answers.specs.Kept.{AreExpected}
use Rattle.bench_answers.proofs.search.has_identifier.Given as goal

abbrev pub invariant-loop-number : goal.invariant-loop-number
invariant-loop-number l = (modelled : Bool) (requests : List Wanted) → AreExpected modelled requests l.expected
    → list_any (λ w. w.reply.tci == l.tci) (drop l.number requests) ≡ list_any (λ w. w.reply.tci == l.tci) (drop l.from requests)
