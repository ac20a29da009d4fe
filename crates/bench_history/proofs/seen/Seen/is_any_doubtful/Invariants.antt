use Rattle.std.proofs.Common.{◌≡◌, List, length}
use Rattle.std.specs.List.{list_any}
use Rattle.bench_history.specs.History.{is_doubtful}
use Rattle.bench_history.specs.Seen.{IsSeen}
use Rattle.bench_history.specs.declared.event.Event.{Event}
use Rattle.bench_history.proofs.seen.Seen.is_any_doubtful.Given as goal

-- whether any is is whether any of those that are left is
abbrev pub invariant-loop-number : goal.invariant-loop-number
invariant-loop-number l =
    (events : List Event) → IsSeen events l.self
    → list_any (λ n. is_doubtful n events) l.among.numbers ≡ list_any (λ n. is_doubtful n events) l.numbers

abbrev pub decreases-loop-number : goal.decreases-loop-number
decreases-loop-number l = length l.numbers
