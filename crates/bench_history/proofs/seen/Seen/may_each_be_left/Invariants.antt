use Rattle.std.proofs.Common.{◌≡◌, List, length}
use Rattle.std.specs.List.{list_all}
use Rattle.bench_history.specs.History.{may_be_left}
use Rattle.bench_history.specs.Seen.{IsSeen}
use Rattle.bench_history.specs.declared.event.Event.{Event}
use Rattle.bench_history.proofs.seen.Seen.may_each_be_left.Given as goal

-- whether all may is whether those that are left may
abbrev pub invariant-loop-number : goal.invariant-loop-number
invariant-loop-number l =
    (events : List Event) → IsSeen events l.self → list_all (may_be_left events) l.among.numbers ≡ list_all (may_be_left events) l.numbers

abbrev pub decreases-loop-number : goal.decreases-loop-number
decreases-loop-number l = length l.numbers
