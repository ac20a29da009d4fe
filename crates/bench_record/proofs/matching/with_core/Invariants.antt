use Rattle.std.proofs.Common.{◌≡◌, map, take}
use Rattle.std.specs.Prelude.{filter, slice_get}
use Rattle.bench_record.specs.Index.{core_shown, kept_shown}
use Rattle.bench_record.specs.Matching.{has_core}
use Rattle.bench_record.proofs.matching.with_core.Given as goal

-- those of the frames so far
abbrev pub invariant-loop-number : goal.invariant-loop-number
invariant-loop-number l =
    l.found.items ≡ filter (λ n. has_core (core_shown l.core) (slice_get (map kept_shown l.sent) n)) (take l.number-index l.queue)
