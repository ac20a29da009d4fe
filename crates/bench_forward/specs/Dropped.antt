-- The frames that are dropped for one reason.
use Rattle.std.specs.Prelude.{ℕ, List, replicate, take}
use Rattle.bench_forward.specs.declared.dropped.Dropped.{Dropped}

-- the numbers of the first ten
abbrev pub numbers_of : Dropped → List ℕ
numbers_of dropped = take dropped.frames dropped.first

-- no frame
abbrev pub none_dropped : Dropped
none_dropped = record { frames = 0; first = replicate 10 0 }
