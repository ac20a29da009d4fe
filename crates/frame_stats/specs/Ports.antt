-- How the frames of GEM ports are kept: those of some in runs, each at the place that its port-ID chooses, and others in a map.
use Rattle.std.specs.Prelude.{ℕ, ◌≡◌, ◌≢◌, ◌+◌, ◌*◌, ◌<◌, ◌^◌, ◌==◌, ◌/◌, ◌%◌, List, if◌then◌else◌, unwrap_or, get_or, Some}
use Rattle.std.specs.Ordering.{nat_cmp}
use Rattle.std.specs.BTreeMap.{BTreeMap, get}
use Rattle.frame_stats.specs.declared.run.Run.{Run}
use Rattle.frame_stats.specs.Runs.{in_runs}

-- the frames of a port in a map, 0 where it is absent
abbrev pub in_map : BTreeMap ℕ ℕ → ℕ → ℕ
in_map ports port = unwrap_or (get nat_cmp ports port) 0

-- a port has more frames in a map, and every other as many as before
abbrev pub AddsInMap : ℕ → ℕ → BTreeMap ℕ ℕ → BTreeMap ℕ ℕ → Type 0
AddsInMap gem frames old new =
    (port : ℕ) → in_map new port ≡ in_map old port + (if gem == port then frames else 0)

-- no entry of a map is 0
abbrev pub NoneIsZero : BTreeMap ℕ ℕ → Type 0
NoneIsZero ports = (port : ℕ) → get nat_cmp ports port ≢ Some 0

-- the frames of each port, in a map and in runs, have 64 bits
abbrev pub AllFit : BTreeMap ℕ ℕ → List Run → Type 0
AllFit others runs = (port : ℕ) → in_map others port + in_runs port runs < 2 ^ 64

-- the place of a port's run
abbrev pub place : ℕ → ℕ
place port = port * 273 / 256 % 16

-- a run of no frames
abbrev pub no_run : Run
no_run = record { port = 0; frames = 0 }

-- a run with frames is at the place of its port
abbrev pub ArePlaced : List Run → Type 0
ArePlaced runs = (k : ℕ) → 0 < (get_or runs k no_run).frames → place (get_or runs k no_run).port ≡ k
