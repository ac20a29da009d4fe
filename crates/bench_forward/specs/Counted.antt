-- The forwarding of frames of which nothing is written.
use Rattle.std.specs.Prelude.{ℕ, List, None}
use Rattle.mib_state.specs.Entities.{Entities}
use Rattle.bench_capture.specs.Recorded.{Recorded}
use Rattle.bench_forward.specs.Frames.{left_by, verdict_on}
use Rattle.bench_forward.specs.Outcome.{Written}
use Rattle.bench_forward.specs.Packets.{gems_behind}
use Rattle.bench_forward.specs.declared.forwarding.State.{State}
use Rattle.bench_forward.specs.declared.totals.Totals.{Totals}

-- there is no output
abbrev pub nothing_written : Written
nothing_written = record {
  packets_before = None;
  packets_after = None;
  drops_before = None;
  drops_after = None;
  lines_before = None;
  lines_after = None;
}

-- what is kept from one frame to the next, where these GEM ports would have an interface
abbrev pub state_of : List ℕ → Totals → State
state_of gems totals = record { interfaces = gems; totals = totals }

-- those that would have one behind the frame of this number
abbrev pub behind_frame : Entities → ℕ → List ℕ → ℕ → Recorded → List ℕ
behind_frame e port gems n frame = gems_behind gems (left_by n frame.time (verdict_on e port frame))
