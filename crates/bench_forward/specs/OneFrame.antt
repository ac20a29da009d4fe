-- What the forwarding of one frame leaves.
use Rattle.std.specs.Prelude.{◌≡◌, ◌+◌, ℕ, List, Result, Ok, Err}
use Rattle.std.specs.Io.KnownBytes.{Appends, Keeps}
use Rattle.mib_state.specs.Entities.{Entities}
use Rattle.bench_capture.specs.Recorded.{Recorded}
use Rattle.text_writing.specs.Written.{AppendsPart}
use Rattle.bench_forward.specs.Drops.{dropped_by}
use Rattle.bench_forward.specs.Entries.{entry_number}
use Rattle.bench_forward.specs.Frames.{is_cut, left_by, verdict_on}
use Rattle.bench_forward.specs.Lines.{verdict_line}
use Rattle.bench_forward.specs.Outcome.{Written}
use Rattle.bench_forward.specs.Packets.{blocks_from, gems_behind}
use Rattle.bench_forward.specs.Totals.{CountsOneMore, SomeSumPasses}
use Rattle.bench_forward.specs.declared.fault.ForwardFault.{ForwardFault}
use Rattle.bench_forward.specs.declared.fault.ForwardFault.TheVariants.{Read, CountFull, Write}
use Rattle.bench_forward.specs.declared.forwarding.State.{State}

-- what comes of it in the capture of the frames that leave and in that of those that are dropped, and its line
abbrev pub blocks_for : Entities → ℕ → State → Recorded → List ℕ
blocks_for e port s frame = blocks_from s.interfaces (left_by (s.totals.frames + 1) frame.time (verdict_on e port frame))

abbrev pub drops_for : Entities → ℕ → State → Recorded → List ℕ
drops_for e port s frame = dropped_by (s.totals.frames + 1) frame (verdict_on e port frame)

abbrev pub line_for : Entities → ℕ → State → Recorded → List ℕ
line_for e port s frame = verdict_line (s.totals.frames + 1) (verdict_on e port frame) (entry_number e port frame.bytes)

-- it is forwarded
pub record IsForwarded (e : Entities) (port : ℕ) (frame : Recorded) (old new : State) (w : Written) : Type 0 where
  pub packets : Appends w.packets_before w.packets_after (blocks_for e port old frame)
  pub drops : Appends w.drops_before w.drops_after (drops_for e port old frame)
  pub lines : Appends w.lines_before w.lines_after (line_for e port old frame)
  pub interfaces : new.interfaces ≡ gems_behind old.interfaces (left_by (old.totals.frames + 1) frame.time (verdict_on e port frame))
  pub totals : CountsOneMore old.totals (verdict_on e port frame) (is_cut frame) new.totals

-- a front of what comes of it is written, and it isn't counted
pub record IsBroken (e : Entities) (port : ℕ) (frame : Recorded) (old new : State) (w : Written) : Type 0 where
  pub packets : AppendsPart w.packets_before w.packets_after (blocks_for e port old frame)
  pub drops : AppendsPart w.drops_before w.drops_after (drops_for e port old frame)
  pub lines : AppendsPart w.lines_before w.lines_after (line_for e port old frame)
  pub totals : new.totals ≡ old.totals

-- nothing of it is written, and a sum would pass 64 bits
pub record IsTooMuch (e : Entities) (port : ℕ) (frame : Recorded) (old new : State) (w : Written) : Type 0 where
  pub packets : Keeps w.packets_before w.packets_after
  pub drops : Keeps w.drops_before w.drops_after
  pub lines : Keeps w.lines_before w.lines_after
  pub totals : new.totals ≡ old.totals
  pub passes : SomeSumPasses old.totals (verdict_on e port frame)

abbrev pub Leaves : Entities → ℕ → Recorded → Result (Unit {0}) ForwardFault → State → State → Written → Type 0
Leaves e port frame (Ok done) old new w = IsForwarded e port frame old new w
Leaves e port frame (Err (Read fault)) old new w = ⊥
Leaves e port frame (Err CountFull) old new w = IsTooMuch e port frame old new w
Leaves e port frame (Err Write) old new w = IsBroken e port frame old new w
