use Rattle.std.proofs.Common.{◌≡◌, ◌-◌, ◌<◌, ◌^◌, ℕ, take}
use Rattle.std.specs.Prelude.{slice_index}
use Rattle.frame_meaning.specs.Reason.{number_of_reason}
use Rattle.frame_meaning.specs.declared.reason.Reason.{Reason}
use Rattle.frame_stats.specs.Figures.{at_port, Bytes, DropsFor, FramesTo, figure}
use Rattle.frame_stats.proofs.count.note_all.Given as goal

abbrev pub invariant-loop-verdict : goal.invariant-loop-verdict
invariant-loop-verdict l = record {
  small : l.bytes < 2 ^ 64;
  bytes : l.bytes ≡ figure Bytes (take l.verdict-index l.verdicts);
  drops : (reason : Reason) → slice_index l.drops (number_of_reason reason - 1) ≡ figure (DropsFor reason) (take l.verdict-index l.verdicts);
  ports : (port : ℕ) → at_port l.ports port ≡ figure (FramesTo port) (take l.verdict-index l.verdicts);
}
