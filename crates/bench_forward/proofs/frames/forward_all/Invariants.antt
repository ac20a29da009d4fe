use Rattle.std.proofs.Common.{◌^◌, ◌-◌, List}
use Rattle.bench_capture.specs.Recorded.{Recorded}
use Rattle.bench_forward.specs.Outputs.{known_in}
use Rattle.bench_forward.proofs.SoFar.{AreSoFar, IsLeft}
use Rattle.bench_forward.proofs.frames.forward_all.Given as goal

-- the frames seen so far are forwarded
abbrev pub invariant-loop-fault : goal.invariant-loop-fault
invariant-loop-fault g l = (seen : List Recorded) × AreSoFar l.setting.mib.now.entities l.setting.port seen l.state (record {
  packets_before = known_in g.W.Write.contents l.fn.outputs.packets;
  packets_after = known_in g.W.Write.contents l.outputs.packets;
  drops_before = known_in g.D.Write.contents l.fn.outputs.dropped;
  drops_after = known_in g.D.Write.contents l.outputs.dropped;
  lines_before = known_in g.V.Write.contents l.fn.outputs.verdicts;
  lines_after = known_in g.V.Write.contents l.outputs.verdicts;
}) × IsLeft l.fn.frames.left l.frames.left seen

-- each is counted
abbrev pub decreases-loop-fault : goal.decreases-loop-fault
decreases-loop-fault g l = 2 ^ 64 - l.state.totals.frames
