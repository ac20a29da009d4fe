use Rattle.std.proofs.Common.{◌^◌, ◌-◌, [], List}
use Rattle.bench_capture.specs.Recorded.{Recorded}
use Rattle.bench_forward.specs.Counted.{nothing_written, state_of}
use Rattle.bench_forward.specs.Frames.{leaving}
use Rattle.bench_forward.specs.Packets.{gems_behind}
use Rattle.bench_forward.proofs.SoFar.{AreSoFar, IsLeft}
use Rattle.bench_forward.proofs.totalling.count_all.Given as goal

-- the frames seen so far are counted
abbrev pub invariant-loop-fault : goal.invariant-loop-fault
invariant-loop-fault g l = (seen : List Recorded)
    × AreSoFar l.setting.mib.now.entities l.setting.port seen
    (state_of (gems_behind [] (leaving l.setting.mib.now.entities l.setting.port seen)) l.totals) nothing_written
    × IsLeft l.fn.frames.left l.frames.left seen

-- each is counted
abbrev pub decreases-loop-fault : goal.decreases-loop-fault
decreases-loop-fault g l = 2 ^ 64 - l.totals.frames
