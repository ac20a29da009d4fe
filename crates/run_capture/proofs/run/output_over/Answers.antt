use Rattle.mib_state.specs.After.{accepted}
use Rattle.run_lanes.specs.Frames.{frames_in}
use Rattle.run_capture.proofs.Outputs.{output}
use Rattle.run_capture.proofs.run.output_over.Goals as goal

pub returns-clause-output : goal.returns-clause-output
returns-clause-output g c =
    let ran = c.in-Ok.ran in
    let requests = accepted c.args.requests.now in
    output requests (frames_in c.args.frames) c.args.settings.now c.in-Ok-lines_of.out.items ran.versions.items ran.counts
    ran.accepted c.count-count.result c.in-Ok.ensures.run c.in-Ok.ensures.accepted c.count-count.ensures c.in-Ok-lines_of.ensures
