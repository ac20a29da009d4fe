use Rattle.std.proofs.Common.{None, refl}
use Rattle.bench_judge.specs.Terms.{ground_in}
use Rattle.bench_judge.specs.declared.frame.Frame.{Frame}
use Rattle.bench_judge.specs.declared.scene.Scene.{Scene}
use Rattle.bench_judge.proofs.OneOn.{scene_entered}
use Rattle.bench_judge.proofs.scene.Scene.enter.Goals as goal

pub returns : goal.returns
returns c = λ terms events at is.
    let old : Scene = c.args.self.now in
    let new : Scene = record old { frames = c.push.new.self } in
    let frame : Frame = record { sent = c.args.place; ended = None; port = c.args.port; is_enough = c.is_enough.result; least = c.least-least.result; most = 0 } in
    scene_entered terms events c.args.place c.args.port c.args.extent c.args.frame.now frame old new at
    (record { sent = refl; open_yet = refl; port = refl; known = c.is_enough.ensures; least = c.least-least.ensures (ground_in terms) events c.args.place is.answers; most = refl })
    refl refl c.in_ok-push.ensures.items is
