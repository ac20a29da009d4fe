use Rattle.std.proofs.Common.{refl}
use Rattle.bench_judge.specs.Terms.{ground_in}
use Rattle.bench_judge.specs.declared.walk.Walk.{Walk}
use Rattle.bench_judge.proofs.Answering.{walk_of}
use Rattle.bench_judge.proofs.scene.Scene.into_walk.Goals as goal

pub returns : goal.returns
returns c = λ terms events sound within is wrong.
    let self = c.args.self in
    let walk : Walk = record { walked = c.args.walked; frames = self.frames; requests = c.into_requests.result; base = self.base; compared = c.compared.result; awaited = c.awaited.result } in
    walk_of terms events self walk sound within is wrong refl (c.into_requests.ensures (ground_in terms) events c.args.walked is.answers) refl
    (c.compared.ensures (ground_in terms) events c.args.walked is.answers) (c.awaited.ensures (ground_in terms) events c.args.walked is.answers)
