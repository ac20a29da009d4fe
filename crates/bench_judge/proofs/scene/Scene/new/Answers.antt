use Rattle.std.proofs.Common.{subst}
use Rattle.bench_answers.specs.Ground.{Ground}
use Rattle.bench_answers.specs.Kept.{IsAnswersOf}
use Rattle.bench_judge.specs.Terms.{ground_in, terms_of}
use Rattle.bench_judge.specs.declared.scene.Scene.{Scene}
use Rattle.bench_judge.proofs.Answering.{scene_none}
use Rattle.bench_judge.proofs.scene.Scene.new.Goals as goal

pub returns : goal.returns
returns c = λ events.
    let terms = terms_of c.args.terms.now in
    let scene : Scene = record { answers = c.in_ok-answers.answers; base = c.most.result; frames = c.new-2.result } in
    let is : IsAnswersOf (ground_in terms) events 0 scene.answers =
    subst (λ (g : Ground). IsAnswersOf g events 0 scene.answers) c.basis.ensures (c.in_ok-answers.ensures events) in
    scene_none terms events scene is (c.most.ensures (ground_in terms) events 0 is) c.new-2.ensures.items
