use Rattle.std.proofs.Common.{refl}
use Rattle.bench_judge.specs.Terms.{terms_of}
use Rattle.bench_judge.proofs.Doubted.{admitted_if, scene_requests}
use Rattle.bench_judge.proofs.admitting.is_admitted.Goals as goal

pub returns-in-LeftOneOf-clause-is : goal.returns-in-LeftOneOf-clause-is
returns-in-LeftOneOf-clause-is c =
    let scene = c.args.scene.now in
    let terms = terms_of c.args.terms.now in
    admitted_if terms c.args.events.now scene c.args.event.now c.in-LeftOneOf.gem c.in-LeftOneOf.extent c.in-LeftOneOf.among c.is_one_of.result
    terms.settings.padded c.args.events.now c.requests.result.now c.deref.result.now refl refl
    (scene_requests terms c.args.events.now c.requires.scene.0 scene c.requests.result.now c.requires.scene.1 (c.requests.ensures _ _ _ c.requires.scene.1.answers)) c.deref.ensures.value
    c.in-LeftOneOf.is c.is_one_of.ensures.is
