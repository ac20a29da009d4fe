use Rattle.std.proofs.Common.{map, take, sym, ap, subst, ◌∙◌}
use Rattle.bench_judge.specs.Cut.{until}
use Rattle.bench_judge.specs.Frames.{AreFrames, AreWithin}
use Rattle.bench_judge.specs.Known.{AreHeld}
use Rattle.bench_judge.proofs.Cuts.{cut_within}
use Rattle.bench_judge.proofs.Held.{held_until}
use Rattle.bench_judge.proofs.Swept.{chosen_of_fitted}
use Rattle.bench_judge.specs.Terms.{ground_in, terms_of}
use Rattle.bench_judge.proofs.cut.choice_until.Goals as goal

pub versions_of-requires-clause-within : goal.versions_of-requires-clause-within
versions_of-requires-clause-within g c =
    let walk = c.args.walk.now in
    let known = c.requires.walked in
    subst (λ requests. AreWithin requests c.deref-3.result.now) (sym c.deref-2.ensures.value)
    (subst (λ frames. AreWithin walk.requests.items frames) (sym (c.deref-3.ensures.value ∙ c.in_ok-frames.ensures))
    (cut_within (ground_in (terms_of c.args.terms.now)) c.args.place walk.walked c.args.events.now walk.requests.items c.deref.result.now c.requires.within known.requests
    (subst (AreFrames (ground_in (terms_of c.args.terms.now)) (take walk.walked c.args.events.now)) (sym c.deref.ensures.value) known.frames)))

pub returns : goal.returns
returns g c =
    chosen_of_fitted (terms_of c.args.terms.now) c.args.terms.now.settings.padded c.args.events.now c.args.walk.now c.args.terms.now.settings.unordered c.args.place c.requires.walked c.requires.within c.deref-2.result.now c.deref-3.result.now
    c.deref-2.ensures.value (c.deref-3.ensures.value ∙ c.in_ok-frames.ensures ∙ ap (map (until c.args.place)) c.deref.ensures.value) c.versions_of.result c.versions_of.ensures

pub versions_of-requires-clause-known : goal.versions_of-requires-clause-known
versions_of-requires-clause-known g c =
    let walk = c.args.walk.now in
    let terms = terms_of c.args.terms.now in
    subst (λ requests. AreHeld terms.settings.padded c.args.events.now requests c.deref-3.result.now c.args.known.now) (sym c.deref-2.ensures.value)
    (subst (λ frames. AreHeld terms.settings.padded c.args.events.now walk.requests.items frames c.args.known.now)
    (sym (c.deref-3.ensures.value ∙ c.in_ok-frames.ensures ∙ ap (map (until c.args.place)) c.deref.ensures.value))
    (held_until terms c.args.events.now walk c.requires.walked c.args.known.now c.requires.known c.args.place))
