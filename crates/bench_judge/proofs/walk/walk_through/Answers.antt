use Rattle.std.proofs.Common.{◌≡◌, ◌<◌, ◌≤◌, ◌∙◌, ℕ, Some, length, refl, subst, sym, arith}
use Rattle.std.specs.List.{slice_get}
use Rattle.std.proofs.lemmas.Bool.{false≢true}
use Rattle.std.proofs.lemmas.Option.{slice_get_read}
use Rattle.bench_judge.specs.Scene.{IsScene}
use Rattle.bench_judge.specs.Terms.{terms_of}
use Rattle.bench_judge.proofs.Doubted.{latest_on}
use Rattle.bench_judge.proofs.walk.walk_through.Goals as goal

pub loop-place-init : goal.loop-place-init
loop-place-init g c = record { scene = c.in_ok-scene.ensures c.args.events.now; latest = tt }

pub loop-place-preserved : goal.loop-place-preserved
loop-place-preserved g c =
    let events = c.args.events.now in
    let place : ℕ = c.loop-place.place in
    let event = c.index-events-place.result in
    let is = c.loop-place.invariant.scene in
    let less : place < length events = omega arith in
    let at : slice_get events place ≡ Some event = slice_get_read events (length events) place event refl less c.index-events-place.is in
    let admitted = (c.in_ok-is_admitted.ensures.is place is).0 c.if-not-branch.false in
    let now = c.in_ok-add.ensures (terms_of c.args.terms.now) events at (c.requires place event at) admitted is in
    record {
      scene = now;
      latest = latest_on (terms_of c.args.terms.now) events place c.loop-place.scene c.add.new.self c.is_admitted.new.latest is now c.is_admitted.ensures.latest;
    }

pub is_admitted-requires-clause-scene : goal.is_admitted-requires-clause-scene
is_admitted-requires-clause-scene g c = (c.loop-place.place, c.loop-place.invariant.scene)

pub returns-then-not-branch : goal.returns-then-not-branch
returns-then-not-branch g c =
    let events = c.args.events.now in
    let place : ℕ = c.loop-place.place in
    let event = c.index-events-place.result in
    let is = c.loop-place.invariant.scene in
    let less : place < length events = omega arith in
    let within : place ≤ length events = omega arith in
    let at : slice_get events place ≡ Some event = slice_get_read events (length events) place event refl less c.index-events-place.is in
    let decides = c.in_ok-is_admitted.ensures.is place is in
    c.into_walk.ensures (terms_of c.args.terms.now) events c.requires within is
    (λ _. record { seen = event; is = at; refused = λ admitted. false≢true (sym c.if-not-branch.true ∙ decides.1 admitted) })

pub returns : goal.returns
returns g c =
    let events = c.args.events.now in
    let end : c.loop-place.place ≡ length events = omega arith in
    let within : length events ≤ length events = omega arith in
    let is = subst (λ (n : ℕ). IsScene (terms_of c.args.terms.now) events n c.loop-place.scene) end c.loop-place.invariant.scene in
    c.into_walk-2.ensures (terms_of c.args.terms.now) events c.requires within is (λ less. absurd (omega (arith, less)))
