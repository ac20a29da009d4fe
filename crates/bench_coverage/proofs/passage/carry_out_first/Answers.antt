use Rattle.std.proofs.Common.{◌≡◌, ◌∙◌, ◌<◌, ap, arith, length, min, sym, take}
use Rattle.mib_state.specs.After.{after}
use Rattle.mib_state.specs.Entities.{Entities, State}
use Rattle.mib_state.specs.Step.{left}
use Rattle.bench_judge.proofs.Afters.{after_more}
use Rattle.bench_coverage.proofs.Afters.{take_most}
use Rattle.bench_coverage.proofs.passage.carry_out_first.Goals as goal

pub loop-place-preserved : goal.loop-place-preserved
loop-place-preserved c =
    let requests = c.args.requests.now in
    let place = c.loop-place.place in
    let q = c.index-requests-place.result in
    let within : place < length requests = omega (arith, c.loop-place-test.true, c.min-place-end.ensures) in
    let more = sym (after_more requests place q within c.index-requests-place.is) in
    record {
      before =
          ap (λ (s : State). s.entities) c.carry_out.ensures.after ∙ ap (λ (e : Entities). left q.action e q) c.loop-place.invariant.before ∙ more;
      here = c.apply.ensures ∙ ap (λ (e : Entities). left q.action e q) c.loop-place.invariant.here ∙ more;
    }

pub returns-clause-before : goal.returns-clause-before
returns-clause-before c =
    let end : c.loop-place.place ≡ min c.args.count (length c.args.requests.now) =
    omega (arith, c.loop-place-test.false, c.loop-place.auto.place-end, c.min-place-end.ensures) in
    c.loop-place.invariant.before ∙ ap (λ n. after (take n c.args.requests.now)) end ∙ ap after (take_most c.args.count c.args.requests.now)

pub returns-clause-here : goal.returns-clause-here
returns-clause-here c =
    let end : c.loop-place.place ≡ min c.args.count (length c.args.requests.now) =
    omega (arith, c.loop-place-test.false, c.loop-place.auto.place-end, c.min-place-end.ensures) in
    c.loop-place.invariant.here ∙ ap (λ n. after (take n c.args.requests.now)) end ∙ ap after (take_most c.args.count c.args.requests.now)
