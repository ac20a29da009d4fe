use Rattle.std.proofs.Common.{◌≡◌, ◌+◌, ℕ, suc, arith, length, subst, take}
use Rattle.mib_state.specs.After.{after}
use Rattle.bench_judge.specs.Sweep.{IsSoFar}
use Rattle.bench_judge.proofs.Settling.{after_more, all_done, next_version}
use Rattle.bench_judge.proofs.sweep.sweep.Goals as goal

pub returns-then-not-settle_all-2 : goal.returns-then-not-settle_all-2
returns-then-not-settle_all-2 g c =
    let n = c.loop-before.before in
    let inv = c.loop-before.invariant in
    let q = c.request-item.result in
    let more : suc n ≡ n + 1 = omega arith in
    let live : c.apply.new.self ≡ after (take (n + 1) c.args.case.now.requests.now) =
    after_more c.args.case.now.requests.now n q c.loop-before.live c.apply.new.self c.loop-before-test.true c.request-item.is inv.live c.apply.ensures in
    let next = subst (λ (v : ℕ). IsSoFar c.args.case.now.padded c.args.case.now.unordered c.args.case.now.events.now c.args.case.now.requests.now c.args.case.now.frames.now v 0 c.loop-before.sweep) more (next_version c.args.case.now.unordered c.args.case.now.events.now c.args.case.now.requests.now c.args.case.now.frames.now n c.loop-before.sweep inv.so_far) in
    c.if-not-settle_all-2.ensures.so_far live next

pub loop-before-preserved : goal.loop-before-preserved
loop-before-preserved g c =
    let n = c.loop-before.before in
    let inv = c.loop-before.invariant in
    let q = c.request-item.result in
    let more : suc n ≡ n + 1 = omega arith in
    let live : c.apply.new.self ≡ after (take (n + 1) c.args.case.now.requests.now) =
    after_more c.args.case.now.requests.now n q c.loop-before.live c.apply.new.self c.loop-before-test.true c.request-item.is inv.live c.apply.ensures in
    let next = subst (λ (v : ℕ). IsSoFar c.args.case.now.padded c.args.case.now.unordered c.args.case.now.events.now c.args.case.now.requests.now c.args.case.now.frames.now v 0 c.loop-before.sweep) more (next_version c.args.case.now.unordered c.args.case.now.events.now c.args.case.now.requests.now c.args.case.now.frames.now n c.loop-before.sweep inv.so_far) in
    record {
      live = live;
      whole = c.if-not-settle_all-2.ensures.whole;
      so_far = c.if-not-settle_all-2.ensures.so_far live next;
    }

pub returns : goal.returns
returns g c =
    let inv = c.loop-before.invariant in
    let all : c.loop-before.before ≡ length c.args.case.now.requests.now = omega arith in
    let so_far = subst (λ (v : ℕ). IsSoFar c.args.case.now.padded c.args.case.now.unordered c.args.case.now.events.now c.args.case.now.requests.now c.args.case.now.frames.now v (length c.loop-before.sweep.waiting.items) c.loop-before.sweep) all inv.so_far in
    all_done c.args.case.now.unordered c.args.case.now.events.now c.args.case.now.requests.now c.args.case.now.frames.now c.loop-before.sweep so_far c.requires.within inv.whole.versions
