use Rattle.std.proofs.Common.{◌≡◌, ◌+◌, arith, take}
use Rattle.mib_state.specs.After.{after}
use Rattle.bench_judge.proofs.Settling.{after_more}
use Rattle.bench_judge.proofs.Versions.{none_first, none_next, none_of_all, some_here}
use Rattle.bench_judge.proofs.doubt.some_version.Goals as goal

pub loop-before-init : goal.loop-before-init
loop-before-init c =
    let case = c.args.case.now in
    let doubtful = c.args.doubtful.now in
    record {
      live = c.in_ok-live.ensures;
      none = none_first case.padded case.events.now case.requests.now case.frames.now doubtful.gem doubtful.extent doubtful.among.now
          c.in_ok-live.live c.some_may_be.result c.in_ok-live.ensures c.some_may_be.ensures c.if-some_may_be.false;
    }

pub loop-before-preserved : goal.loop-before-preserved
loop-before-preserved c =
    let case = c.args.case.now in
    let doubtful = c.args.doubtful.now in
    let n = c.loop-before.before in
    let live : c.apply.new.self ≡ after (take (n + 1) case.requests.now) =
    after_more case.requests.now n c.request-item.result c.loop-before.live c.apply.new.self c.loop-before-test.true c.request-item.is
    c.loop-before.invariant.live c.apply.ensures in
    record {
      live = live;
      none = none_next case.padded case.events.now case.requests.now case.frames.now doubtful.gem doubtful.extent doubtful.among.now
          n c.apply.new.self c.some_may_be-in-loop-before.result live c.some_may_be-in-loop-before.ensures c.if-some_may_be-2.false
          c.loop-before.invariant.none;
    }

pub returns-then-some_may_be : goal.returns-then-some_may_be
returns-then-some_may_be c =
    let case = c.args.case.now in
    let doubtful = c.args.doubtful.now in
    some_here case.padded case.events.now case.requests.now case.frames.now doubtful.gem doubtful.extent doubtful.among.now
    0 c.in_ok-live.live c.some_may_be.result (omega arith) c.in_ok-live.ensures c.some_may_be.ensures c.if-some_may_be.true

pub returns-then-some_may_be-2 : goal.returns-then-some_may_be-2
returns-then-some_may_be-2 c =
    let case = c.args.case.now in
    let doubtful = c.args.doubtful.now in
    let n = c.loop-before.before in
    let live : c.apply.new.self ≡ after (take (n + 1) case.requests.now) =
    after_more case.requests.now n c.request-item.result c.loop-before.live c.apply.new.self c.loop-before-test.true c.request-item.is
    c.loop-before.invariant.live c.apply.ensures in
    some_here case.padded case.events.now case.requests.now case.frames.now doubtful.gem doubtful.extent doubtful.among.now
    (n + 1) c.apply.new.self c.some_may_be-in-loop-before.result (omega (arith, c.loop-before-test.true)) live c.some_may_be-in-loop-before.ensures
    c.if-some_may_be-2.true

pub returns : goal.returns
returns c =
    let case = c.args.case.now in
    let doubtful = c.args.doubtful.now in
    none_of_all case.padded case.events.now case.requests.now case.frames.now doubtful.gem doubtful.extent doubtful.among.now
    c.loop-before.before c.loop-before-test.false c.loop-before.invariant.none
