use Rattle.std.proofs.Common.{◌≡◌, ◌+◌, take, sym, ap, subst, ◌∙◌, arith}
use Rattle.mib_state.specs.Step.{left}
use Rattle.mib_state.specs.After.{after}
use Rattle.frame_meaning.specs.Meaning.{meaning}
use Rattle.bench_judge.specs.Judged.{AreRunsUpTo, IsAnswer}
use Rattle.bench_judge.proofs.Afters.{after_more}
use Rattle.bench_judge.proofs.runs.runs.Goals as goal

pub loop-version-preserved : goal.loop-version-preserved
loop-version-preserved c =
    let requests = c.args.requests.now in
    let version = c.loop-version.version in
    let q = c.index-requests-next.result in
    let one_more : c.args.base + version + 1 ≡ c.args.base + (version + 1) = omega arith in
    let live : c.apply.new.self ≡ after (take (c.args.base + (version + 1)) requests) =
    c.apply.ensures ∙ ap (λ e. left q.action e q) c.loop-version.invariant.live
    ∙ sym (after_more requests (c.args.base + version) q (omega (arith, c.loop-version-test.true, c.requires)) c.index-requests-next.is)
    ∙ ap (λ n. after (take n requests)) one_more in
    record {
      live = live;
      from_on = omega (arith, c.loop-version.invariant.from_on);
      runs = c.in_ok-add-2.ensures (λ v. meaning (after (take (c.args.base + v) requests)) c.args.port c.args.sent.now) c.args.from
          (omega (arith, c.loop-version.invariant.from_on)) c.loop-version.invariant.runs
          (subst (λ e. IsAnswer (meaning e c.args.port c.args.sent.now) c.args.sent.now c.answer-in-loop-version.result) live c.answer-in-loop-version.ensures);
    }

pub returns : goal.returns
returns c =
    let same : c.loop-version.version ≡ c.args.to = omega (arith, c.loop-version-test.false, c.loop-version.auto.version-end) in
    record {
      none = λ under. absurd (omega (arith, under, c.if-from-to.false));
      some = λ le.
          subst (λ n. AreRunsUpTo (λ v. meaning (after (take (c.args.base + v) c.args.requests.now)) c.args.port c.args.sent.now) c.args.sent.now c.args.from (n + 1) c.loop-version.runs.items)
          same c.loop-version.invariant.runs;
    }
