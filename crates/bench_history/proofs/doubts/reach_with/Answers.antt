use Rattle.std.proofs.Common.{◌≡◌, ◌∙◌, ap, sym}
use Rattle.std.specs.Prelude.{max}
use Rattle.bench_history.specs.Doubts.{last_or, reach_of}
use Rattle.bench_history.proofs.Reaching.{as_far, got_last, got_no_reach, got_none, got_reach}
use Rattle.bench_history.proofs.doubts.reach_with.Goals.{in-Some, in-None}
use Rattle.bench_history.proofs.doubts.reach_with.Goals as goal

pub returns-in-Some-last : goal.returns-in-Some-last
returns-in-Some-last c =
    let far : c.match-last.far ≡ reach_of c.args.doubts.now =
    elim c.match-last.branch [
      | in-Some w ↦ w.far-is ∙ sym (got_reach c.args.doubts.now w.in-Some.doubt.now (sym w.in-Some.ensures.value))
      | in-None w ↦ w.far-is ∙ sym (got_no_reach c.args.doubts.now (sym w.in-None.ensures.value))
    ] in
    let last : last_or 0 c.args.frames.now ≡ c.in-Some-last.last.now =
    got_last c.args.frames.now 0 c.in-Some-last.last.now (sym c.in-Some-last.ensures.value) in
    c.max.ensures ∙ ap (λ n. max n c.in-Some-last.last.now) far ∙ ap (λ n. max (reach_of c.args.doubts.now) n) (sym last)

pub returns-in-None-last : goal.returns-in-None-last
returns-in-None-last c =
    let far : c.match-last.far ≡ reach_of c.args.doubts.now =
    elim c.match-last.branch [
      | in-Some w ↦ w.far-is ∙ sym (got_reach c.args.doubts.now w.in-Some.doubt.now (sym w.in-Some.ensures.value))
      | in-None w ↦ w.far-is ∙ sym (got_no_reach c.args.doubts.now (sym w.in-None.ensures.value))
    ] in
    far ∙ as_far (reach_of c.args.doubts.now) (last_or 0 c.args.frames.now) (got_none c.args.frames.now 0 (sym c.in-None-last.ensures.value))
