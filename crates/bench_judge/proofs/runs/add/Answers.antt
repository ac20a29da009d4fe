use Rattle.std.proofs.Common.{◌≡◌, ◌<◌, ◌+◌, ◌-◌, length, slice_get, Some, sym, ap, subst, ◌∙◌, arith, true≢false}
use Rattle.bench_judge.specs.Judged.{AreRunsUpTo, AreSameAnswers}
use Rattle.bench_judge.specs.declared.judgement.Run.{Run}
use Rattle.bench_judge.proofs.Joined.{same_run, extended, one_read, pushed, same_answer}
use Rattle.bench_judge.proofs.runs.add.Goals.{else-count-gt0-via-then-count-gt0+in_ok-are_same+else-branch, else-count-gt0-via-else-count-gt0}
use Rattle.bench_judge.proofs.runs.add.Goals as goal

pub returns-then-branch : goal.returns-then-branch
returns-then-branch c verdicts from le are answer =
    let runs = c.args.runs.now.items in
    let i = c.len-count.result - 1 in
    let within : i < length runs = omega (arith, c.len-count.ensures, c.if-count-gt0.true) in
    let last : Run = c.index_mut.result.now in
    let at : slice_get runs i ≡ Some last = one_read runs i last _ within c.index_mut.ensures.value in
    let read : slice_get runs i ≡ Some c.index.result.now = one_read runs i c.index.result.now _ within c.index.ensures in
    let same : AreSameAnswers c.args.sent.now c.index.result.now.answer c.args.answer = c.in_ok-are_same.ensures.0 c.if-branch.true in
    let is : c.index.result.now ≡ last = same_run _ _ (sym read ∙ at) in
    extended verdicts c.args.sent.now runs from c.args.version i last at (omega (arith, c.len-count.ensures, c.if-count-gt0.true)) are
    (same_answer (verdicts c.args.version) c.args.sent.now last.answer c.args.answer (subst (λ (r : Run). AreSameAnswers c.args.sent.now r.answer c.args.answer) is same) answer)

pub returns : goal.returns
returns c verdicts from le are answer =
    let runs = c.args.runs.now.items in
    subst (λ l. AreRunsUpTo verdicts c.args.sent.now from (c.args.version + 1) l) (sym c.in_ok-push.ensures.items)
    (pushed verdicts c.args.sent.now runs from c.args.version c.args.answer
    (elim c.else-count-gt0.branch [
      | else-count-gt0-via-then-count-gt0+in_ok-are_same+else-branch w ↦ λ i last at len same.
          let within : c.len-count.result - 1 < length runs = omega (arith, c.len-count.ensures, w.if-count-gt0.true) in
          let read : slice_get runs (c.len-count.result - 1) ≡ Some w.index.result.now = one_read runs (c.len-count.result - 1) w.index.result.now _ within w.index.ensures in
          let place : c.len-count.result - 1 ≡ i = omega (arith, c.len-count.ensures, len) in
          let is : w.index.result.now ≡ last = same_run _ _ (sym read ∙ ap (slice_get runs) place ∙ at) in
          true≢false (sym (w.in_ok-are_same.ensures.1 (subst (λ (r : Run). AreSameAnswers c.args.sent.now r.answer c.args.answer) (sym is) same)) ∙ w.if-branch.false)
      | else-count-gt0-via-else-count-gt0 w ↦ λ i last at len same. absurd (omega (arith, len, c.len-count.ensures, w.if-count-gt0.false))
    ]) are answer)
