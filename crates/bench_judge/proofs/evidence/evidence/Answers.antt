use Rattle.std.proofs.Common.{◌∙◌, inl, inr, sym, arith, true≢false}
use Rattle.bench_judge.proofs.evidence.evidence.Goals as goal

pub returns-then-has_judged : goal.returns-then-has_judged
returns-then-has_judged c = λ grounds same. inl (c.has_judged.ensures.0 c.if-has_judged.true)

pub returns-then-frames-gt0 : goal.returns-then-frames-gt0
returns-then-frames-gt0 c = λ grounds same. (
  omega (arith, c.requires.count, c.if-frames-gt0.true),
  λ judged. true≢false (sym (c.has_judged.ensures.1 judged) ∙ c.if-has_judged.false),
)

pub returns-then-compared-gt0 : goal.returns-then-compared-gt0
returns-then-compared-gt0 c = λ grounds same. inr (omega (arith, c.requires.count, c.if-frames-gt0.false), omega (arith, same, c.if-compared-gt0.true))

pub returns : goal.returns
returns c = λ grounds same. (omega (arith, c.requires.count, c.if-frames-gt0.false), omega (arith, same, c.if-compared-gt0.false))
