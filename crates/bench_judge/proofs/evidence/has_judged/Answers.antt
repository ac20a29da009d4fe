use Rattle.std.proofs.Common.{◌∙◌, sym}
use Rattle.bench_judge.proofs.WasJudged.{judged_by_doubt, judged_by_end}
use Rattle.bench_judge.proofs.evidence.has_judged.Goals as goal

pub returns-then-has_judged_end : goal.returns-then-has_judged_end
returns-then-has_judged_end c = judged_by_end c.requires.frames.0 c.args.events.now c.args.frames.now (sym c.has_judged_end.ensures ∙ c.if-has_judged_end.true) c.requires.frames.1

pub returns : goal.returns
returns c =
    judged_by_doubt c.requires.frames.0 c.args.events.now c.args.frames.now c.has_known_doubt.result (sym c.has_judged_end.ensures ∙ c.if-has_judged_end.false) c.requires.frames.1
    c.has_known_doubt.ensures
