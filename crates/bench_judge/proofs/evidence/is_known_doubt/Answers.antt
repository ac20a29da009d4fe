use Rattle.std.proofs.Common.{rules}
use Rattle.bench_judge.proofs.WasJudged.{known_doubt, no_doubt}
use Rattle.bench_judge.proofs.evidence.is_known_doubt.Goals as goal

pub returns-in-LeftOneOf : goal.returns-in-LeftOneOf
returns-in-LeftOneOf c = λ events known.
    known_doubt events c.args.frames.now c.args.event.now _ _ _ c.are_known.result c.in-LeftOneOf.is
    c.are_known.ensures known

pub returns-in_default : goal.returns-in_default
returns-in_default c = λ events known. no_doubt events c.args.event.now (search rules)
