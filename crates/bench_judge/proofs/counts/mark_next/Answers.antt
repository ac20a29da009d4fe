use Rattle.std.proofs.Common.{rules, subst, sym, ◌++◌, ◌∷◌, []}
use Rattle.bench_history.specs.declared.event.Event.{Event}
use Rattle.bench_judge.specs.Counted.{AreMarks}
use Rattle.bench_judge.proofs.Doubtful.{marked_next, not_marked}
use Rattle.bench_judge.proofs.counts.mark_next.Goals as goal

pub returns-in-LeftOneOf : goal.returns-in-LeftOneOf
returns-in-LeftOneOf c = λ before are.
    subst (λ (e : Event). AreMarks (before ++ e ∷ []) c.args.frames c.mark.new.marks.items) (sym c.in-LeftOneOf.is)
    (marked_next before _ _ _ c.args.frames c.args.marks.now.items c.mark.new.marks.items c.mark.ensures are)

pub returns-in_default : goal.returns-in_default
returns-in_default c = λ before are. not_marked before c.args.event.now c.args.frames c.args.marks.now.items (search rules) are
