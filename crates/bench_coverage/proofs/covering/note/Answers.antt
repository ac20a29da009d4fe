use Rattle.std.proofs.Common.{◌∷◌, ◌++◌, [], sym, subst}
use Rattle.bench_coverage.specs.Noting.{IsSoFar}
use Rattle.bench_coverage.specs.Passage.{entities_in}
use Rattle.bench_coverage.specs.declared.stretch.Stretch.{Stretch}
use Rattle.bench_coverage.proofs.Steps.{noted}
use Rattle.bench_coverage.proofs.covering.note.Goals as goal

pub returns-clause-so_far : goal.returns-clause-so_far
returns-clause-so_far c frames frame next are =
    let passage = c.args.passage.now in
    subst (λ (s : Stretch). IsSoFar (entities_in passage) passage.least (frames ++ frame ∷ []) c.turn_to.new.done.items s) (sym c.mark.ensures.same)
    (noted passage c.requires.ready c.args.class.now frames frame next c.args.done.now.items c.turn_to.new.done.items c.args.last.now c.turn_to.new.last
    c.mark.new.self.tried c.in_ok-turn_to.ensures.turned c.in_ok-turn_to.ensures.whole.marks c.mark.ensures.marks c.mark.ensures.tried are)
