use Rattle.std.proofs.Common.{◌∷◌, [], sym, subst}
use Rattle.bench_coverage.specs.Noting.{IsSoFar}
use Rattle.bench_coverage.specs.Passage.{entities_in}
use Rattle.bench_coverage.specs.declared.stretch.Stretch.{Stretch}
use Rattle.bench_coverage.proofs.Steps.{first_noted}
use Rattle.bench_coverage.proofs.covering.first_stretch.Goals as goal

pub returns-clause-so_far : goal.returns-clause-so_far
returns-clause-so_far c frame next =
    let passage = c.args.passage.now in
    subst (λ (s : Stretch). IsSoFar (entities_in passage) passage.least (frame ∷ []) [] s) (sym c.mark.ensures.same)
    (first_noted passage c.requires c.args.class.now frame next c.in_ok-stretch.stretch c.mark.new.self.tried c.in_ok-stretch.ensures.fresh
    c.in_ok-stretch.ensures.whole.marks c.mark.ensures.marks c.mark.ensures.tried)
