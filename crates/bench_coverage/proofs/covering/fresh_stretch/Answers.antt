use Rattle.std.proofs.Common.{◌∙◌, Bool, List, ap, false, length}
use Rattle.std.proofs.lemmas.List.{length-replicate}
use Rattle.bench_coverage.specs.Passage.{entities_in}
use Rattle.bench_coverage.proofs.Steps.{ascend_of}
use Rattle.bench_coverage.proofs.covering.fresh_stretch.Goals as goal

pub returns-clause-whole : goal.returns-clause-whole
returns-clause-whole c =
    let passage = c.args.passage.now in
    record {
      ascend = ascend_of (entities_in passage passage.first) passage.port passage.least c.in_ok-classes.classes.items c.in_ok-classes.ensures;
      marks = ap (λ (l : List Bool). length l) (c.in_ok-tried.ensures.items_if_clones_equal (λ y is. is)) ∙ length-replicate _ false ∙ c.len.ensures ∙ c.in_ok-classes.classes.ok.0;
    }
