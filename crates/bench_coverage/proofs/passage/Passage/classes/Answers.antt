use Rattle.std.proofs.Common.{◌∙◌, Result, Ok, Err, subst}
use Rattle.std.specs.Prelude.{IfOk}
use Rattle.mib_state.specs.Entities.{Entities}
use Rattle.frame_classes.specs.Classes.{AreClasses}
use Rattle.bench_coverage.specs.Coverage.{examples_of}
use Rattle.bench_coverage.specs.Passage.{entities_in}
use Rattle.bench_coverage.proofs.Stretched.{same_classes, same_in_stretch}
use Rattle.bench_coverage.proofs.passage.Passage.classes.Goals as goal

if_ok : {T E : Type 0} (r : Result T E) (P Q : T → Type 0) → ((t : T) → P t → Q t) → IfOk r P → IfOk r Q
if_ok (Ok t) P Q by is = by t is
if_ok (Err e) P Q by is = tt

pub returns : goal.returns
returns c =
    let passage = c.args.self.now in
    let entities = entities_in passage in
    let same = same_in_stretch entities passage.port passage.least passage.first passage.version c.requires.passes.inside in
    if_ok c.classes.result _ _
    (λ list are.
    same_classes (entities passage.first) (entities passage.version) passage.port passage.least (examples_of list.items) same
    (subst (λ (e : Entities). AreClasses e passage.port passage.least (examples_of list.items)) (c.mib.ensures ∙ c.requires.passes.here) are))
    c.classes.ensures
