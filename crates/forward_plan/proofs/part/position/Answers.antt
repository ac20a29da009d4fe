use Rattle.std.proofs.Common.{◌∙◌, sym}
use Rattle.std.specs.Prelude.{slice_index_or}
use Rattle.std.proofs.lemmas.Option.{slice_get-get_or}
use Rattle.forward_plan.proofs.Kept.{none_further, same_number}
use Rattle.forward_plan.proofs.part.position.Goals as goal

pub loop-at-preserved : goal.loop-at-preserved
loop-at-preserved g c =
    let parts = c.args.parts.now in
    let at = c.loop-at.at in
    let part = c.index-parts-at.result in
    none_further parts c.args.from at c.args.of (slice_index_or parts at part) (slice_get-get_or parts at part c.loop-at-test.true)
    (sym c.eq.ensures ∙ c.if-eq.false) c.loop-at.invariant

pub returns-then-eq-clause-part : goal.returns-then-eq-clause-part
returns-then-eq-clause-part g c =
    let parts = c.args.parts.now in
    let at = c.loop-at.at in
    let part = c.index-parts-at.result in (
      slice_index_or parts at part,
      slice_get-get_or parts at part c.loop-at-test.true,
      same_number _ _ (sym c.eq.ensures ∙ c.if-eq.true),
    )
