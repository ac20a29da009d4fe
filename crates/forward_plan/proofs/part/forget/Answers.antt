use Rattle.std.proofs.Common.{◌≢◌, ◌∙◌, Some, nat_eq, refl, ap, sym, arith}
use Rattle.std.specs.Option.{option_eq}
use Rattle.std.proofs.Math.Seq.{map-set_same}
use Rattle.forward_plan.specs.declared.part.Part.{Part}
use Rattle.forward_plan.proofs.Forgotten.{all_forgotten, forgets_more, stays_more}
use Rattle.forward_plan.proofs.Kept.{other_number}
use Rattle.std.proofs.lemmas.Option.{get_or_from_slice_get}
use Rattle.forward_plan.proofs.part.forget.Goals as goal
use Rattle.forward_plan.proofs.part.forget.Goals.{then-eq, else-eq}

pub loop-place-preserved : goal.loop-place-preserved
loop-place-preserved g c =
    let old = c.args.parts.now in
    let before = c.loop-place.parts in
    let place = c.loop-place.place in
    let so_far = c.loop-place.invariant in
    elim c.if-eq.branch [
      | then-eq w ↦ rw w.parts-is (record {
        forgotten = forgets_more (λ part. part.of ≢ Some c.args.number) old before place _ (omega (arith, c.loop-place.auto.parts, c.loop-place-test.true)) refl so_far.forgotten;
        compiled = map-set_same (λ part. part.compiled) before place _ w.index-parts-place-then-eq.result refl ∙ so_far.compiled;
      })
      | else-eq w ↦ rw w.parts-is (record {
        forgotten = stays_more (λ part. part.of ≢ Some c.args.number) old before place
            (λ part held.
            let it = get_or_from_slice_get before place part c.index-parts-place.result held in
            other_number part.of (Some c.args.number) (ap (λ (p : Part _). option_eq nat_eq p.of (Some c.args.number)) (sym it) ∙ sym c.eq.ensures ∙ w.if-eq.false))
            so_far.forgotten;
        compiled = so_far.compiled;
      })
    ]

pub returns-clause-forgotten : goal.returns-clause-forgotten
returns-clause-forgotten g c =
    all_forgotten (λ part. part.of ≢ Some c.args.number) c.args.parts.now c.loop-place.parts c.loop-place.place
    (omega (arith, c.loop-place.auto.parts, c.loop-place.auto.place-end, c.loop-place-test.false)) c.loop-place.invariant.forgotten
