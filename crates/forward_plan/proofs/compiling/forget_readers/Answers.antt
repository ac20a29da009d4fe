use Rattle.std.proofs.Common.{◌∙◌, ap, arith, refl, subst, sym}
use Rattle.std.proofs.lemmas.Option.{get_or_from_slice_get}
use Rattle.port_plan.specs.declared.routes.Routes.{Routes}
use Rattle.port_plan.specs.Plan.{DoesNotRead}
use Rattle.forward_plan.specs.declared.part.Part.{Part}
use Rattle.forward_plan.proofs.Forgotten.{all_forgotten, forgets_more, is_none, none_more, stays_more}
use Rattle.forward_plan.proofs.compiling.forget_readers.Goals as goal
use Rattle.forward_plan.proofs.compiling.forget_readers.Goals.{then-is_some+then-reads, else-is_some, else-is_some-via-then-is_some+else-reads, else-is_some-via-else-is_some}

pub loop-place-preserved : goal.loop-place-preserved
loop-place-preserved c =
    let old = c.args.mappers.now in
    let before = c.loop-place.mappers in
    let place = c.loop-place.place in
    let may : Part Routes → Type 0 = λ part. DoesNotRead c.args.class c.args.instance part.compiled in
    elim c.if-is_some.branch [
      | then-is_some+then-reads w ↦
          rw w.mappers-is (forgets_more may old before place _ (omega (arith, c.loop-place.auto.mappers, c.loop-place-test.true)) refl c.loop-place.invariant)
      | else-is_some w ↦ rw w.mappers-is (elim w.else-is_some.branch [
        | else-is_some-via-then-is_some+else-reads w' ↦
            stays_more may old before place
            (λ part held. subst may (get_or_from_slice_get before place part _ held) (w'.reads.ensures w'.if-reads.false))
            c.loop-place.invariant
        | else-is_some-via-else-is_some w' ↦
            none_more may old before place
            (λ part held. sym (ap (λ (p : Part Routes). p.of) (get_or_from_slice_get before place part _ held)) ∙ is_none _ (sym c.is_some.ensures ∙ w'.if-is_some.false))
            c.loop-place.invariant
      ])
    ]

pub returns : goal.returns
returns c =
    let may : Part Routes → Type 0 = λ part. DoesNotRead c.args.class c.args.instance part.compiled in
    all_forgotten may c.args.mappers.now c.loop-place.mappers c.loop-place.place
    (omega (arith, c.loop-place.auto.mappers, c.loop-place.auto.place-end, c.loop-place-test.false)) c.loop-place.invariant
