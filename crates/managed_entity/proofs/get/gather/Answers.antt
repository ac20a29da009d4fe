use Rattle.std.proofs.Common.{◌≡◌, ◌<◌, length, sym, ap, ◌∙◌, arith, refl}
use Rattle.managed_entity.proofs.Gathered.{keeps_other, keeps_returned, keeps_left_out, bit_fits, gathered_all, next_of, not_none, over_from}
use Rattle.managed_entity.specs.Get.{returned_values}
use Rattle.managed_entity.proofs.Returned.{returned_count}
use Rattle.managed_entity.proofs.get.gather.Goals as goal
use Rattle.managed_entity.proofs.get.gather.Goals.{then-names+in-Some+in-Ok, then-names+in-Some+in-Err, then-names+in_default, else-names}

pub overflow_add-returned : goal.overflow_add-returned
overflow_add-returned g c =
    let small : c.loop-place.place < 16 = omega (arith, g.met.E.ManagedEntity.fits_mask, ap length c.layout-place-end.ensures, c.loop-place-test.true) in
    omega (arith, bit_fits _ _ _ _ _ _ c.loop-place.invariant small (sym c.names.ensures ∙ c.if-names.true), c.bit-returned.ensures, c.ranges.mask.fits)

pub overflow_add-left_out : goal.overflow_add-left_out
overflow_add-left_out g c =
    let small : c.loop-place.place < 16 = omega (arith, g.met.E.ManagedEntity.fits_mask, ap length c.layout-place-end.ensures, c.loop-place-test.true) in
    omega (arith, bit_fits _ _ _ _ _ _ c.loop-place.invariant small (sym c.names.ensures ∙ c.if-names.true), c.bit-left_out.ensures, c.ranges.mask.fits)

pub loop-place-preserved : goal.loop-place-preserved
loop-place-preserved g c =
    let layout = g.E.ManagedEntity.layout in
    let values = returned_values layout (g.E.ManagedEntity.values c.args.entity.now) (g.E.ManagedEntity.entries c.args.entity.now) in
    let same : length values ≡ length layout = returned_count _ _ _ (g.met.E.ManagedEntity.counts c.args.entity.now) in
    let within : c.loop-place.place < length values = omega (arith, same, ap length c.layout-place-end.ensures, c.loop-place-test.true) in
    let small : c.loop-place.place < 16 = omega (arith, g.met.E.ManagedEntity.fits_mask, ap length c.layout-place-end.ensures, c.loop-place-test.true) in
    let kept = c.loop-place.invariant in
    elim c.if-names.branch [
      | then-names+in-Some+in-Ok w ↦
          let named = sym c.names.ensures ∙ w.if-names.true in
          let fits = rw w.deref.ensures.0 at w.in-Ok.ensures.variant.0 refl in
          let grown = rw w.deref.ensures.0 at w.in-Ok.ensures.ok in
          rw (w.returned-is, w.left_out-is, w.bytes-is, w.bit-returned.ensures, grown) (keeps_returned _ _ _ _ _ _ kept small _ (sym w.in-Some.ensures.value) named fits)
      | then-names+in-Some+in-Err w ↦
          let named = sym c.names.ensures ∙ w.if-names.true in
          let over = over_from _ _ (rw w.deref.ensures.0 at w.in-Err.ensures.variant.1) in
          let same_bytes = w.in-Err.ensures.err in
          rw (w.returned-is, w.left_out-is, w.bytes-is, w.bit-left_out.ensures, same_bytes) (keeps_left_out _ _ _ _ _ _ kept small _ (sym w.in-Some.ensures.value) named over)
      | then-names+in_default w ↦ absurd (not_none _ _ w.in_default.ensures.value (next_of values c.loop-place.place within).1)
      | else-names w ↦ rw (w.returned-is, w.left_out-is, w.bytes-is) (keeps_other _ _ _ _ _ _ kept small within (sym c.names.ensures ∙ w.if-names.false))
    ]

pub returns : goal.returns
returns g c =
    let values = returned_values g.E.ManagedEntity.layout (g.E.ManagedEntity.values c.args.entity.now) (g.E.ManagedEntity.entries c.args.entity.now) in
    let same = returned_count g.E.ManagedEntity.layout (g.E.ManagedEntity.values c.args.entity.now) (g.E.ManagedEntity.entries c.args.entity.now) (g.met.E.ManagedEntity.counts c.args.entity.now) in
    gathered_all _ values _ _ _ _ c.loop-place.invariant (omega (arith, same, ap length c.layout-place-end.ensures, c.loop-place-test.false))
