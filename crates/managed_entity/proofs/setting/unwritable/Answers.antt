use Rattle.std.proofs.Common.{◌<◌, sym, ◌∙◌, arith}
use Rattle.managed_entity.proofs.Bits.{one_bit}
use Rattle.managed_entity.proofs.Masks.{adds_bit, skips_writable, skips_other}
use Rattle.managed_entity.specs.declared.attribute.Access.TheVariants.{SetByCreate}
use Rattle.managed_entity.proofs.setting.unwritable.Goals as goal
use Rattle.managed_entity.proofs.setting.unwritable.Goals.{then-names+then-is_read_only, else-names, else-names-via-then-names+else-is_read_only, else-names-via-else-names}

pub overflow_add-unwritable : goal.overflow_add-unwritable
overflow_add-unwritable c =
    let small : c.loop-place.place < 16 = omega (arith, c.requires, c.loop-place-test.true) in
    omega (arith, one_bit _ _ small (sym c.names.ensures ∙ c.if-names.true), c.loop-place.invariant.bits, c.bit-unwritable.ensures, c.ranges.mask.fits)

pub loop-place-preserved : goal.loop-place-preserved
loop-place-preserved c =
    let small : c.loop-place.place < 16 = omega (arith, c.requires, c.loop-place-test.true) in
    let kept = c.loop-place.invariant in
    elim c.if-names.branch [
      | then-names+then-is_read_only w ↦ rw (w.unwritable-is, w.bit-unwritable.ensures) (adds_bit _ _ _ _ _ _ c.loop-place-test.true small kept.done kept.bits (sym c.names.ensures ∙ w.if-names.true) (sym w.is_read_only.ensures ∙ w.if-is_read_only.true))
      | else-names w ↦ elim w.else-names.branch [
        | else-names-via-then-names+else-is_read_only w' ↦ rw w.unwritable-is (skips_writable _ _ _ _ _ _ c.loop-place-test.true small kept.done kept.bits (sym c.names.ensures ∙ w'.if-names.true) (sym w'.is_read_only.ensures ∙ w'.if-is_read_only.false))
        | else-names-via-else-names w' ↦ rw w.unwritable-is (skips_other _ _ _ _ _ (record { width = 0; access = SetByCreate; initial = 0 }) c.loop-place-test.true small kept.done kept.bits (sym c.names.ensures ∙ w'.if-names.false))
      ]
    ]
