use Rattle.std.proofs.Common.{sym, ◌∙◌, arith}
use Rattle.managed_entity.proofs.Masks.{width_named, width_other}
use Rattle.managed_entity.specs.declared.attribute.Access.TheVariants.{SetByCreate}
use Rattle.managed_entity.proofs.setting.named_width.Goals as goal
use Rattle.managed_entity.proofs.setting.named_width.Goals.{then-names, else-names}

pub loop-place-preserved : goal.loop-place-preserved
loop-place-preserved c =
    elim c.if-names.branch [
      | then-names w ↦ record {
        done = rw w.width-is (width_named _ _ _ _ _ _ c.loop-place-test.true (sym c.names.ensures ∙ w.if-names.true) c.loop-place.invariant.done);
        small = omega (arith, w.width-is, w.if-names.element_fits.fits, c.loop-place.invariant.small);
      }
      | else-names w ↦ record {
        done = rw w.width-is (width_other _ _ _ _ _ (record { width = 0; access = SetByCreate; initial = 0 }) c.loop-place-test.true (sym c.names.ensures ∙ w.if-names.false) c.loop-place.invariant.done);
        small = omega (arith, w.width-is, c.loop-place.invariant.small);
      }
    ]
