use Rattle.std.proofs.Common.{◌∙◌, sym}
use Rattle.managed_entity.specs.declared.attribute.Access.TheVariants.{SetByCreate}
use Rattle.managed_entity.specs.declared.attribute.Attribute.{Attribute}
use Rattle.bench_reply.proofs.Own.{own_later, own_other}
use Rattle.bench_reply.proofs.compared.is_own_byte.Goals as goal
use Rattle.bench_reply.proofs.compared.is_own_byte.Goals.{then-names+else-behind-width, else-names}

pub loop-place-preserved : goal.loop-place-preserved
loop-place-preserved c =
    let any : Attribute = record { width = 0; access = SetByCreate; initial = 0 } in
    elim c.if-names.branch [
      | then-names+else-behind-width w ↦
          rw w.behind-is (rw w.returned_width-width.ensures (own_later _ _ _ _ any c.loop-place-test.true _ c.loop-place.invariant (sym c.names.ensures ∙ w.if-names.true)
          (rw w.returned_width-width.ensures at w.if-behind-width.false)))
      | else-names w ↦ rw w.behind-is (own_other _ _ _ _ any c.loop-place-test.true _ c.loop-place.invariant (sym c.names.ensures ∙ w.if-names.false))
    ]
