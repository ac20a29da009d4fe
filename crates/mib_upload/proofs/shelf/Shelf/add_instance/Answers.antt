use Rattle.std.proofs.Common.{◌≤◌, sym, arith}
use Rattle.mib_upload.proofs.Reading.{keeps_first, keeps_none, keeps_some, one_more}
use Rattle.mib_upload.proofs.shelf.Shelf.add_instance.Goals as goal
use Rattle.mib_upload.proofs.shelf.Shelf.add_instance.Goals.{in-Some, in_default}

pub loop-n-init : goal.loop-n-init
loop-n-init c = rw (c.begin-row.ensures, c.class.ensures, c.number.ensures) (keeps_first c.args.held.now.class c.args.held.now.instance c.args.self.now)

pub add_attribute-requires-clause-room : goal.add_attribute-requires-clause-room
add_attribute-requires-clause-room c = omega (arith, one_more _ _ _ _ _ _ c.loop-n.invariant, c.requires)

pub loop-n-preserved : goal.loop-n-preserved
loop-n-preserved c =
    let last : c.loop-n.n ≤ 16 = omega (arith, c.loop-n-test.true) in
    elim c.match-value.branch [
      | in-Some w ↦
          rw (w.self-is, w.row-is) (
          keeps_some _ _ _ _ _ _ c.loop-n.invariant last w.deref.result.now
          (rw w.deref.ensures.0 (sym (rw w.in-Some.is at c.attribute-value.ensures.value))) (rw w.deref.ensures.0 (rw w.in-Some.is at c.attribute-value.ensures.width))
          w.add_attribute.new.self w.add_attribute.new.row w.add_attribute.ensures.rows w.add_attribute.ensures.room w.add_attribute.ensures.mask (omega (arith, w.deref.ensures.1)))
      | in_default w ↦ rw (w.self-is, w.row-is) (keeps_none _ _ _ _ _ _ c.loop-n.invariant last (sym (rw w.in_default.is at c.attribute-value.ensures.value)))
    ]
