use Rattle.std.proofs.Common.{◌≡◌, ◌∙◌, get_or}
use Rattle.mib_upload.specs.Rows.{classes}
use Rattle.mib_upload.proofs.Classes.{number_at, fills_first, class_has_room, fills_next, filled_all, are_filled}
use Rattle.mib_upload.proofs.shelf.Shelf.fill.Goals as goal

pub loop-class-init : goal.loop-class-init
loop-class-init c = rw c.clear.ensures.items (fills_first c.args.mib.now.entities)

pub add_class-requires : goal.add_class-requires
add_class-requires c =
    let is : c.number.result ≡ get_or classes c.loop-class.class-index 0 = c.number.ensures.value ∙ number_at c.loop-class.class-index c.loop-class-test.true in
    rw is (class_has_room _ _ _ c.loop-class.invariant c.loop-class-test.true)

pub loop-class-preserved : goal.loop-class-preserved
loop-class-preserved c =
    let is : c.number.result ≡ get_or classes c.loop-class.class-index 0 = c.number.ensures.value ∙ number_at c.loop-class.class-index c.loop-class-test.true in
    fills_next _ _ _ c.loop-class.invariant c.loop-class-test.true _ (rw is at c.add_class.ensures.rows) (rw is at c.add_class.ensures.room) (rw is at c.add_class.ensures.each)

pub returns-clause-are : goal.returns-clause-are
returns-clause-are c = are_filled _ _ _ c.loop-class.invariant c.loop-class-test.false

pub returns-clause-rows : goal.returns-clause-rows
returns-clause-rows c = filled_all _ _ _ c.loop-class.invariant c.loop-class-test.false
