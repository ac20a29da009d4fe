use Rattle.std.proofs.Common.{◌≡◌, ◌&&◌, ◌<◌, Bool, arith, false, length, sym, true, ◌∙◌}
use Rattle.std.specs.Prelude.{map}
use Rattle.std.proofs.lemmas.Bool.{true≢false}
use Rattle.std.proofs.lemmas.List.{length-map}
use Rattle.frame_classes.specs.Told.{side_by}
use Rattle.frame_classes.specs.Settled.{are_settled}
use Rattle.frame_classes.proofs.Numbers.{settled_three, settled_two}
use Rattle.frame_classes.proofs.choices.Case.is_settled.Goals as goal

pub returns-in-2 : goal.returns-in-2
returns-in-2 c =
    let self = c.args.self.now in
    let same = length-map self.sides.now.sides.now side_by in
    let counted = c.count.ensures in
    let two = c.in-2.is in
    c.are_settled.ensures ∙ sym (settled_two (map side_by self.sides.now.sides.now) self.left.now c.args.field (omega (arith, same, counted, two)))

and_first : (r a b : Bool) → r ≡ a → r ≡ false → r ≡ (a && b)
and_first r true b p q = absurd (true≢false (sym p ∙ q))
and_first r false b p q = p

pub returns-else-are_settled : goal.returns-else-are_settled
returns-else-are_settled c =
    let self = c.args.self.now in
    let sides = map side_by self.sides.now.sides.now in
    let same = length-map self.sides.now.sides.now side_by in
    let counted = c.count.ensures in
    let three : 2 < length sides = omega (arith, same, counted) in
    and_first c.are_settled-in_default.result (are_settled sides self.left.now c.args.field 1 0) (are_settled sides self.left.now c.args.field 1 2)
    c.are_settled-in_default.ensures c.if-are_settled.false
    ∙ sym (settled_three sides self.left.now c.args.field three)

and_second : (r a b : Bool) → a ≡ true → r ≡ b → r ≡ (a && b)
and_second r true b p q = q
and_second r false b p q = absurd (true≢false (sym p))

pub returns-then-are_settled : goal.returns-then-are_settled
returns-then-are_settled c =
    let self = c.args.self.now in
    let sides = map side_by self.sides.now.sides.now in
    let same = length-map self.sides.now.sides.now side_by in
    let counted = c.count.ensures in
    let three : 2 < length sides = omega (arith, same, counted) in
    and_second c.are_settled-then-are_settled.result (are_settled sides self.left.now c.args.field 1 0)
    (are_settled sides self.left.now c.args.field 1 2) (sym c.are_settled-in_default.ensures ∙ c.if-are_settled.true)
    c.are_settled-then-are_settled.ensures
    ∙ sym (settled_three sides self.left.now c.args.field three)
