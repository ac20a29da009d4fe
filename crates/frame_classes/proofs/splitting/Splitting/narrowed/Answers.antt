use Rattle.std.proofs.Common.{◌≡◌, ◌++◌, ℕ, List, false, arith, ap, length, sym, ◌∙◌}
use Rattle.std.specs.Prelude.{filter}
use Rattle.frame_rows.specs.Row.{row_admits}
use Rattle.frame_classes.specs.Choices.{test_at}
use Rattle.frame_classes.proofs.Filtered.{next_in_order}
use Rattle.frame_classes.proofs.splitting.Splitting.narrowed.Goals as goal

pub loop-place-init : goal.loop-place-init
loop-place-init c =
    let test = test_at (λ row. row_admits row c.args.field c.args.value) false c.args.self.now.sides.now.rows.now in
    let rest = c.into_iter-place-iterator.ensures.into_iter_gives ∙ c.iter-place-items.ensures.places in
    let none : length c.none-narrower.result ≡ 0 = ap length c.none-narrower.ensures in
    let all : length c.into_iter-place-iterator.result ≡ length c.args.left.now = ap length rest in
    record {
      left = ap (λ (places : List ℕ). places ++ filter test c.into_iter-place-iterator.result) c.none-narrower.ensures ∙ ap (filter test) rest;
      few = omega (arith, c.requires);
    }

pub push-requires-clause-within : goal.push-requires-clause-within
push-requires-clause-within c =
    let test = test_at (λ row. row_admits row c.args.field c.args.value) false c.args.self.now.sides.now.rows.now in
    (next_in_order test 448 c.args.left.now c.loop-place.narrower c.loop-place.place-iterator c.next.new.self c.in-Some.place c.iter-place-items.ensures.order
    c.in-Some.ensures.steps (sym c.admits_at.ensures ∙ c.if-admits_at.true) c.loop-place.invariant.left).1

pub push-requires-clause-behind : goal.push-requires-clause-behind
push-requires-clause-behind c =
    let test = test_at (λ row. row_admits row c.args.field c.args.value) false c.args.self.now.sides.now.rows.now in
    (next_in_order test 448 c.args.left.now c.loop-place.narrower c.loop-place.place-iterator c.next.new.self c.in-Some.place c.iter-place-items.ensures.order
    c.in-Some.ensures.steps (sym c.admits_at.ensures ∙ c.if-admits_at.true) c.loop-place.invariant.left).0
