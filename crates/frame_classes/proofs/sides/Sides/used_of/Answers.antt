use Rattle.std.proofs.Common.{◌++◌, ℕ, List, ap, sym, ◌∙◌}
use Rattle.std.specs.Prelude.{filter, map}
use Rattle.frame_classes.specs.Silent.{is_used_at}
use Rattle.frame_classes.specs.Told.{side_by}
use Rattle.frame_classes.proofs.Filtered.{next_in_order}
use Rattle.frame_classes.proofs.sides.Sides.used_of.Goals as goal

pub loop-place-init : goal.loop-place-init
loop-place-init c =
    let test = is_used_at (map side_by c.args.self.now.sides.now) c.args.used in
    let rest = c.into_iter-place-iterator.ensures.into_iter_gives ∙ c.iter-place-items.ensures.places in
    ap (λ (places : List ℕ). places ++ filter test c.into_iter-place-iterator.result) c.none-places.ensures ∙ ap (filter test) rest

pub push-requires-clause-within : goal.push-requires-clause-within
push-requires-clause-within c =
    let test = is_used_at (map side_by c.args.self.now.sides.now) c.args.used in
    (next_in_order test 448 c.args.left.now c.loop-place.places c.loop-place.place-iterator c.next.new.self c.in-Some.place c.iter-place-items.ensures.order
    c.in-Some.ensures.steps (sym c.is_used_at.ensures ∙ c.if-is_used_at.true) c.loop-place.invariant).1

pub push-requires-clause-behind : goal.push-requires-clause-behind
push-requires-clause-behind c =
    let test = is_used_at (map side_by c.args.self.now.sides.now) c.args.used in
    (next_in_order test 448 c.args.left.now c.loop-place.places c.loop-place.place-iterator c.next.new.self c.in-Some.place c.iter-place-items.ensures.order
    c.in-Some.ensures.steps (sym c.is_used_at.ensures ∙ c.if-is_used_at.true) c.loop-place.invariant).0
