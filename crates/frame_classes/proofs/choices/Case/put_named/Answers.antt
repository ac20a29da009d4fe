use Rattle.std.proofs.Common.{◌≡◌, List, ℕ, ap, arith, inr, length, subst, sym, true, ◌∙◌}
use Rattle.frame_classes.specs.Choices.{is_named}
use Rattle.frame_classes.proofs.Vids.{named_further}
use Rattle.frame_classes.proofs.choices.Case.put_named.Goals as goal

pub loop-place-init : goal.loop-place-init
loop-place-init c =
    let rest = c.into_iter-place-iterator.ensures.into_iter_gives ∙ c.iter-place-items.ensures.places in
    let count : length c.into_iter-place-iterator.result ≡ length c.args.self.now.left.now = ap length rest in
    record {
      room = omega (arith, c.requires);
      kept = λ v h. h;
      fit = λ h. h;
      named = λ v small h. inr (subst (λ (ps : List ℕ). is_named c.args.self.now.rows.now ps c.args.field v ≡ true) (sym rest) h);
    }

pub loop-place-preserved : goal.loop-place-preserved
loop-place-preserved c =
    let steps = c.in-Some.ensures.steps in
    let count = ap length steps in
    let len = c.put_named_at.ensures.len in
    let room = c.loop-place.invariant.room in
    record {
      room = omega (arith, count, len, room);
      kept = λ v h. c.put_named_at.ensures.kept v (c.loop-place.invariant.kept v h);
      fit = λ h. c.put_named_at.ensures.fit (c.loop-place.invariant.fit h);
      named = λ v small h.
          named_further c.args.self.now.rows.now c.loop-place.place-iterator c.next.new.self c.in-Some.place c.args.field
          c.loop-place.choices.items c.put_named_at.new.choices.items steps c.put_named_at.ensures.kept v (c.put_named_at.ensures.named v small)
          (c.loop-place.invariant.named v small h);
    }
