use Rattle.std.proofs.Common.{◌≡◌, ◌+◌, ◌%◌, ℕ, [], arith, false, inl, subst, sym}
use Rattle.std.specs.Prelude.{Contains}
use Rattle.frame_classes.specs.Choices.{is_named}
use Rattle.frame_classes.proofs.Several.{one_tried, pushed_few, pushed_fit, vid_at, vids_apart}
use Rattle.frame_classes.proofs.choices.Case.put_unnamed.Goals as goal

pub loop-number-preserved : goal.loop-number-preserved
loop-number-preserved c =
    let n = c.loop-number.number in
    let named = is_named c.args.self.now.rows.now c.args.self.now.left.now c.args.field in
    let items = c.loop-number.choices.items in
    let more = c.put_if_unnamed.new.choices.items in
    let put = c.put_if_unnamed.ensures in
    let len = pushed_few (named ((n + 1) % 4096)) items more ((n + 1) % 4096) put in
    record {
      few = omega (arith, len);
      fit = pushed_fit 4096 (named ((n + 1) % 4096)) items more ((n + 1) % 4096) put (omega arith) c.loop-number.invariant.fit;
      tried = one_tried (λ k. (k + 1) % 4096) named [] items more n (λ k less. vids_apart k n less c.loop-number-test.true) put c.loop-number.invariant.tried;
    }

pub returns-clause-others : goal.returns-clause-others
returns-clause-others c = λ v small free.
    let named = is_named c.args.self.now.rows.now c.args.self.now.left.now c.args.field in
    let at = vid_at v small in
    let less = at.1.0 in
    inl (subst (Contains c.loop-number.choices.items) at.1.1
    (c.loop-number.invariant.tried.each at.0 (omega (arith, less)) (subst (λ (n : ℕ). named n ≡ false) (sym at.1.1) free)))
