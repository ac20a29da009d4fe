use Rattle.std.proofs.Common.{◌≡◌, ℕ, arith, false, inl, subst, sym}
use Rattle.std.specs.Prelude.{Contains}
use Rattle.frame_rows.specs.Source.{bits_by}
use Rattle.frame_classes.specs.Choices.{is_named}
use Rattle.frame_classes.proofs.Several.{one_tried, pushed_few, pushed_fit}
use Rattle.frame_classes.proofs.Vids.{bits_apart, bits_found, put_bits}
use Rattle.frame_classes.proofs.choices.Case.put_dscp.Goals as goal

pub loop-other-preserved : goal.loop-other-preserved
loop-other-preserved c =
    let n = c.loop-other.other in
    let bits = bits_by c.args.packet c.args.dscp in
    let named = is_named c.args.self.now.rows.now c.args.self.now.left.now c.args.field in
    let items = c.loop-other.choices.items in
    let more = c.put_if_unnamed.new.choices.items in
    let put = put_bits named items more c.bits.result (bits n) c.bits.ensures.value c.put_if_unnamed.ensures in
    let len = pushed_few (named (bits n)) items more (bits n) put in
    let bound = c.bits.ensures.bound in
    let is = c.bits.ensures.value in
    record {
      few = omega (arith, len);
      fit = λ fit. pushed_fit 4096 (named (bits n)) items more (bits n) put (omega (arith, bound, is)) (c.loop-other.invariant.fit fit);
      tried = one_tried bits named c.args.choices.now.items items more n
          (λ k less. bits_apart c.args.packet c.args.dscp k n c.requires.dscp less c.loop-other-test.true) put c.loop-other.invariant.tried;
    }

pub returns-clause-others : goal.returns-clause-others
returns-clause-others c = λ v small is free.
    let named = is_named c.args.self.now.rows.now c.args.self.now.left.now c.args.field in
    let at = bits_found c.args.packet c.args.dscp v c.requires.has small is in
    let less = at.1.0 in
    inl (subst (Contains c.loop-other.choices.items) at.1.1
    (c.loop-other.invariant.tried.each at.0 (omega (arith, less)) (subst (λ (n : ℕ). named n ≡ false) (sym at.1.1) free)))
