use Rattle.std.proofs.Common.{◌≡◌, ◌<◌, ◌+◌, ◌++◌, ◌%◌, ℕ, [], ◌∷◌, List, false, ap, arith, length, length-append, min, subst, sym}
use Rattle.std.specs.Prelude.{All}
use Rattle.std.proofs.Math.Nat.{mod-lt}
use Rattle.std.proofs.lemmas.List.Elements.{All-nil}
use Rattle.frame_classes.proofs.Several.{AreTried, none_tried, one_tried, pushed_fit, turned_apart, turned_several}
use Rattle.frame_classes.proofs.choices.Case.put_several.Goals as goal

pub loop-number-init : goal.loop-number-init
loop-number-init c =
    let none = c.requires.none in
    record {
      count = ap length none;
      fit = subst (All (λ (v : ℕ). v < c.args.end)) (sym none) (All-nil (λ (v : ℕ). v < c.args.end));
      tried = subst (λ (vs : List ℕ). AreTried (λ k. (c.plain-plain.result + k) % c.args.end) (λ _. false) [] vs 0) (sym none)
          (none_tried (λ k. (c.plain-plain.result + k) % c.args.end) (λ _. false) []);
    }

pub loop-number-preserved : goal.loop-number-preserved
loop-number-preserved c =
    let n = c.loop-number.number in
    let items = c.loop-number.choices.items in
    let more = c.push.new.self.items in
    let put = c.push.ensures.items in
    let end = c.args.end in
    let plain = c.plain-plain.result in
    let value = (plain + n) % end in
    let some = c.requires.some in
    let before = c.loop-number.invariant.count in
    let pushed = length-append items (value ∷ []) in
    let now : length more ≡ length (items ++ value ∷ []) = ap length put in
    let small = c.plain-plain.ensures in
    let limit = c.requires.end in
    record {
      count = omega (arith, before, pushed, now);
      fit = pushed_fit end false items more value put (mod-lt (plain + n) (omega (arith, some))) c.loop-number.invariant.fit;
      tried = one_tried (λ k. (plain + k) % end) (λ _. false) [] items more n
          (λ k less. turned_apart end plain k n (omega (arith, small, limit)) less (omega arith)) put c.loop-number.invariant.tried;
    }

pub returns-clause-several : goal.returns-clause-several
returns-clause-several c =
    let small = c.plain-plain.ensures in
    let limit = c.requires.end in
    let count = c.count.ensures in
    let least = c.min-number-end.ensures in
    let all : c.loop-number.number ≡ min c.count.result c.args.end = omega arith in
    turned_several c.count.result (length c.args.self.now.sides.now.sides.now) c.args.end c.plain-plain.result c.loop-number.number c.loop-number.choices.items
    count (omega (arith, small, limit)) all c.loop-number.invariant.count c.loop-number.invariant.tried
