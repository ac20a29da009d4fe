use Rattle.std.proofs.Common.{◌≡◌, ◌++◌, ℕ, [], ◌∷◌, ap, arith, length, length-append, ◌∙◌}
use Rattle.std.specs.List.{range_with_len}
use Rattle.frame_classes.proofs.Numbers.{range_more}
use Rattle.frame_classes.proofs.choices.put_up_to.Goals as goal

pub loop-number-init : goal.loop-number-init
loop-number-init c = record { count = ap length c.requires.none; same = c.requires.none }

pub loop-number-preserved : goal.loop-number-preserved
loop-number-preserved c =
    let number = c.loop-number.number in
    let items = c.loop-number.choices.items in
    let before = c.loop-number.invariant.count in
    let pushed = length-append items (number ∷ []) in
    let now : length c.push.new.self.items ≡ length (items ++ number ∷ []) = ap length c.push.ensures.items in
    record {
      count = omega (arith, before, pushed, now);
      same = range_more number items c.push.new.self.items c.loop-number.invariant.same c.push.ensures.items;
    }

pub returns : goal.returns
returns c =
    let all : c.loop-number.number ≡ c.args.end = omega arith in
    c.loop-number.invariant.same ∙ ap (λ (n : ℕ). range_with_len 0 n) all
