use Rattle.std.proofs.Common.{◌≡◌, ◌+◌, ◌-◌, ℕ, drop, take, ap, ◌∙◌, arith, length-drop}
use Rattle.std.specs.List.{copy_within}
use Rattle.std.proofs.lemmas.List.Edits.{take-paste}
use Rattle.script_replay.proofs.pieces.move_to_front.Goals as goal

pub returns : goal.returns
returns c =
    let text = c.args.text.now in
    let start = c.args.start in
    let count = c.args.end - start in
    let none : count ≡ 0 + count = omega arith in
    ap (take count) c.copy_within.ensures.after
    ∙ ap (λ (n : ℕ). take n (copy_within text start c.args.end 0)) none
    ∙ take-paste text 0 (drop start text) count (omega arith) (omega (arith, length-drop start text))
