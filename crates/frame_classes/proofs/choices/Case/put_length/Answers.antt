use Rattle.std.proofs.Common.{◌≡◌, ◌≤◌, arith, inl, inr}
use Rattle.frame_rows.specs.Field.{counted_length}
use Rattle.frame_classes.proofs.Lengths.{and_so}
use Rattle.frame_classes.proofs.choices.Case.put_length.Goals as goal

pub returns-then-length-eq-LONG-clause-only : goal.returns-then-length-eq-LONG-clause-only
returns-then-length-eq-LONG-clause-only c = λ v h.
    let all : c.args.length ≡ counted_length = omega arith in
    and_so (c.put.ensures.only v h) (inl all)

pub returns-then-least-from-clause-only : goal.returns-then-least-from-clause-only
returns-then-least-from-clause-only c = λ v h.
    let long : c.args.least ≤ c.args.length = omega arith in
    and_so (c.put-then-least-from.ensures.only v h) (inr long)
