-- Answers of their own, so that no other is looked for where a wrong body breaks one.
use Rattle.std.proofs.Common.{arith, ◌≤◌, ◌^◌}
use Rattle.std.proofs.Math.Nat.{pow-le-pow_right}
use Rattle.std.proofs.lemmas.Grind.{common_steps}
use Rattle.script_lines.proofs.number.read_decimal.Goals as goal

-- fewer than 19 digits were read
pub overflow_mul-number : goal.overflow_mul-number
overflow_mul-number c =
    let few : 10 ^ c.loop-digit.digit-index ≤ 10 ^ 18 = pow-le-pow_right (omega arith) {i = c.loop-digit.digit-index} {j = 18} (omega arith) in
    omega arith

pub overflow_add-number : goal.overflow_add-number
overflow_add-number c =
    let few : 10 ^ c.loop-digit.digit-index ≤ 10 ^ 18 = pow-le-pow_right (omega arith) {i = c.loop-digit.digit-index} {j = 18} (omega arith) in
    omega arith

pub returns : goal.returns
returns c = grind (arith, common_steps)
