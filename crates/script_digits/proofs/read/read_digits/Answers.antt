use Rattle.std.proofs.Common.{arith}
use Rattle.std.proofs.lemmas.List.Sums.{list_all-from_AllPass}
use Rattle.hex.specs.Hex.{is_hex_digit}
use Rattle.script_digits.proofs.Refusals.{refused}
use Rattle.script_digits.proofs.read.read_digits.Goals as goal
use Rattle.script_digits.proofs.read.read_digits.Goals.{then-digits-ne0-via-then-digits-ne0, then-digits-ne0-via-else-digits-ne0+then-digits-bytes, then-digits-ne0-via-else-digits-ne0+else-digits-bytes+then-not-are_digits}

pub returns-then-digits-ne0 : goal.returns-then-digits-ne0
returns-then-digits-ne0 c =
    refused c.args.digits.now c.args.bytes.now (λ both.
    elim c.then-digits-ne0.branch [
      | then-digits-ne0-via-then-digits-ne0 w ↦ omega (arith, both.0)
      | then-digits-ne0-via-else-digits-ne0+then-digits-bytes w ↦ omega (arith, both.0)
      | then-digits-ne0-via-else-digits-ne0+else-digits-bytes+then-not-are_digits w ↦
          let all = list_all-from_AllPass is_hex_digit c.args.digits.now both.1 in cc
    ])
