use Rattle.std.proofs.Common.{◌≡◌, ◌∙◌, ℕ, ◌+◌, ◌*◌, ◌/◌, Ok, ap, arith, bit_and, sym}
use Rattle.script_digits.proofs.Pairs.{byte_by_bits, byte_by_bits_lt, byte_of_pair, masked, value_by_bits}
use Rattle.script_digits.proofs.read.byte_of.Goals as goal

values : (c : goal.After-from_le_bytes-digits)
    → bit_and c.from_le_bytes-digits.result 3855 + 9 * bit_and (c.from_le_bytes-digits.result / 64) 771
    ≡ value_by_bits c.args.low * 256 + value_by_bits c.args.high
values c =
    let number : c.from_le_bytes-digits.result ≡ c.args.low * 256 + c.args.high = omega arith in
    rw number (masked c.args.high c.args.low c.ranges.high.fits c.ranges.low.fits)

pub overflow_cast-result : goal.overflow_cast-result
overflow_cast-result c =
    let small = byte_by_bits_lt c.args.high c.args.low c.requires.high c.requires.low in
    rw (values c) (omega (arith, small))

pub returns : goal.returns
returns c = λ place.
    byte_of_pair c.args.high c.args.low place c.requires.high c.requires.low ∙ sym (ap (λ (n : ℕ). Ok (byte_by_bits n)) (values c))
