-- The bits of a mask, place by place.
use Rattle.std.proofs.Common.{◌≡◌, ℕ, ◌+◌, ◌-◌, ◌*◌, ◌/◌, ◌%◌, ◌^◌, ◌<◌, true, false, ◌∙◌, arith, ◌≢◌}
use Rattle.std.proofs.Math.Pow.{mod-pow-add}
use Rattle.std.proofs.lemmas.Bool.{eqb-true, eqb-false}
use Rattle.managed_entity.specs.Mask.{names, bit_of}

-- the bits from place p on are the bit of p and those after it
pub bits_step : (mask p : ℕ) → p < 16 → mask % 2 ^ (16 - p) ≡ (mask / 2 ^ (15 - p) % 2) * 2 ^ (15 - p) + mask % 2 ^ (15 - p)
bits_step mask p h = let e : 16 - p ≡ 1 + (15 - p) = omega arith in rw e (mod-pow-add mask 1 (15 - p))

pub one_bit : (mask p : ℕ) → p < 16 → names mask p ≡ true → mask % 2 ^ (16 - p) ≡ bit_of p + mask % 2 ^ (16 - (p + 1))
one_bit mask p h named =
    let e : 16 - (p + 1) ≡ 15 - p = omega arith in
    let one : mask / 2 ^ (15 - p) % 2 ≡ 1 = eqb-true _ _ named in
    rw e (bits_step mask p h ∙ rw one (omega arith))

pub no_bit : (mask p : ℕ) → p < 16 → names mask p ≡ false → mask % 2 ^ (16 - p) ≡ mask % 2 ^ (16 - (p + 1))
no_bit mask p h other =
    let e : 16 - (p + 1) ≡ 15 - p = omega arith in
    let differs : mask / 2 ^ (15 - p) % 2 ≢ 1 = eqb-false _ _ other in
    let none : mask / 2 ^ (15 - p) % 2 ≡ 0 = omega arith in
    rw e (bits_step mask p h ∙ rw none (omega arith))
