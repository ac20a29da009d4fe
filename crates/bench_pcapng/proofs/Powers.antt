-- Powers of ten, beside numbers of 64 and of 128 bits.
use Rattle.std.proofs.Common.{◌≡◌, ◌<◌, ◌≤◌, ◌*◌, ◌^◌, ℕ, true, arith}
use Rattle.std.proofs.Math.Nat.{div-eq_of_lt, one-le-pow, pow-le-pow_right}
use Rattle.std.proofs.lemmas.Bool.{lt-ltb}
use Rattle.std.specs.Prelude.{nat_lt}
use Rattle.bench_pcapng.specs.Times.{nanoseconds_in}

-- at over 10^28 ticks a second, a number of 64 bits is under a nanosecond
pub under_a_nanosecond : (ticks resolution : ℕ) → ticks < 2 ^ 64 → 28 < resolution → resolution < 128 → nanoseconds_in ticks resolution ≡ 0
unfolding nanoseconds_in
under_a_nanosecond ticks resolution few fine within =
    let least : 10 ^ 29 ≤ 10 ^ resolution = pow-le-pow_right {n = 10} (omega arith) {i = 29} {j = resolution} (omega (arith, fine)) in
    let ten : nat_lt resolution 128 ≡ true = lt-ltb resolution 128 within in
    let more : ticks * 10 ^ 9 < 10 ^ resolution = omega (arith, few, least) in
    rw ten (div-eq_of_lt more)

-- up to there, the ticks of a second have 128 bits
pub ticks_fit : (resolution : ℕ) → resolution ≤ 28 → 10 ^ resolution < 2 ^ 128
ticks_fit resolution coarse =
    let most : 10 ^ resolution ≤ 10 ^ 28 = pow-le-pow_right {n = 10} (omega arith) {i = resolution} {j = 28} coarse in
    omega (arith, most)

-- and are never none
pub some_ticks : (resolution : ℕ) → 0 < 10 ^ resolution
some_ticks resolution = one-le-pow resolution 10 (omega arith)
