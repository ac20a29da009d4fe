-- The place of the DSCP of what follows a frame's tags, by the two bytes behind the type.
use Rattle.std.proofs.Common.{◌≡◌, ◌≢◌, ℕ, ◌+◌, ◌-◌, ◌*◌, ◌/◌, ◌%◌, ◌<◌, ◌≤◌, Bool, true, false, ◌||◌, List, length, take, drop, Some, None, refl, ap, ◌∙◌, arith, eq-eqb}
use Rattle.std.specs.Prelude.{◌==◌, if◌then◌else◌, nat_lt, slice_index}
use Rattle.std.proofs.lemmas.Bool.{lt-ltb, le-ltb, ne_eqb}
use Rattle.std.proofs.lemmas.List.{get_or-drop, take_rest}
use Rattle.byteorder.specs.Endian.{big_number}
use Rattle.tag_view.specs.Frame.{type_at}
use Rattle.tag_view.specs.Dscp.{dscp_of, traffic_class, upper_six}
use Rattle.port_plan.specs.Plan.{IsDscp}

-- the two bytes as one number
pub two_behind : (rest : List ℕ) (behind : ℕ) → behind ≡ big_number 2 (take (length rest - 2) (drop 2 rest)) → behind ≡ slice_index rest 2 * 256 + slice_index rest 3
two_behind rest behind is =
    is
    ∙ ap (λ (bytes : List ℕ). big_number 2 bytes) (take_rest rest 2)
    ∙ rw (get_or-drop 2 rest 0 0, get_or-drop 2 rest 1 0) (omega arith)

-- the DSCP of IPv4, of IPv6, and of all else
pub of_ipv4 : (rest : List ℕ) (behind : ℕ) → 4 ≤ length rest → type_at 0 rest ≡ 0x0800 → slice_index rest 3 < 256
    → behind ≡ slice_index rest 2 * 256 + slice_index rest 3 → dscp_of rest ≡ Some (behind / 4 % 64)
unfolding dscp_of
of_ipv4 rest behind long type byte is =
    let short = le-ltb (length rest) 4 long in
    let ipv4 = eq-eqb (type_at 0 rest) 0x0800 type in
    rw (short, ipv4) (ap Some (omega arith))

pub of_ipv6 : (rest : List ℕ) (behind : ℕ) → 4 ≤ length rest → type_at 0 rest ≢ 0x0800 → (type_at 0 rest == 0x0800 || type_at 0 rest == 0x86DD) ≡ true → slice_index rest 3 < 256
    → behind ≡ slice_index rest 2 * 256 + slice_index rest 3 → dscp_of rest ≡ Some (behind / 64 % 64)
unfolding dscp_of
of_ipv6 rest behind long other type byte is =
    let short = le-ltb (length rest) 4 long in
    let ipv4 = ne_eqb (type_at 0 rest) 0x0800 other in
    let ipv6 = rw ipv4 at type in
    rw (short, ipv4, ipv6) (ap Some (omega arith))

pub of_short : (rest : List ℕ) → length rest < 4 → dscp_of rest ≡ None
unfolding dscp_of
of_short rest short = rw (lt-ltb (length rest) 4 short) refl

pub of_others : (rest : List ℕ) → (type_at 0 rest == 0x0800 || type_at 0 rest == 0x86DD) ≡ false → dscp_of rest ≡ None
unfolding dscp_of
of_others rest type = by_case (nat_lt (length rest) 4) (type_at 0 rest == 0x0800) (type_at 0 rest == 0x86DD) type
  where
    by_case : (short ipv4 ipv6 : Bool) → (ipv4 || ipv6) ≡ false
        → (if short then None else (if ipv4 then Some (upper_six (slice_index rest 3)) else (if ipv6 then Some (upper_six (traffic_class rest)) else None))) ≡ None
    by_case true ipv4 ipv6 e = refl
    by_case false true ipv6 e = cc
    by_case false false true e = cc
    by_case false false false e = refl

-- it has six bits
pub six_bits : (rest : List ℕ) → slice_index rest 3 < 256 → IsDscp (dscp_of rest)
unfolding dscp_of
six_bits rest byte = by_case (nat_lt (length rest) 4) (type_at 0 rest == 0x0800) (type_at 0 rest == 0x86DD)
  where
    by_case : (short ipv4 ipv6 : Bool)
        → IsDscp (if short then None else (if ipv4 then Some (upper_six (slice_index rest 3)) else (if ipv6 then Some (upper_six (traffic_class rest)) else None)))
    by_case true ipv4 ipv6 = tt
    by_case false true ipv6 = omega arith
    by_case false false true = omega arith
    by_case false false false = tt
