-- The front of a long block shows what it does, but for the options of an interface.
use Rattle.std.proofs.Common.{◌≡◌, ◌≤◌, ℕ, ◌==◌, ◌⊎◌, inl, inr, true, false, List, ◌++◌, length, take, drop, Option, Some, None, arith, refl, length-append, length-drop}
use Rattle.std.specs.Prelude.{Result, Ok, Err, nat_lt, slice_get}
use Rattle.std.proofs.lemmas.Bool.{cases_Bool, le-ltb, ltb-false}
use Rattle.std.proofs.lemmas.List.{drop-append-le, take-append-le}
use Rattle.bench_pcapng.specs.Blocks.{order_by_mark}
use Rattle.bench_pcapng.specs.Effects.{effect_of}
use Rattle.bench_pcapng.specs.Interfaces.{plain_of}
use Rattle.bench_pcapng.specs.Numbers.{number_in}
use Rattle.bench_pcapng.specs.Packets.{checked_of, enhanced_of, obsolete_of, simple_by, simple_of, stored_of, ticks_of, timed_by, timed_of}
use Rattle.bench_pcapng.specs.Sections.{of_version, section_of}
use Rattle.bench_pcapng.specs.declared.fault.BlockFault.{BlockFault}
use Rattle.bench_pcapng.specs.declared.interface.Interface.{Interface}
use Rattle.bench_pcapng.specs.declared.order.Order.{Order}
use Rattle.bench_pcapng.specs.declared.order.Order.TheVariants.{HighFirst}
use Rattle.bench_pcapng.proofs.Fronts.{number_append, number_behind}

-- ---- packets

stored_more : (interface time original stored : ℕ) (bytes more : List ℕ) → 262144 ≤ length bytes
    → stored_of interface time original stored (bytes ++ more) ≡ stored_of interface time original stored bytes
unfolding stored_of
stored_more interface time original stored bytes more long = by_length (cases_Bool (nat_lt 262144 stored))
  where
    by_length : ((nat_lt 262144 stored ≡ true) ⊎ (nat_lt 262144 stored ≡ false))
        → stored_of interface time original stored (bytes ++ more) ≡ stored_of interface time original stored bytes
    by_length (inl over) = rw over refl
    by_length (inr under) =
        let few : stored ≤ 262144 = ltb-false 262144 stored under in
        let a : nat_lt (length (bytes ++ more)) stored ≡ false = le-ltb (length (bytes ++ more)) stored (simp length-append (omega (arith, few, long))) in
        let b : nat_lt (length bytes) stored ≡ false = le-ltb (length bytes) stored (omega (arith, few, long)) in
        let same : take stored (bytes ++ more) ≡ take stored bytes = take-append-le stored bytes more (omega (arith, few, long)) in
        rw (under, a, b, same) refl

timed_more : (order : Order) (interfaces : List Interface) (number : ℕ) (body more : List ℕ) → 262164 ≤ length body
    → timed_of order interfaces number (body ++ more) ≡ timed_of order interfaces number body
unfolding timed_of
timed_more order interfaces number body more long = by_interface (checked_of (slice_get interfaces number))
  where
    ticks : ticks_of order (body ++ more) ≡ ticks_of order body
    ticks =
        let high = number_behind 4 4 order body more (omega (arith, long)) in
        let low = number_behind 8 4 order body more (omega (arith, long)) in
        rw (high, low) refl

    by_interface : (found : Result Interface BlockFault) → timed_by found order number (body ++ more) ≡ timed_by found order number body
    by_interface (Err fault) = refl
    by_interface (Ok interface) =
        let original = number_behind 16 4 order body more (omega (arith, long)) in
        let stored = number_behind 12 4 order body more (omega (arith, long)) in
        let behind : drop 20 (body ++ more) ≡ drop 20 body ++ more = drop-append-le 20 body more (omega (arith, long)) in
        rw (ticks, original, stored, behind)
        (stored_more number _ _ _ (drop 20 body) more (simp length-drop (omega (arith, long))))

long_enough : (body more : List ℕ) (least : ℕ) → least ≤ 262164 → 262164 ≤ length body → (nat_lt (length (body ++ more)) least ≡ false) × (nat_lt (length body) least ≡ false)
long_enough body more least few long = (
  le-ltb (length (body ++ more)) least (simp length-append (omega (arith, few, long))),
  le-ltb (length body) least (omega (arith, few, long)),
)

enhanced_more : (order : Order) (interfaces : List Interface) (body more : List ℕ) → 262164 ≤ length body
    → enhanced_of order interfaces (body ++ more) ≡ enhanced_of order interfaces body
unfolding enhanced_of
enhanced_more order interfaces body more long =
    let enough = long_enough body more 20 (omega arith) long in
    let number = number_append 4 order body more (omega (arith, long)) in
    rw (enough.0, enough.1, number) (timed_more order interfaces (number_in 4 order body) body more long)

obsolete_more : (order : Order) (interfaces : List Interface) (body more : List ℕ) → 262164 ≤ length body
    → obsolete_of order interfaces (body ++ more) ≡ obsolete_of order interfaces body
unfolding obsolete_of
obsolete_more order interfaces body more long =
    let enough = long_enough body more 20 (omega arith) long in
    let number = number_append 2 order body more (omega (arith, long)) in
    rw (enough.0, enough.1, number) (timed_more order interfaces (number_in 2 order body) body more long)

simple_more : (order : Order) (interfaces : List Interface) (time : ℕ) (body more : List ℕ) → 262164 ≤ length body
    → simple_of order interfaces time (body ++ more) ≡ simple_of order interfaces time body
unfolding simple_of
simple_more order interfaces time body more long =
    let enough = long_enough body more 4 (omega arith) long in
    rw (enough.0, enough.1) (by_interface (checked_of (slice_get interfaces 0)))
  where
    by_interface : (found : Result Interface BlockFault) → simple_by found order time (body ++ more) ≡ simple_by found order time body
    by_interface (Err fault) = refl
    by_interface (Ok interface) =
        let number = number_append 4 order body more (omega (arith, long)) in
        let behind : drop 4 (body ++ more) ≡ drop 4 body ++ more = drop-append-le 4 body more (omega (arith, long)) in
        rw (number, behind) (stored_more 0 time _ _ (drop 4 body) more (simp length-drop (omega (arith, long))))

-- ---- the others

section_more : (body more : List ℕ) → 262164 ≤ length body → section_of (body ++ more) ≡ section_of body
unfolding section_of
section_more body more long =
    let enough = long_enough body more 16 (omega arith) long in
    let mark = number_append 4 HighFirst body more (omega (arith, long)) in
    rw (enough.0, enough.1, mark) (by_order (order_by_mark (number_in 4 HighFirst body)))
  where
    by_order : (found : Option Order) → of_version found (body ++ more) ≡ of_version found body
    by_order None = refl
    by_order (Some order) =
        let version = number_behind 4 2 order body more (omega (arith, long)) in
        rw version refl

-- what a block does that describes no interface
pub effect_shown : (order : Order) (interfaces : List Interface) (time kind : ℕ) (body more : List ℕ) → (kind == 1) ≡ false
    → 262164 ≤ length body → effect_of order interfaces time kind (body ++ more) ≡ effect_of order interfaces time kind body
unfolding effect_of
effect_shown order interfaces time kind body more apart long =
    rw (section_more body more long, apart, enhanced_more order interfaces body more long, simple_more order interfaces time body more long, obsolete_more order interfaces body more long) refl

-- an interface but for its options
pub plain_shown : (order : Order) (body more : List ℕ) → 262164 ≤ length body → plain_of order (body ++ more) ≡ plain_of order body
plain_shown order body more long =
    let link = number_append 2 order body more (omega (arith, long)) in
    let snap = number_behind 4 4 order body more (omega (arith, long)) in
    rw (link, snap) refl
