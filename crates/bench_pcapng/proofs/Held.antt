-- How many bytes of a block are held at most.
use Rattle.std.proofs.Common.{◌≡◌, ◌≤◌, ◌<◌, ℕ, ◌+◌, ◌-◌, ◌%◌, ◌==◌, ◌⊎◌, inl, inr, Bool, true, false, List, length, take, drop, Option, Some, None, arith, refl, sym, ap, ◌∙◌, length-take}
use Rattle.std.specs.Prelude.{if◌then◌else◌, ◌||◌, min, not, Result, Ok, Err, nat_lt}
use Rattle.std.proofs.lemmas.Bool.{cases_Bool, cases_lt, eqb-true, le-ltb, lt-ltb}
use Rattle.bench_pcapng.specs.Blocks.{kind_of, order_of_block, section_kind, wanted_in, wanted_length}
use Rattle.bench_pcapng.specs.Captured.{Captured}
use Rattle.bench_pcapng.specs.Effects.{begins, describes, effect_of, gives}
use Rattle.bench_pcapng.specs.Interfaces.{first_option, interface_of, option_length, padded}
use Rattle.bench_pcapng.specs.Numbers.{number_in}
use Rattle.bench_pcapng.specs.Packets.{data_start, enhanced_of, obsolete_of, simple_of}
use Rattle.bench_pcapng.specs.Passing.{IsHeldOf, begun, body_shown, described_by, inside_of, is_shown, kept_of, letting, letting_all, letting_by, letting_of, letting_option, option_outcome, passed_by, passing_by, passing_in, passing_of, shown_length}
use Rattle.bench_pcapng.specs.Reading.{Progress}
use Rattle.bench_pcapng.specs.Sections.{section_of}
use Rattle.bench_pcapng.specs.declared.effect.Effect.{Effect}
use Rattle.bench_pcapng.specs.declared.effect.Effect.TheVariants as effects
use Rattle.bench_pcapng.specs.declared.fault.BlockFault.{BlockFault}
use Rattle.bench_pcapng.specs.declared.interface.Interface.{Interface}
use Rattle.bench_pcapng.specs.declared.order.Order.{Order}
use Rattle.bench_pcapng.specs.declared.outcome.Outcome.{Outcome}
use Rattle.bench_pcapng.specs.declared.outcome.Outcome.TheVariants.{Begins, Describing, Described, Keeps, Passes, Refuses}
use Rattle.bench_pcapng.specs.declared.passing.Passing.{Passing}
use Rattle.bench_pcapng.specs.declared.passing.Past.{Past}
use Rattle.bench_pcapng.proofs.PacketPlaces.{IsBehind, effect_behind}

else_some : (b : Bool) (found : Option Past) (past : Past) → (if b then None else found) ≡ Some past → (b ≡ false) × (found ≡ Some past)
else_some true found past is = absurd (cc)
else_some false found past is = (refl, is)

if_some : (b : Bool) (found : Option Past) (past : Past) → (if b then found else None) ≡ Some past → (b ≡ true) × (found ≡ Some past)
if_some true found past is = (refl, is)
if_some false found past is = absurd (cc)

-- ---- how many bytes are kept

by_effect : (known : Progress) (bytes : List ℕ) (own : Order) (kind total : ℕ) (past : Past) (found : Result Effect BlockFault)
    → effect_of known.order known.interfaces known.time kind (body_shown bytes) ≡ found → passed_by own total kind found ≡ Some past → kept_of past.left.outcome ≤ 262164
by_effect known bytes own kind total past (Err fault) does same =
    let made : letting 0 0 (begun own total (Refuses fault)) ≡ past = cc in
    rw (← made) (omega arith)
by_effect known bytes own kind total past (Ok effects.Nothing) does same =
    let made : letting 0 0 (begun own total Passes) ≡ past = cc in
    rw (← made) (omega arith)
by_effect known bytes own kind total past (Ok (effects.Section order)) does same =
    let made : letting 0 0 (begun own total (Begins order)) ≡ past = cc in
    rw (← made) (omega arith)
by_effect known bytes own kind total past (Ok (effects.Describes interface)) does same = absurd (cc)
by_effect known bytes own kind total past (Ok (effects.Gives packet)) does same =
    let made : letting 0 (data_start kind) (begun own total (Keeps (record { interface = packet.interface; time = packet.time; original = packet.original; length = length packet.bytes }))) ≡ past = cc in
    let behind : IsBehind (data_start kind - 8) (body_shown bytes) packet = effect_behind known.order known.interfaces known.time kind (body_shown bytes) packet does in
    let most : length (body_shown bytes) ≤ 262164 = omega (arith, length-take 262164 (drop 8 bytes)) in
    rw (← made) (omega (arith, behind.within, most))

-- no more than shows what the block does
pub passed_kept : (known : Progress) (bytes : List ℕ) (past : Past) → passing_of known bytes ≡ Some past → kept_of past.left.outcome ≤ 262164
unfolding passing_of
passed_kept known bytes past is = by_order (order_of_block known.order bytes) (else_some (nat_lt (length bytes) shown_length) _ past is).1
  where
    by_kind : (own : Order) (total : ℕ) (interface : Bool)
        → (if interface then Some (described_by own total (body_shown bytes))
        else passed_by own total (kind_of known.order bytes) (effect_of known.order known.interfaces known.time (kind_of known.order bytes) (body_shown bytes))) ≡ Some past
        → kept_of past.left.outcome ≤ 262164
    by_kind own total true same =
        let made : described_by own total (body_shown bytes) ≡ past = cc in
        rw (← made) (omega arith)
    by_kind own total false same = by_effect known bytes own (kind_of known.order bytes) total past _ refl same

    by_order : (found : Option Order) → passing_in known bytes found ≡ Some past → kept_of past.left.outcome ≤ 262164
    by_order None same = absurd (cc)
    by_order (Some own) same =
        by_kind own (number_in 4 own (drop 4 bytes)) (kind_of known.order bytes == 1) (if_some (is_shown bytes (number_in 4 own (drop 4 bytes))) _ past same).1

-- and no more from then on
pub let_kept : (passing : Passing) (bytes : List ℕ) (past : Past) → letting_of passing bytes ≡ Some past → kept_of past.left.outcome ≤ kept_of passing.outcome
unfolding letting_of
let_kept passing bytes past is = by_outcome passing.outcome is
  where
    all_kept : letting_all passing bytes ≡ Some past → kept_of past.left.outcome ≤ kept_of passing.outcome
    all_kept same =
        let count = min passing.left (length bytes - kept_of passing.outcome) in
        let found : letting (kept_of passing.outcome) count passing ≡ past = cc ((else_some (count == 0) _ past same).1) in
        rw (← found) (omega arith)

    none_kept : (found : Option Interface) → kept_of (option_outcome found) ≡ 0
    none_kept None = refl
    none_kept (Some interface) = refl

    option_kept : (plain : Interface) (held : List ℕ) → letting_option passing plain held ≡ Some past → kept_of past.left.outcome ≤ kept_of passing.outcome
    option_kept plain held same = by_end (number_in 2 passing.order held == 0) (else_some (nat_lt (length held) 4) _ past same).1
      where
        by_end : (ends : Bool) → (if ends then Some (letting 0 4 (record passing { outcome = Described plain }))
            else (if nat_lt (length (drop 4 held)) (padded (option_length passing.order held)) then None
            else Some (letting 0 (4 + padded (option_length passing.order held)) (record passing { outcome = option_outcome (first_option passing.order plain held) })))) ≡ Some past
            → kept_of past.left.outcome ≤ kept_of passing.outcome
        by_end true again =
            let found : letting 0 4 (record passing { outcome = Described plain }) ≡ past = cc in
            rw (← found) (omega arith)
        by_end false again =
            let tested = else_some (nat_lt (length (drop 4 held)) (padded (option_length passing.order held))) _ past again in
            let found : letting 0 (4 + padded (option_length passing.order held)) (record passing { outcome = option_outcome (first_option passing.order plain held) }) ≡ past = cc (tested.1) in
            rw (← found) (omega (arith, none_kept (first_option passing.order plain held)))

    by_outcome : (outcome : Outcome) → letting_by passing outcome bytes ≡ Some past → kept_of past.left.outcome ≤ kept_of passing.outcome
    by_outcome (Begins own) same = all_kept same
    by_outcome (Describing plain) same = option_kept plain (take passing.left bytes) same
    by_outcome (Described interface) same = all_kept same
    by_outcome (Keeps packet) same = all_kept same
    by_outcome Passes same = all_kept same
    by_outcome (Refuses fault) same = all_kept same

-- ---- where none is let go

pub all_held : (passing : Passing) (bytes : List ℕ) → kept_of passing.outcome ≤ 262164 → letting_all passing bytes ≡ None → IsHeldOf passing bytes
all_held passing bytes few is = by_count (cases_Bool (min passing.left (length bytes - kept_of passing.outcome) == 0)) (cases_lt (length bytes) (inside_of passing + 4))
  where
    by_count : ((min passing.left (length bytes - kept_of passing.outcome) == 0) ≡ true) ⊎ ((min passing.left (length bytes - kept_of passing.outcome) == 0) ≡ false)
        → (length bytes < inside_of passing + 4) ⊎ (inside_of passing + 4 ≤ length bytes) → IsHeldOf passing bytes
    by_count one (inr long) = inl long
    by_count (inl none) (inl short) =
        let zero_is : min passing.left (length bytes - kept_of passing.outcome) ≡ 0 = eqb-true _ 0 none in
        inr (omega (arith, zero_is, short, few))
    by_count (inr some) (inl short) =
        let same : Some (letting (kept_of passing.outcome) (min passing.left (length bytes - kept_of passing.outcome)) passing) ≡ None = rw some at is in
        absurd (cc)

-- a block of another type describes no interface
not_described : (found : Result Captured BlockFault) (interface : Interface) → gives found ≡ Ok (effects.Describes interface) → ⊥
not_described (Err fault) interface is = cc
not_described (Ok packet) interface is = cc

not_begun : (found : Option Order) (interface : Interface) → begins found ≡ Ok (effects.Describes interface) → ⊥
not_begun None interface is = cc
not_begun (Some order) interface is = cc

other_kind : (order : Order) (interfaces : List Interface) (time kind : ℕ) (body : List ℕ) (interface : Interface) → (kind == 1) ≡ false
    → effect_of order interfaces time kind body ≡ Ok (effects.Describes interface) → ⊥
unfolding effect_of
other_kind order interfaces time kind body interface apart is =
    by_section (kind == section_kind) (kind == 1) (kind == 6) (kind == 3) (kind == 2) apart is
  where
    by_section : (section one enhanced simple obsolete : Bool) → one ≡ false
        → (if section then begins (section_of body) else (if one then describes (interface_of order body)
        else (if enhanced then gives (enhanced_of order interfaces body) else (if simple then gives (simple_of order interfaces time body)
        else (if obsolete then gives (obsolete_of order interfaces body) else Ok effects.Nothing))))) ≡ Ok (effects.Describes interface) → ⊥
    by_section true one enhanced simple obsolete apart same = not_begun (section_of body) interface same
    by_section false true enhanced simple obsolete apart same = cc
    by_section false false true simple obsolete apart same = not_described (enhanced_of order interfaces body) interface same
    by_section false false false true obsolete apart same = not_described (simple_of order interfaces time body) interface same
    by_section false false false false true apart same = not_described (obsolete_of order interfaces body) interface same
    by_section false false false false false apart same = cc

passed_none : (known : Progress) (own : Order) (kind total : ℕ) (body : List ℕ) → (kind == 1) ≡ false
    → (found : Result Effect BlockFault) → effect_of known.order known.interfaces known.time kind body ≡ found → passed_by own total kind found ≡ None → ⊥
passed_none known own kind total body apart (Err fault) does is = cc
passed_none known own kind total body apart (Ok effects.Nothing) does is = cc
passed_none known own kind total body apart (Ok (effects.Section order)) does is = cc
passed_none known own kind total body apart (Ok (effects.Describes interface)) does is = other_kind known.order known.interfaces known.time kind body interface apart does
passed_none known own kind total body apart (Ok (effects.Gives packet)) does is = cc

-- a block isn't passed over where few of its bytes are held, or enough of them
pub passed_held : (known : Progress) (bytes : List ℕ) → passing_of known bytes ≡ None → (wanted_length known.order bytes ≤ length bytes) ⊎ (length bytes < shown_length)
unfolding passing_of wanted_length
passed_held known bytes is = by_length (cases_lt (length bytes) shown_length)
  where
    by_wanted : (own : Order) → shown_length ≤ length bytes → passing_by known bytes own (kind_of known.order bytes) (number_in 4 own (drop 4 bytes)) ≡ None
        → wanted_in (Some own) bytes ≤ length bytes
    by_wanted own long same = by_tests (cases_Bool (number_in 4 own (drop 4 bytes) % 4 == 0)) (cases_lt (length bytes) (number_in 4 own (drop 4 bytes)))
      where
        by_kind : (interface : Bool) → (kind_of known.order bytes == 1) ≡ interface
            → (if interface then Some (described_by own (number_in 4 own (drop 4 bytes)) (body_shown bytes))
            else passed_by own (number_in 4 own (drop 4 bytes)) (kind_of known.order bytes) (effect_of known.order known.interfaces known.time (kind_of known.order bytes) (body_shown bytes))) ≡ None → ⊥
        by_kind true one found = cc
        by_kind false apart found = passed_none known own (kind_of known.order bytes) (number_in 4 own (drop 4 bytes)) (body_shown bytes) apart _ refl found

        by_tests : ((number_in 4 own (drop 4 bytes) % 4 == 0) ≡ true) ⊎ ((number_in 4 own (drop 4 bytes) % 4 == 0) ≡ false)
            → (length bytes < number_in 4 own (drop 4 bytes)) ⊎ (number_in 4 own (drop 4 bytes) ≤ length bytes) → wanted_in (Some own) bytes ≤ length bytes
        by_tests (inr odd) one = rw odd (omega (arith, long))
        by_tests (inl even) (inr fits) = rw even fits
        by_tests (inl even) (inl longer) =
            let a : nat_lt (length bytes) shown_length ≡ false = le-ltb _ _ long in
            let b : nat_lt (length bytes) (number_in 4 own (drop 4 bytes)) ≡ true = lt-ltb _ _ longer in
            let shown : is_shown bytes (number_in 4 own (drop 4 bytes)) ≡ true =
            ap (λ (short : Bool). not (short || not (number_in 4 own (drop 4 bytes) % 4 == 0) || not (nat_lt (length bytes) (number_in 4 own (drop 4 bytes))))) a
            ∙ ap (λ (same_is : Bool). not (false || not same_is || not (nat_lt (length bytes) (number_in 4 own (drop 4 bytes))))) even
            ∙ ap (λ (beyond : Bool). not (false || not true || not beyond)) b in
            absurd (by_kind (kind_of known.order bytes == 1) refl
            (sym (ap (λ (test : Bool). if test then (if kind_of known.order bytes == 1 then Some (described_by own (number_in 4 own (drop 4 bytes)) (body_shown bytes))
            else passed_by own (number_in 4 own (drop 4 bytes)) (kind_of known.order bytes) (effect_of known.order known.interfaces known.time (kind_of known.order bytes) (body_shown bytes))) else None) shown)
            ∙ same))

    by_order : (found : Option Order) → shown_length ≤ length bytes → passing_in known bytes found ≡ None → wanted_in found bytes ≤ length bytes
    by_order None long same = omega (arith, long)
    by_order (Some own) long same = by_wanted own long same

    by_length : (length bytes < shown_length) ⊎ (shown_length ≤ length bytes)
        → ((if nat_lt (length bytes) 12 then 12 else wanted_in (order_of_block known.order bytes) bytes) ≤ length bytes) ⊎ (length bytes < shown_length)
    by_length (inl short) = inr short
    by_length (inr long) =
        let a : nat_lt (length bytes) 12 ≡ false = le-ltb _ 12 (omega (arith, long)) in
        let b : nat_lt (length bytes) shown_length ≡ false = le-ltb _ _ long in
        let found : passing_in known bytes (order_of_block known.order bytes) ≡ None =
        sym (ap (λ (short : Bool). if short then None else passing_in known bytes (order_of_block known.order bytes)) b) ∙ is in
        inl (rw a (by_order (order_of_block known.order bytes) long found))
