-- A block that is passed over from its front on does what it does where it is held.
use Rattle.std.proofs.Common.{◌≡◌, ◌≤◌, ◌<◌, ℕ, ◌+◌, ◌-◌, ◌%◌, ◌==◌, Bool, true, false, List, ◌++◌, length, take, drop, Option, Some, None, arith, refl, sym, ap, ◌∙◌, length-append, length-drop, eqb-true, zero-add}
use Rattle.std.specs.Prelude.{IfSome, if◌then◌else◌, ◌||◌, not, Result, Ok, Err, nat_lt}
use Rattle.std.proofs.lemmas.Bool.{le-ltb, ltb-false, ltb-true}
use Rattle.std.proofs.lemmas.List.{drop-append-le, drop-drop, drop-take, length-take-le, take-append-drop, take-append-le, take-take}
use Rattle.bench_pcapng.specs.Blocks.{body_of, kind_of, length_in, order_of_block, whole_length}
use Rattle.bench_pcapng.specs.Captured.{Captured}
use Rattle.bench_pcapng.specs.Effects.{describes, effect_of}
use Rattle.bench_pcapng.specs.Interfaces.{interface_of, options_of, plain_of}
use Rattle.bench_pcapng.specs.Numbers.{number_in}
use Rattle.bench_pcapng.specs.Packets.{data_start}
use Rattle.bench_pcapng.specs.Passing.{DoesAsHeld, begun, body_shown, described_by, ends_with, inside_of, is_shown, kept_of, letting, outcome_in, passed_by, passing_at, passing_in, passing_of, shown_length, step_within, without}
use Rattle.bench_pcapng.specs.Reading.{Place, Progress, after_step, place_at, reading_at, step_by, step_of, with_effect_or_fault}
use Rattle.bench_pcapng.specs.declared.effect.Effect.{Effect}
use Rattle.bench_pcapng.specs.declared.effect.Effect.TheVariants.{Section, Describes, Gives, Nothing}
use Rattle.bench_pcapng.specs.declared.fault.BlockFault.{BlockFault}
use Rattle.bench_pcapng.specs.declared.interface.Interface.{Interface}
use Rattle.bench_pcapng.specs.declared.order.Order.{Order}
use Rattle.bench_pcapng.specs.declared.outcome.Outcome.{Outcome}
use Rattle.bench_pcapng.specs.declared.outcome.Outcome.TheVariants.{Begins, Describing, Keeps, Passes, Refuses}
use Rattle.bench_pcapng.specs.declared.passing.Past.{Past}
use Rattle.bench_pcapng.proofs.Fronts.{number_append, number_behind, order_more, whole_long}
use Rattle.bench_pcapng.proofs.PacketPlaces.{IsBehind, effect_behind, part_behind}
use Rattle.bench_pcapng.proofs.Readings.{reading_step}
use Rattle.bench_pcapng.proofs.Shown.{effect_shown, plain_shown}
use Rattle.bench_pcapng.proofs.Within.{IsWithout, rest_tests, step_by_tests}

or_false : (a b : Bool) → (a || b) ≡ false → (a ≡ false) × (b ≡ false)
or_false true b is = absurd (cc)
or_false false b is = (refl, is)

not_false : (b : Bool) → not b ≡ false → b ≡ true
not_false true is = refl
not_false false is = absurd (cc)

not_true : (b : Bool) → not b ≡ true → b ≡ false
not_true true is = absurd (cc)
not_true false is = refl

if_some : (b : Bool) (found : Option Past) (past : Past) → (if b then found else None) ≡ Some past → (b ≡ true) × (found ≡ Some past)
if_some true found past is = (refl, is)
if_some false found past is = absurd (cc)

else_some : (b : Bool) (found : Option Past) (past : Past) → (if b then None else found) ≡ Some past → (b ≡ false) × (found ≡ Some past)
else_some true found past is = absurd (cc)
else_some false found past is = (refl, is)

-- what is said of a block that is passed over
record IsShown (bytes : List ℕ) (total : ℕ) : Type 0 where
  enough : shown_length ≤ length bytes
  even : (total % 4 == 0) ≡ true
  longer : length bytes < total

shown_is : (bytes : List ℕ) (total : ℕ) → is_shown bytes total ≡ true → IsShown bytes total
shown_is bytes total is =
    let none = not_true _ is in
    let a = or_false (nat_lt (length bytes) shown_length || not (total % 4 == 0)) (not (nat_lt (length bytes) total)) none in
    let b = or_false (nat_lt (length bytes) shown_length) (not (total % 4 == 0)) a.0 in
    record {
      enough = ltb-false (length bytes) shown_length b.0;
      even = not_false _ b.1;
      longer = ltb-true (length bytes) total (not_false _ a.1);
    }

-- the length of a block, by what was read of it
abbrev length_by : ℕ → Bool → Bool → Option ℕ
length_by total short same = if short then None else (if same then Some total else None)

ends_same : (known : Progress) (bytes behind : List ℕ) (does : Result Effect BlockFault)
    → with_effect_or_fault (place_at known bytes) behind does ≡ ends_with false known behind does
ends_same known bytes behind (Err fault) = refl
ends_same known bytes behind (Ok (Section order)) = refl
ends_same known bytes behind (Ok (Describes interface)) = refl
ends_same known bytes behind (Ok (Gives packet)) = refl
ends_same known bytes behind (Ok Nothing) = refl

module _ (known : Progress) (bytes more : List ℕ) (own : Order) (kind total : ℕ) (order_is : order_of_block known.order bytes ≡ Some own)
    (kind_is : kind_of known.order bytes ≡ kind) (total_is : number_in 4 own (drop 4 bytes) ≡ total) (shown : IsShown bytes total) where
  kind_all : kind_of known.order (bytes ++ more) ≡ kind
  kind_all = number_append 4 known.order bytes more (omega (arith, shown.enough)) ∙ kind_is

  total_all : number_in 4 own (drop 4 (bytes ++ more)) ≡ total
  total_all = number_behind 4 4 own bytes more (omega (arith, shown.enough)) ∙ total_is

  order_all : order_of_block known.order (bytes ++ more) ≡ Some own
  order_all = order_more known.order bytes more (omega (arith, shown.enough)) ∙ order_is

  grown : length bytes ≤ length (bytes ++ more)
  grown = omega (arith, length-append bytes more)

  whole_by : whole_length known.order (bytes ++ more) ≡ length_by total (nat_lt (length (bytes ++ more)) total) (number_in 4 own (drop (total - 4) (bytes ++ more)) == total)
  whole_by =
      let least : nat_lt total 12 ≡ false = le-ltb total 12 (omega (arith, shown.enough, shown.longer)) in
      whole_long known.order (bytes ++ more) (omega (arith, shown.enough, grown))
      ∙ ap (λ (order : Option Order). length_in order (bytes ++ more)) order_all
      ∙ rw (total_all, least, shown.even) refl

  -- the body begins with what is shown of it
  body_all : (rest : List ℕ) × (body_of total (bytes ++ more) ≡ body_shown bytes ++ rest)
  body_all =
      let whole = body_of total (bytes ++ more) in
      let front : take 262164 whole ≡ body_shown bytes =
      take-take 262164 (total - 12) (drop 8 (bytes ++ more)) (omega (arith, shown.enough, shown.longer))
      ∙ ap (take 262164) (drop-append-le 8 bytes more (omega (arith, shown.enough)))
      ∙ take-append-le 262164 (drop 8 bytes) more (simp length-drop (omega (arith, shown.enough))) in
      (drop 262164 whole, sym (take-append-drop 262164 whole) ∙ ap (λ (front_is : List ℕ). front_is ++ drop 262164 whole) front)

  shown_size : length (body_shown bytes) ≡ 262164
  shown_size = length-take-le 262164 (drop 8 bytes) (simp length-drop (omega (arith, shown.enough)))

  does_all : (kind == 1) ≡ false → effect_of known.order known.interfaces known.time kind (body_of total (bytes ++ more))
      ≡ effect_of known.order known.interfaces known.time kind (body_shown bytes)
  does_all apart =
      ap (effect_of known.order known.interfaces known.time kind) body_all.1
      ∙ effect_shown known.order known.interfaces known.time kind (body_shown bytes) body_all.0 apart (omega (arith, shown_size))

  -- the step by the tests of all bytes
  step_tests : step_of (place_at known (bytes ++ more)) ≡ step_by_tests false known (nat_lt (length (bytes ++ more)) total)
      (number_in 4 own (drop (total - 4) (bytes ++ more)) == total) (drop total (bytes ++ more))
      (effect_of known.order known.interfaces known.time kind (body_of total (bytes ++ more)))
  unfolding step_of
  step_tests =
      ap (λ (found : Option ℕ). step_by (place_at known (bytes ++ more)) found) whole_by
      ∙ by_tests (nat_lt (length (bytes ++ more)) total) (number_in 4 own (drop (total - 4) (bytes ++ more)) == total)
    where
      by_tests : (short same : Bool) → step_by (place_at known (bytes ++ more)) (length_by total short same)
          ≡ step_by_tests false known short same (drop total (bytes ++ more)) (effect_of known.order known.interfaces known.time kind (body_of total (bytes ++ more)))
      by_tests true same = refl
      by_tests false false = refl
      by_tests false true = rw kind_all (ends_same known (bytes ++ more) (drop total (bytes ++ more)) _)

  -- where the outcome is what the block does, it goes on behind so many bytes
  goes_on : (skip : ℕ) (outcome : Outcome) → skip ≤ length bytes → kept_of outcome + skip + 4 ≤ total
      → effect_of known.order known.interfaces known.time kind (body_of total (bytes ++ more)) ≡ outcome_in own outcome (take (total - 4 - skip) (drop skip (bytes ++ more)))
      → step_of (place_at known (bytes ++ more))
      ≡ step_within known (letting 0 skip (begun own total outcome)).left (without (letting 0 skip (begun own total outcome)) bytes ++ more)
  goes_on skip outcome within fits same =
      let past = letting 0 skip (begun own total outcome) in
      let all = bytes ++ more in
      let rest = without past bytes ++ more in
      let is_rest : rest ≡ drop skip all =
      ap (λ (n : ℕ). drop n bytes ++ more) (zero-add skip) ∙ sym (drop-append-le skip bytes more within) in
      let inside : inside_of past.left ≡ total - 4 - skip = omega (arith, fits) in
      let smaller : IsWithout all rest skip (inside_of past.left) = record {
        size = omega (arith, ap length is_rest, length-drop skip all, within, grown);
        behind = λ n least. ap (λ (m : ℕ). drop m all) (let a : n + skip ≡ skip + n = omega arith in a) ∙ sym (drop-drop n skip all) ∙ ap (drop n) (sym is_rest);
      } in
      let before : inside_of past.left + skip ≡ total - 4 = omega (arith, fits) in
      step_tests
      ∙ ap (λ (n : ℕ). step_by_tests false known (nat_lt (length all) n) (number_in 4 own (drop (total - 4) all) == total) (drop n all) (effect_of known.order known.interfaces known.time kind (body_of total all)))
      (let a : total ≡ total - 4 + 4 = omega (arith, fits) in a)
      ∙ ap (λ (e : Result Effect BlockFault). step_by_tests false known (nat_lt (length all) (total - 4 + 4)) (number_in 4 own (drop (total - 4) all) == total) (drop (total - 4 + 4) all) e)
      (same ∙ ap (λ (left : List ℕ). outcome_in own outcome left)
      (ap (λ (n : ℕ). take n (drop skip all)) (sym inside) ∙ ap (take (inside_of past.left)) (sym is_rest)))
      ∙ sym (rest_tests known past.left all rest skip (total - 4) smaller before)

  abbrev outcome_by : Captured → Outcome
  outcome_by packet = Keeps (record { interface = packet.interface; time = packet.time; original = packet.original; length = length packet.bytes })

  abbrev kept_by : Captured → Past
  kept_by packet = letting 0 (data_start kind) (begun own total (outcome_by packet))

  -- a packet's bytes are the first behind what stands in front of them
  keeps : (packet : Captured) → effect_of known.order known.interfaces known.time kind (body_shown bytes) ≡ Ok (Gives packet) → (kind == 1) ≡ false
      → step_of (place_at known (bytes ++ more)) ≡ step_within known (kept_by packet).left (without (kept_by packet) bytes ++ more)
  keeps packet is apart =
      let skip = data_start kind in
      let all = bytes ++ more in
      let count = length packet.bytes in
      let sizes = start_size kind in
      let shows : IsBehind (skip - 8) (body_shown bytes) packet = effect_behind known.order known.interfaces known.time kind (body_shown bytes) packet is in
      let does : effect_of known.order known.interfaces known.time kind (body_of total all) ≡ Ok (Gives packet) = does_all apart ∙ is in
      let behind : IsBehind (skip - 8) (body_of total all) packet = effect_behind known.order known.interfaces known.time kind (body_of total all) packet does in
      let fits : skip - 8 + count ≤ 262164 = omega (arith, shows.within, shown_size) in
      let joined : drop (skip - 8) (drop 8 all) ≡ drop skip all =
      drop-drop (skip - 8) 8 all ∙ ap (λ (n : ℕ). drop n all) (let a : 8 + (skip - 8) ≡ skip = omega (arith, sizes.0) in a) in
      let stored : packet.bytes ≡ take count (take (total - 4 - skip) (drop skip all)) =
      behind.stored ∙ part_behind (skip - 8) (total - 12) count (drop 8 all) (omega (arith, fits, shown.enough, shown.longer))
      ∙ ap (take count) joined ∙ sym (take-take count (total - 4 - skip) (drop skip all) (omega (arith, fits, sizes.0, shown.enough, shown.longer))) in
      goes_on skip (outcome_by packet) (omega (arith, sizes.1, shown.enough)) (omega (arith, fits, sizes.0, shown.enough, shown.longer))
      (does ∙ ap (λ (part : List ℕ). Ok (Gives (record packet { bytes = part }))) stored)
    where
      start_size : (n : ℕ) → (8 ≤ data_start n) × (data_start n ≤ 28)
      start_size n = elim (n == 3) as (λ b. (8 ≤ (if b then 12 else 28)) × ((if b then 12 else 28) ≤ 28)) [ true ↦ (omega arith, omega arith) | false ↦ (omega arith, omega arith) ]

  -- what a block that describes no interface does
  passed : (past : Past) (found : Result Effect BlockFault) → effect_of known.order known.interfaces known.time kind (body_shown bytes) ≡ found → (kind == 1) ≡ false
      → passed_by own total kind found ≡ Some past → step_of (place_at known (bytes ++ more)) ≡ step_within known past.left (without past bytes ++ more)
  passed past (Err fault) does_it apart is =
      let same : letting 0 0 (begun own total (Refuses fault)) ≡ past = cc in
      rw (← same) (goes_on 0 (Refuses fault) (omega arith) (omega (arith, shown.enough, shown.longer)) (does_all apart ∙ does_it))
  passed past (Ok Nothing) does_it apart is =
      let same : letting 0 0 (begun own total Passes) ≡ past = cc in
      rw (← same) (goes_on 0 Passes (omega arith) (omega (arith, shown.enough, shown.longer)) (does_all apart ∙ does_it))
  passed past (Ok (Section order)) does_it apart is =
      let same : letting 0 0 (begun own total (Begins order)) ≡ past = cc in
      rw (← same) (goes_on 0 (Begins order) (omega arith) (omega (arith, shown.enough, shown.longer)) (does_all apart ∙ does_it))
  passed past (Ok (Describes interface)) does_it apart is = absurd (cc)
  passed past (Ok (Gives packet)) does_it apart is =
      let same : kept_by packet ≡ past = cc in
      rw (← same) (keeps packet does_it apart)

  -- one that describes an interface
  own_is : kind ≡ 1 → known.order ≡ own
  unfolding order_of_block
  own_is one =
      let found : Some known.order ≡ Some own = rw (kind_is ∙ one) at order_is in
      cc

  options_all : drop 8 (body_of total (bytes ++ more)) ≡ take (total - 4 - 16) (drop 16 (bytes ++ more))
  options_all =
      let all = bytes ++ more in
      ap (λ (n : ℕ). drop 8 (take n (drop 8 all))) (let a : total - 12 ≡ 8 + (total - 4 - 16) = omega (arith, shown.enough, shown.longer) in a)
      ∙ drop-take 8 (total - 4 - 16) (drop 8 all)
      ∙ ap (take (total - 4 - 16)) (drop-drop 8 8 all)

  interface_all : (order : Order) → interface_of order (body_of total (bytes ++ more)) ≡ options_of order (plain_of order (body_shown bytes)) (take (total - 4 - 16) (drop 16 (bytes ++ more)))
  unfolding interface_of
  interface_all order =
      let long : nat_lt (length (body_of total (bytes ++ more))) 8 ≡ false =
      le-ltb _ 8 (omega (arith, ap length body_all.1, length-append (body_shown bytes) body_all.0, shown_size)) in
      let plain : plain_of order (body_of total (bytes ++ more)) ≡ plain_of order (body_shown bytes) =
      ap (plain_of order) body_all.1 ∙ plain_shown order (body_shown bytes) body_all.0 (omega (arith, shown_size)) in
      rw (long, plain, options_all) refl

  described : (past : Past) → (kind == 1) ≡ true → described_by own total (body_shown bytes) ≡ past
      → step_of (place_at known (bytes ++ more)) ≡ step_within known past.left (without past bytes ++ more)
  unfolding effect_of
  described past one is =
      let first : kind ≡ 1 = eqb-true kind 1 one in
      let does : effect_of known.order known.interfaces known.time kind (body_of total (bytes ++ more))
      ≡ describes (options_of own (plain_of own (body_shown bytes)) (take (total - 4 - 16) (drop 16 (bytes ++ more)))) =
      ap (λ (n : ℕ). effect_of known.order known.interfaces known.time n (body_of total (bytes ++ more))) first
      ∙ ap (λ (order : Order). describes (interface_of order (body_of total (bytes ++ more)))) (own_is first)
      ∙ ap (λ (found : Option Interface). describes found) (interface_all own) in
      rw (← is) (goes_on 16 (Describing (plain_of own (body_shown bytes))) (omega (arith, shown.enough)) (omega (arith, shown.enough, shown.longer)) does)

-- a block that is passed over is what it is
pub passed_over : (known : Progress) (bytes more : List ℕ) (past : Past) → passing_of known bytes ≡ Some past
    → step_of (place_at known (bytes ++ more)) ≡ step_within known past.left (without past bytes ++ more)
unfolding passing_of
passed_over known bytes more past is =
    by_order (order_of_block known.order bytes) refl (else_some (nat_lt (length bytes) shown_length) _ past is).1
  where
    by_kind : (own : Order) (interface : Bool) → order_of_block known.order bytes ≡ Some own → IsShown bytes (number_in 4 own (drop 4 bytes)) → (kind_of known.order bytes == 1) ≡ interface
        → (if interface then Some (described_by own (number_in 4 own (drop 4 bytes)) (body_shown bytes))
        else passed_by own (number_in 4 own (drop 4 bytes)) (kind_of known.order bytes) (effect_of known.order known.interfaces known.time (kind_of known.order bytes) (body_shown bytes))) ≡ Some past
        → step_of (place_at known (bytes ++ more)) ≡ step_within known past.left (without past bytes ++ more)
    by_kind own true ordered shown one same =
        let found : described_by own (number_in 4 own (drop 4 bytes)) (body_shown bytes) ≡ past = cc in
        described known bytes more own (kind_of known.order bytes) (number_in 4 own (drop 4 bytes)) ordered refl refl shown past one found
    by_kind own false ordered shown apart same =
        passed known bytes more own (kind_of known.order bytes) (number_in 4 own (drop 4 bytes)) ordered refl refl shown past _ refl apart same

    by_order : (found : Option Order) → order_of_block known.order bytes ≡ found → passing_in known bytes found ≡ Some past
        → step_of (place_at known (bytes ++ more)) ≡ step_within known past.left (without past bytes ++ more)
    by_order None ordered same = absurd (cc)
    by_order (Some own) ordered same =
        let tested = if_some (is_shown bytes (number_in 4 own (drop 4 bytes))) _ past same in
        by_kind own (kind_of known.order bytes == 1) ordered (shown_is bytes (number_in 4 own (drop 4 bytes)) tested.0) refl tested.1

pub does_as_held : (known : Progress) (bytes : List ℕ) (found : Option Past) → found ≡ passing_of known bytes → IfSome found (λ past. DoesAsHeld known bytes past)
does_as_held known bytes None is = tt
does_as_held known bytes (Some past) is = λ more. passed_over known bytes more past (sym is)

-- so is all that there is to be read, and what is let go is a part of what is held
pub passed_long : (known : Progress) (bytes : List ℕ) (past : Past) → passing_of known bytes ≡ Some past → shown_length ≤ length bytes
unfolding passing_of
passed_long known bytes past is = ltb-false _ _ (else_some (nat_lt (length bytes) shown_length) _ past is).0

pub passed_reads : (known : Progress) (bytes more : List ℕ) (past : Past) → passing_of known bytes ≡ Some past
    → reading_at (place_at known (bytes ++ more)) ≡ passing_at known past.left (without past bytes ++ more)
passed_reads known bytes more past is =
    reading_step (place_at known (bytes ++ more)) (λ none. omega (arith, none, length-append bytes more, passed_long known bytes past is))
    ∙ ap (after_step (λ (next : Place). reading_at next)) (passed_over known bytes more past is)

pub passed_within : (known : Progress) (bytes : List ℕ) (past : Past) → passing_of known bytes ≡ Some past → past.start + past.length ≤ length bytes
unfolding passing_of
passed_within known bytes past is =
    let tested = else_some (nat_lt (length bytes) shown_length) _ past is in
    by_order (ltb-false _ _ tested.0) (order_of_block known.order bytes) tested.1
  where
    start_most : (n : ℕ) → data_start n ≤ 28
    start_most n = elim (n == 3) as (λ b. (if b then 12 else 28) ≤ 28) [ true ↦ omega arith | false ↦ omega arith ]

    by_effect : shown_length ≤ length bytes → (own : Order) (kind total : ℕ) (found : Result Effect BlockFault) → passed_by own total kind found ≡ Some past → past.start + past.length ≤ length bytes
    by_effect long own kind total (Err fault) same =
        let made : letting 0 0 (begun own total (Refuses fault)) ≡ past = cc in
        rw (← made) (omega arith)
    by_effect long own kind total (Ok Nothing) same =
        let made : letting 0 0 (begun own total Passes) ≡ past = cc in
        rw (← made) (omega arith)
    by_effect long own kind total (Ok (Section order)) same =
        let made : letting 0 0 (begun own total (Begins order)) ≡ past = cc in
        rw (← made) (omega arith)
    by_effect long own kind total (Ok (Describes interface)) same = absurd (cc)
    by_effect long own kind total (Ok (Gives packet)) same =
        let made : letting 0 (data_start kind) (begun own total (Keeps (record { interface = packet.interface; time = packet.time; original = packet.original; length = length packet.bytes }))) ≡ past = cc in
        rw (← made) (omega (arith, long, start_most kind))

    by_kind : shown_length ≤ length bytes → (own : Order) (total : ℕ) (interface : Bool)
        → (if interface then Some (described_by own total (body_shown bytes))
        else passed_by own total (kind_of known.order bytes) (effect_of known.order known.interfaces known.time (kind_of known.order bytes) (body_shown bytes))) ≡ Some past
        → past.start + past.length ≤ length bytes
    by_kind long own total true same =
        let made : described_by own total (body_shown bytes) ≡ past = cc in
        rw (← made) (omega (arith, long))
    by_kind long own total false same = by_effect long own (kind_of known.order bytes) total _ same

    by_order : shown_length ≤ length bytes → (found : Option Order) → passing_in known bytes found ≡ Some past → past.start + past.length ≤ length bytes
    by_order long None same = absurd (cc)
    by_order long (Some own) same =
        let tested = if_some (is_shown bytes (number_in 4 own (drop 4 bytes))) _ past same in
        by_kind long own (number_in 4 own (drop 4 bytes)) (kind_of known.order bytes == 1) tested.1
