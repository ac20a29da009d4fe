-- The walk over the blocks, one at a time.
use Rattle.std.proofs.Common.{◌≡◌, ◌≤◌, ◌<◌, ℕ, zero, suc, ◌+◌, ◌-◌, ◌%◌, ◌==◌, Bool, true, false, List, length, drop, Option, Some, None, arith, refl, sym, ap, ◌∙◌, eq-eqb, length-drop}
use Rattle.std.specs.Prelude.{if◌then◌else◌, ◌||◌, not, Result, Ok, Err, nat_lt}
use Rattle.std.proofs.lemmas.Bool.{ltb-false, ne_eqb}
use Rattle.bench_pcapng.specs.Blocks.{body_of, kind_of, length_in, order_of_block, whole_length}
use Rattle.bench_pcapng.specs.Captured.{Captured}
use Rattle.bench_pcapng.specs.Effects.{effect_of}
use Rattle.bench_pcapng.specs.Numbers.{number_in}
use Rattle.bench_pcapng.specs.Reading.{Place, Reading, Step, Passes, Yields, Fails, after_step, nothing_left, reading_at, reading_from, step_by, step_of, stopped, with_effect, with_effect_or_fault, with_packet}
use Rattle.bench_pcapng.specs.Walks.{IsNext, IsStepped}
use Rattle.bench_pcapng.specs.declared.effect.Effect.{Effect}
use Rattle.bench_pcapng.specs.declared.effect.Effect.TheVariants.{Section, Describes, Gives, Nothing}
use Rattle.bench_pcapng.specs.declared.fault.BlockFault.{BlockFault}
use Rattle.bench_pcapng.specs.declared.fault.PcapngFault.{PcapngFault}
use Rattle.bench_pcapng.specs.declared.fault.PcapngFault.TheVariants.{Header, Link, Torn, TooLong, NoMemory}
use Rattle.bench_pcapng.specs.declared.order.Order.{Order}

-- ---- the length of a block

or_false : (a b : Bool) → (a || b) ≡ false → (a ≡ false) × (b ≡ false)
or_false true b is = absurd (cc)
or_false false b is = (refl, is)

not_none : {A : Type 0} (b : Bool) (x : A) (more : Option A) → (if b then None else more) ≡ Some x → (b ≡ false) × (more ≡ Some x)
not_none true x more is = absurd (cc)
not_none false x more is = (refl, is)

some_is : (b : Bool) (x y : ℕ) → (if b then Some x else None) ≡ Some y → x ≡ y
some_is true x y is = cc
some_is false x y is = absurd (cc)

-- what is said of the length of a whole block
pub record IsLength (bytes : List ℕ) (total : ℕ) : Type 0 where
  pub least : 12 ≤ total
  pub within : total ≤ length bytes

length_is : (found : Option Order) (bytes : List ℕ) (total : ℕ) → length_in found bytes ≡ Some total → IsLength bytes total
length_is None bytes total is = absurd (cc)
length_is (Some order) bytes total is =
    let own = number_in 4 order (drop 4 bytes) in
    let odd = not (own % 4 == 0) in
    let short = nat_lt (length bytes) own in
    let ends = number_in 4 order (drop (own - 4) bytes) == own in
    let tested = not_none (nat_lt own 12 || odd || short) total (if ends then Some own else None) is in
    let last = or_false (nat_lt own 12 || odd) short tested.0 in
    let first = or_false (nat_lt own 12) odd last.0 in
    let same : own ≡ total = some_is ends own total tested.1 in
    let least : 12 ≤ own = ltb-false own 12 first.0 in
    let within : own ≤ length bytes = ltb-false (length bytes) own last.1 in
    record { least = omega (arith, least, same); within = omega (arith, within, same) }

pub whole_is : (order : Order) (bytes : List ℕ) (total : ℕ) → whole_length order bytes ≡ Some total → IsLength bytes total
unfolding whole_length
whole_is order bytes total is = length_is (order_of_block order bytes) bytes total (not_none _ total _ is).1

-- ---- one step

-- a place behind a block
pub record IsFurther (place next : Place) : Type 0 where
  pub shorter : length next.bytes < length place.bytes
  pub number : next.number ≡ place.number + 1

-- the place that a step leads to, if it leads to one
abbrev pub LeadsTo : Step → Place → Type 0
LeadsTo (Passes place) next = place ≡ next
LeadsTo (Yields packet place) next = place ≡ next
LeadsTo (Fails fault) next = ⊥

effect_leads : (place : Place) (behind : List ℕ) (effect : Effect) (next : Place) → LeadsTo (with_effect place behind effect) next
    → (next.bytes ≡ behind) × (next.number ≡ place.number + 1)
effect_leads place behind (Section order) next is = (ap (λ (p : Place). p.bytes) (sym is), ap (λ (p : Place). p.number) (sym is))
effect_leads place behind (Describes interface) next is = (ap (λ (p : Place). p.bytes) (sym is), ap (λ (p : Place). p.number) (sym is))
effect_leads place behind (Gives packet) next is = (ap (λ (p : Place). p.bytes) (sym is), ap (λ (p : Place). p.number) (sym is))
effect_leads place behind Nothing next is = (ap (λ (p : Place). p.bytes) (sym is), ap (λ (p : Place). p.number) (sym is))

result_leads : (place : Place) (behind : List ℕ) (result : Result Effect BlockFault) (next : Place) → LeadsTo (with_effect_or_fault place behind result) next
    → (next.bytes ≡ behind) × (next.number ≡ place.number + 1)
result_leads place behind (Err fault) next is = absurd is
result_leads place behind (Ok effect) next is = effect_leads place behind effect next is

found_leads : (place : Place) (found : Option ℕ) (next : Place) → whole_length place.order place.bytes ≡ found → LeadsTo (step_by place found) next → IsFurther place next
found_leads place None next whole is = absurd is
found_leads place (Some total) next whole is =
    let size = whole_is place.order place.bytes total whole in
    let led = result_leads place (drop total place.bytes)
    (effect_of place.order place.interfaces place.time (kind_of place.order place.bytes) (body_of total place.bytes)) next is in
    let left : length next.bytes ≡ length (drop total place.bytes) = ap length led.0 in
    let fewer : length (drop total place.bytes) ≡ length place.bytes - total = length-drop total place.bytes in
    record { shorter = omega (arith, left, fewer, size.least, size.within); number = led.1 }

step_leads : (place next : Place) → LeadsTo (step_of place) next → IsFurther place next
unfolding step_of
step_leads place next is = found_leads place (whole_length place.order place.bytes) next refl is

pub passes_further : (place next : Place) → step_of place ≡ Passes next → IsFurther place next
passes_further place next is = step_leads place next (rw is refl)

pub yields_further : (place next : Place) (packet : Captured) → step_of place ≡ Yields packet next → IsFurther place next
yields_further place next packet is = step_leads place next (rw is refl)

-- ---- all steps

-- a number of blocks that is enough may be any other
reading_enough : (a b : ℕ) (place : Place) → length place.bytes ≤ a → length place.bytes ≤ b → reading_from a place ≡ reading_from b place
reading_enough zero zero place ha hb = refl
reading_enough zero (suc b) place ha hb =
    let none : (length place.bytes == 0) ≡ true = eq-eqb (length place.bytes) 0 (omega (arith, ha)) in
    rw none refl
reading_enough (suc a) zero place ha hb =
    let none : (length place.bytes == 0) ≡ true = eq-eqb (length place.bytes) 0 (omega (arith, hb)) in
    rw none refl
reading_enough (suc a) (suc b) place ha hb =
    ap (λ (later : Reading). if length place.bytes == 0 then nothing_left else later)
    (elim (step_of place) as (λ (step : Step). step_of place ≡ step
    → after_step (λ (next : Place). reading_from a next) step ≡ after_step (λ (next : Place). reading_from b next) step) [
      | Passes next ↦ λ is.
          let further = passes_further place next is in
          reading_enough a b next (omega (arith, further.shorter, ha)) (omega (arith, further.shorter, hb))
      | Yields packet next ↦ λ is.
          let further = yields_further place next packet is in
          ap (with_packet packet) (reading_enough a b next (omega (arith, further.shorter, ha)) (omega (arith, further.shorter, hb)))
      | Fails fault ↦ λ is. refl
    ] refl)

reading_next : (n : ℕ) (place : Place) → length place.bytes ≡ n → (n ≡ 0 → ⊥) → reading_from n place ≡ after_step (λ next. reading_at next) (step_of place)
unfolding reading_at
reading_next zero place size some = absurd (some refl)
reading_next (suc n) place size some =
    let more : (length place.bytes == 0) ≡ false = ne_eqb (length place.bytes) 0 (λ none. omega (arith, size, none)) in
    rw more
    (elim (step_of place) as (λ (step : Step). step_of place ≡ step
    → after_step (λ (next : Place). reading_from n next) step ≡ after_step (λ (next : Place). reading_at next) step) [
      | Passes next ↦ λ is.
          let further = passes_further place next is in
          reading_enough n (length next.bytes) next (omega (arith, further.shorter, size)) (omega arith)
      | Yields packet next ↦ λ is.
          let further = yields_further place next packet is in
          ap (with_packet packet) (reading_enough n (length next.bytes) next (omega (arith, further.shorter, size)) (omega arith))
      | Fails fault ↦ λ is. refl
    ] refl)

-- what is to be read is what the next block gives, and what the others do
pub reading_step : (place : Place) → (length place.bytes ≡ 0 → ⊥) → reading_at place ≡ after_step (λ next. reading_at next) (step_of place)
unfolding reading_at
reading_step place some = reading_next (length place.bytes) place refl some

pub reading_none : (place : Place) → length place.bytes ≡ 0 → reading_at place ≡ nothing_left
unfolding reading_at
reading_none place none = rw none refl

pub reading_passes : (place next : Place) → (length place.bytes ≡ 0 → ⊥) → step_of place ≡ Passes next → reading_at place ≡ reading_at next
reading_passes place next some is = reading_step place some ∙ ap (after_step (λ (behind : Place). reading_at behind)) is

pub reading_yields : (place next : Place) (packet : Captured) → (length place.bytes ≡ 0 → ⊥) → step_of place ≡ Yields packet next
    → reading_at place ≡ with_packet packet (reading_at next)
reading_yields place next packet some is = reading_step place some ∙ ap (after_step (λ (behind : Place). reading_at behind)) is

reading_fails : (place : Place) (fault : PcapngFault) → (length place.bytes ≡ 0 → ⊥) → step_of place ≡ Fails fault → reading_at place ≡ stopped fault
reading_fails place fault some is = reading_step place some ∙ ap (after_step (λ (behind : Place). reading_at behind)) is

failed : (place new : Place) (fault : PcapngFault) (all : Reading) → (length place.bytes ≡ 0 → ⊥) → reading_at place ≡ all
    → (step_of place ≡ Fails fault) × (new ≡ place) → (all ≡ stopped fault) × (reading_at new ≡ all)
failed place new fault all some left (is, same) =
    (sym left ∙ reading_fails place fault some is, ap (λ (p : Place). reading_at p) same ∙ left)

-- a fault of the next block is that of all
pub fault_next : (place new : Place) (fault : PcapngFault) (all : Reading) → (length place.bytes ≡ 0 → ⊥) → reading_at place ≡ all
    → IsStepped (step_of place) place (Err fault) new → IsNext (Err fault) all (reading_at new)
fault_next place new Header all some left is = failed place new Header all some left is
fault_next place new (Link link) all some left is = failed place new (Link link) all some left is
fault_next place new (Torn n) all some left is = failed place new (Torn n) all some left is
fault_next place new (TooLong n) all some left is = failed place new (TooLong n) all some left is
fault_next place new NoMemory all some left is = ap (λ (p : Place). reading_at p) is ∙ left
