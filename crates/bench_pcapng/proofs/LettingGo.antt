-- A block without the bytes that are let go of it does what it does with them.
use Rattle.std.proofs.Common.{◌≡◌, ◌≤◌, ℕ, ◌+◌, ◌-◌, ◌==◌, Bool, true, false, List, ◌++◌, length, take, drop, Option, Some, None, arith, refl, sym, ap, ◌∙◌, append_assoc, eqb-true, length-append, length-drop, length-take, zero-add}
use Rattle.std.specs.Prelude.{IfSome, if◌then◌else◌, min, Ok, nat_lt}
use Rattle.std.proofs.lemmas.Bool.{le-ltb, ltb-false, eqb-false}
use Rattle.std.proofs.lemmas.List.{drop-append-le, drop-drop, drop-take, drop_at, length-take-le, take-append-drop, take-append-le, take-take, take_all, take_at}
use Rattle.bench_pcapng.specs.Effects.{describes}
use Rattle.bench_pcapng.specs.Interfaces.{behind_option, first_option, option_length, options_of, padded}
use Rattle.bench_pcapng.specs.Numbers.{number_in}
use Rattle.bench_pcapng.specs.Passing.{RestDoesAsHeld, inside_of, kept_of, letting, letting_all, letting_by, letting_of, letting_option, option_outcome, outcome_in, step_within, without}
use Rattle.bench_pcapng.specs.Reading.{Progress}
use Rattle.bench_pcapng.specs.declared.effect.Effect.TheVariants.{Gives}
use Rattle.bench_pcapng.specs.declared.fault.BlockFault.TheVariants.{Torn}
use Rattle.bench_pcapng.specs.declared.interface.Interface.{Interface}
use Rattle.bench_pcapng.specs.declared.order.Order.{Order}
use Rattle.bench_pcapng.specs.declared.outcome.Outcome.{Outcome}
use Rattle.bench_pcapng.specs.declared.outcome.Outcome.TheVariants.{Begins, Describing, Described, Keeps, Passes, Refuses}
use Rattle.bench_pcapng.specs.declared.passing.Passing.{Passing}
use Rattle.bench_pcapng.specs.declared.passing.Past.{Past}
use Rattle.bench_pcapng.proofs.Fronts.{number_append, number_behind}
use Rattle.bench_pcapng.proofs.OptionWalk.{options_broken, options_end, options_next}
use Rattle.bench_pcapng.proofs.Within.{IsWithout, rest_same}

else_some : (b : Bool) (found : Option Past) (past : Past) → (if b then None else found) ≡ Some past → (b ≡ false) × (found ≡ Some past)
else_some true found past is = absurd (cc)
else_some false found past is = (refl, is)

-- bytes behind so many are cut out of some, and others follow
cut_is : (bytes more : List ℕ) (start count : ℕ) → start + count ≤ length bytes
    → IsWithout (bytes ++ more) (take start bytes ++ drop (start + count) bytes ++ more) count start
cut_is bytes more start count within =
    let front = take start bytes in
    let back = drop (start + count) bytes ++ more in
    let joined : front ++ drop (start + count) bytes ++ more ≡ front ++ back = append_assoc front (drop (start + count) bytes) more in
    let size : length front ≡ start = length-take-le start bytes (omega (arith, within)) in
    let back_is : drop (start + count) (bytes ++ more) ≡ back = drop-append-le (start + count) bytes more within in
    record {
      size = omega (arith, ap length joined, length-append front back, length-append (drop (start + count) bytes) more, length-append bytes more, length-drop (start + count) bytes, size, within);
      behind = λ n least.
          ap (λ (m : ℕ). drop m (bytes ++ more)) (let a : n + count ≡ start + count + (n - start) = omega (arith, least) in a)
          ∙ sym (drop-drop (n - start) (start + count) (bytes ++ more))
          ∙ ap (drop (n - start)) (back_is ∙ sym (drop_at front back start size))
          ∙ drop-drop (n - start) start (front ++ back)
          ∙ ap (λ (m : ℕ). drop m (front ++ back)) (let a : start + (n - start) ≡ n = omega (arith, least) in a)
          ∙ ap (drop n) (sym joined);
    }

-- what a block does beside the options of an interface, its packet's bytes show
kept_shows : (order : Order) (outcome : Outcome) (one other : List ℕ) → ((plain : Interface) → outcome ≡ Describing plain → ⊥)
    → take (kept_of outcome) one ≡ take (kept_of outcome) other → outcome_in order outcome one ≡ outcome_in order outcome other
kept_shows order (Begins own) one other none same = refl
kept_shows order (Describing plain) one other none same = absurd (none plain refl)
kept_shows order (Described interface) one other none same = refl
kept_shows order (Keeps packet) one other none same = ap (λ (bytes : List ℕ). Ok (Gives (record {
  interface = packet.interface;
  time = packet.time;
  original = packet.original;
  bytes = bytes;
}))) same
kept_shows order Passes one other none same = refl
kept_shows order (Refuses fault) one other none same = refl

-- ---- options

padded_least : (size : ℕ) → size ≤ padded size
padded_least size = omega arith

-- an option that is whole is the same, whatever follows
length_more : (order : Order) (bytes more : List ℕ) → 4 ≤ length bytes → option_length order (bytes ++ more) ≡ option_length order bytes
length_more order bytes more long = number_behind 2 2 order bytes more long

first_more : (order : Order) (plain : Interface) (bytes more : List ℕ) → 4 ≤ length bytes → padded (option_length order bytes) ≤ length (drop 4 bytes)
    → first_option order plain (bytes ++ more) ≡ first_option order plain bytes
unfolding first_option
first_more order plain bytes more long fits =
    let size = option_length order bytes in
    let code = number_append 2 order bytes more (omega (arith, long)) in
    let behind : drop 4 (bytes ++ more) ≡ drop 4 bytes ++ more = drop-append-le 4 bytes more long in
    let a : nat_lt (length (drop 4 bytes ++ more)) (padded size) ≡ false = le-ltb _ _ (simp length-append (omega (arith, fits))) in
    let b : nat_lt (length (drop 4 bytes)) (padded size) ≡ false = le-ltb _ _ fits in
    let value : take size (drop 4 bytes ++ more) ≡ take size (drop 4 bytes) = take-append-le size (drop 4 bytes) more (omega (arith, fits, padded_least size)) in
    rw (length_more order bytes more long, code, behind, a, b, value) refl

behind_more : (order : Order) (bytes more : List ℕ) → 4 ≤ length bytes
    → behind_option order (bytes ++ more) ≡ drop (4 + padded (option_length order bytes)) (bytes ++ more)
unfolding behind_option
behind_more order bytes more long =
    ap (λ (n : ℕ). drop (padded n) (drop 4 (bytes ++ more))) (length_more order bytes more long)
    ∙ drop-drop (padded (option_length order bytes)) 4 (bytes ++ more)

-- the front of some bytes is that of more
front_is : (bytes more : List ℕ) (count : ℕ) → (rest : List ℕ) × (take count (bytes ++ more) ≡ take count bytes ++ rest)
front_is bytes more count =
    let held = take count bytes in
    let size = length held in
    let whole = take count (bytes ++ more) in
    let least : size ≤ count = omega (arith, length-take count bytes) in
    let fits : size ≤ length bytes = omega (arith, length-take count bytes) in
    let front : take size whole ≡ held =
    take-take size count (bytes ++ more) least ∙ take-append-le size bytes more fits ∙ sym (take-take size count bytes least) ∙ take_all size held (omega arith) in
    (drop size whole, sym (take-append-drop size whole) ∙ ap (λ (first : List ℕ). first ++ drop size whole) front)

module _ (known : Progress) (passing : Passing) (bytes more : List ℕ) where
  -- ---- all bytes in front of the second length, but for those that are kept

  all_gone : (past : Past) → ((plain : Interface) → passing.outcome ≡ Describing plain → ⊥)
      → letting_all passing bytes ≡ Some past → step_within known passing (bytes ++ more) ≡ step_within known past.left (without past bytes ++ more)
  all_gone past other is =
      let kept = kept_of passing.outcome in
      let count = min passing.left (length bytes - kept) in
      let tested = else_some (count == 0) _ past is in
      let some : count ≡ 0 → ⊥ = eqb-false count 0 tested.0 in
      let within : kept + count ≤ length bytes = omega (arith, some) in
      let found : letting kept count passing ≡ past = cc (tested.1) in
      let front = take kept bytes in
      let rest = front ++ drop (kept + count) bytes ++ more in
      let cut = cut_is bytes more kept count within in
      let smaller : IsWithout (bytes ++ more) rest count (kept + (passing.left - count)) =
      record { size = cut.size; behind = λ n least. cut.behind n (omega (arith, least)) } in
      let kept_is : take kept (take (kept + (passing.left - count)) rest) ≡ take kept (take (inside_of passing) (bytes ++ more)) =
      take-take kept (kept + (passing.left - count)) rest (omega arith)
      ∙ ap (take kept) (append_assoc front (drop (kept + count) bytes) more)
      ∙ take_at front (drop (kept + count) bytes ++ more) kept (length-take-le kept bytes (omega (arith, within)))
      ∙ sym (take-take kept (inside_of passing) (bytes ++ more) (omega arith) ∙ take-append-le kept bytes more (omega (arith, within))) in
      rw (← found)
      (rest_same known passing (letting kept count passing).left (bytes ++ more) rest count smaller
      (omega arith) refl refl refl (λ long. kept_shows passing.order passing.outcome _ _ other kept_is))

  -- ---- an option

  gone_by : (past : Past) (outcome : Outcome) (count : ℕ) → kept_of passing.outcome ≡ 0 → kept_of outcome ≡ 0 → count ≤ length (take passing.left bytes)
      → letting 0 count (record passing { outcome = outcome }) ≡ past
      → outcome_in passing.order outcome (take (passing.left - count) (drop count (bytes ++ more))) ≡ outcome_in passing.order passing.outcome (take passing.left (bytes ++ more))
      → step_within known passing (bytes ++ more) ≡ step_within known past.left (without past bytes ++ more)
  gone_by past outcome count none nothing fits found does =
      let all = bytes ++ more in
      let within : count ≤ length bytes = omega (arith, fits, length-take passing.left bytes) in
      let few : count ≤ passing.left = omega (arith, fits, length-take passing.left bytes) in
      let rest = take 0 bytes ++ drop (0 + count) bytes ++ more in
      let rest_is : rest ≡ drop count all =
      ap (λ (n : ℕ). drop n bytes ++ more) (zero-add count) ∙ sym (drop-append-le count bytes more within) in
      let cut = cut_is bytes more 0 count (omega (arith, within)) in
      let inside : kept_of outcome + (passing.left - count) ≡ passing.left - count = omega (arith, nothing) in
      let all_inside : inside_of passing ≡ passing.left = omega (arith, none) in
      let smaller : IsWithout all rest count (kept_of outcome + (passing.left - count)) =
      record { size = cut.size; behind = λ n least. cut.behind n (omega arith) } in
      rw (← found)
      (rest_same known passing (letting 0 count (record passing { outcome = outcome })).left all rest count smaller
      (omega (arith, none, nothing, few)) refl refl refl
      (λ long. ap (outcome_in passing.order outcome) (ap (λ (n : ℕ). take n rest) inside ∙ ap (take (passing.left - count)) rest_is)
      ∙ does ∙ ap (λ (n : ℕ). outcome_in passing.order passing.outcome (take n all)) (sym all_inside)))

  option_gone : (past : Past) (plain : Interface) → passing.outcome ≡ Describing plain → letting_option passing plain (take passing.left bytes) ≡ Some past
      → step_within known passing (bytes ++ more) ≡ step_within known past.left (without past bytes ++ more)
  option_gone past plain outcome is =
      let first = else_some (nat_lt (length (take passing.left bytes)) 4) _ past is in
      by_end (take passing.left bytes) refl (ltb-false _ 4 first.0) (number_in 2 passing.order (take passing.left bytes) == 0) refl first.1
    where
      none : kept_of passing.outcome ≡ 0
      none = ap (λ (o : Outcome). kept_of o) outcome

      -- what all options make of the interface
      all_by : (options : List ℕ) → take passing.left (bytes ++ more) ≡ options
          → outcome_in passing.order passing.outcome (take passing.left (bytes ++ more)) ≡ describes (options_of passing.order plain options)
      all_by options front =
          ap (λ (o : Outcome). outcome_in passing.order o (take passing.left (bytes ++ more))) outcome
          ∙ ap (λ (inside : List ℕ). describes (options_of passing.order plain inside)) front

      by_option : (held : List ℕ) → take passing.left bytes ≡ held → 4 ≤ length held → padded (option_length passing.order held) ≤ length (drop 4 held)
          → (number_in 2 passing.order held ≡ 0 → ⊥) → (found : Option Interface) → first_option passing.order plain held ≡ found
          → letting 0 (4 + padded (option_length passing.order held)) (record passing { outcome = option_outcome found }) ≡ past
          → step_within known passing (bytes ++ more) ≡ step_within known past.left (without past bytes ++ more)
      by_option held is_held long fits goes None found same =
          let rest = (front_is bytes more passing.left).0 in
          let front : take passing.left (bytes ++ more) ≡ held ++ rest = (front_is bytes more passing.left).1 ∙ ap (λ (first : List ℕ). first ++ rest) is_held in
          let code : number_in 2 passing.order (held ++ rest) ≡ number_in 2 passing.order held = number_append 2 passing.order held rest (omega (arith, long)) in
          let broken : options_of passing.order plain (held ++ rest) ≡ None =
          options_broken passing.order plain (held ++ rest) (omega (arith, long, length-append held rest)) (λ ends. goes (sym code ∙ ends))
          (first_more passing.order plain held rest long fits ∙ found) in
          gone_by past (Refuses Torn) (4 + padded (option_length passing.order held)) none refl (omega (arith, fits, long, length-drop 4 held, ap length is_held)) same
          (sym (all_by (held ++ rest) front ∙ ap (λ (o : Option Interface). describes o) broken))
      by_option held is_held long fits goes (Some next) found same =
          let count = 4 + padded (option_length passing.order held) in
          let within : count ≤ length (take passing.left bytes) = omega (arith, fits, long, length-drop 4 held, ap length is_held) in
          let few : count ≤ passing.left = omega (arith, within, length-take passing.left bytes) in
          let rest = (front_is bytes more passing.left).0 in
          let front : take passing.left (bytes ++ more) ≡ held ++ rest = (front_is bytes more passing.left).1 ∙ ap (λ (first : List ℕ). first ++ rest) is_held in
          let code : number_in 2 passing.order (held ++ rest) ≡ number_in 2 passing.order held = number_append 2 passing.order held rest (omega (arith, long)) in
          let behind : behind_option passing.order (held ++ rest) ≡ take (passing.left - count) (drop count (bytes ++ more)) =
          behind_more passing.order held rest long ∙ ap (drop count) (sym front)
          ∙ ap (λ (n : ℕ). drop count (take n (bytes ++ more))) (let a : passing.left ≡ count + (passing.left - count) = omega (arith, few) in a)
          ∙ drop-take count (passing.left - count) (bytes ++ more) in
          let made : options_of passing.order plain (held ++ rest) ≡ options_of passing.order next (behind_option passing.order (held ++ rest)) =
          options_next passing.order plain next (held ++ rest) (omega (arith, long, length-append held rest)) (λ ends. goes (sym code ∙ ends))
          (first_more passing.order plain held rest long fits ∙ found) in
          gone_by past (Describing next) count none refl within same
          (sym (all_by (held ++ rest) front ∙ ap (λ (o : Option Interface). describes o) (made ∙ ap (options_of passing.order next) behind)))

      by_end : (held : List ℕ) → take passing.left bytes ≡ held → 4 ≤ length held → (ends : Bool) → (number_in 2 passing.order held == 0) ≡ ends
          → (if ends then Some (letting 0 4 (record passing { outcome = Described plain }))
          else (if nat_lt (length (drop 4 held)) (padded (option_length passing.order held)) then None
          else Some (letting 0 (4 + padded (option_length passing.order held)) (record passing { outcome = option_outcome (first_option passing.order plain held) })))) ≡ Some past
          → step_within known passing (bytes ++ more) ≡ step_within known past.left (without past bytes ++ more)
      by_end held is_held long true ends same =
          let found : letting 0 4 (record passing { outcome = Described plain }) ≡ past = cc in
          let rest = (front_is bytes more passing.left).0 in
          let front : take passing.left (bytes ++ more) ≡ held ++ rest = (front_is bytes more passing.left).1 ∙ ap (λ (first : List ℕ). first ++ rest) is_held in
          let code : number_in 2 passing.order (held ++ rest) ≡ number_in 2 passing.order held = number_append 2 passing.order held rest (omega (arith, long)) in
          let ended : options_of passing.order plain (held ++ rest) ≡ Some plain =
          options_end passing.order plain (held ++ rest) (omega (arith, long, length-append held rest)) (code ∙ eqb-true _ _ ends) in
          gone_by past (Described plain) 4 none refl (omega (arith, long, ap length is_held)) found
          (sym (all_by (held ++ rest) front ∙ ap (λ (o : Option Interface). describes o) ended))
      by_end held is_held long false goes same =
          let tested = else_some (nat_lt (length (drop 4 held)) (padded (option_length passing.order held))) _ past same in
          let fits : padded (option_length passing.order held) ≤ length (drop 4 held) = ltb-false _ _ tested.0 in
          let found : letting 0 (4 + padded (option_length passing.order held)) (record passing { outcome = option_outcome (first_option passing.order plain held) }) ≡ past = cc (tested.1) in
          by_option held is_held long fits (eqb-false _ 0 goes) (first_option passing.order plain held) refl found

-- what is let go changes nothing
pub let_go : (known : Progress) (passing : Passing) (bytes more : List ℕ) (past : Past) → letting_of passing bytes ≡ Some past
    → step_within known passing (bytes ++ more) ≡ step_within known past.left (without past bytes ++ more)
unfolding letting_of
let_go known passing bytes more past is = by_outcome passing.outcome refl is
  where
    by_outcome : (outcome : Outcome) → passing.outcome ≡ outcome → letting_by passing outcome bytes ≡ Some past
        → step_within known passing (bytes ++ more) ≡ step_within known past.left (without past bytes ++ more)
    by_outcome (Begins own) same found = all_gone known passing bytes more past (λ plain other. cc) found
    by_outcome (Describing plain) same found = option_gone known passing bytes more past plain same found
    by_outcome (Described interface) same found = all_gone known passing bytes more past (λ plain other. cc) found
    by_outcome (Keeps packet) same found = all_gone known passing bytes more past (λ plain other. cc) found
    by_outcome Passes same found = all_gone known passing bytes more past (λ plain other. cc) found
    by_outcome (Refuses fault) same found = all_gone known passing bytes more past (λ plain other. cc) found

-- and is a part of what is held
pub let_within : (passing : Passing) (bytes : List ℕ) (past : Past) → letting_of passing bytes ≡ Some past → past.start + past.length ≤ length bytes
unfolding letting_of
let_within passing bytes past is = by_outcome passing.outcome is
  where
    all_within : letting_all passing bytes ≡ Some past → past.start + past.length ≤ length bytes
    all_within same =
        let kept = kept_of passing.outcome in
        let count = min passing.left (length bytes - kept) in
        let tested = else_some (count == 0) _ past same in
        let some : count ≡ 0 → ⊥ = eqb-false count 0 tested.0 in
        let within : kept + count ≤ length bytes = omega (arith, some) in
        let found : letting kept count passing ≡ past = cc (tested.1) in
        rw (← found) within

    option_within : (plain : Interface) (held : List ℕ) → length held ≤ length bytes → letting_option passing plain held ≡ Some past → past.start + past.length ≤ length bytes
    option_within plain held fits same =
        let first = else_some (nat_lt (length held) 4) _ past same in
        by_end (ltb-false _ 4 first.0) (number_in 2 passing.order held == 0) first.1
      where
        by_end : 4 ≤ length held → (ends : Bool) → (if ends then Some (letting 0 4 (record passing { outcome = Described plain }))
            else (if nat_lt (length (drop 4 held)) (padded (option_length passing.order held)) then None
            else Some (letting 0 (4 + padded (option_length passing.order held)) (record passing { outcome = option_outcome (first_option passing.order plain held) })))) ≡ Some past
            → past.start + past.length ≤ length bytes
        by_end long true again =
            let found : letting 0 4 (record passing { outcome = Described plain }) ≡ past = cc in
            rw (← found) (omega (arith, long, fits))
        by_end long false again =
            let tested = else_some (nat_lt (length (drop 4 held)) (padded (option_length passing.order held))) _ past again in
            let room : padded (option_length passing.order held) ≤ length (drop 4 held) = ltb-false _ _ tested.0 in
            let found : letting 0 (4 + padded (option_length passing.order held)) (record passing { outcome = option_outcome (first_option passing.order plain held) }) ≡ past = cc (tested.1) in
            rw (← found) (omega (arith, room, long, fits, length-drop 4 held))

    by_outcome : (outcome : Outcome) → letting_by passing outcome bytes ≡ Some past → past.start + past.length ≤ length bytes
    by_outcome (Begins own) same = all_within same
    by_outcome (Describing plain) same = option_within plain (take passing.left bytes) (omega (arith, length-take passing.left bytes)) same
    by_outcome (Described interface) same = all_within same
    by_outcome (Keeps packet) same = all_within same
    by_outcome Passes same = all_within same
    by_outcome (Refuses fault) same = all_within same

pub rest_does_as_held : (passing : Passing) (bytes : List ℕ) (found : Option Past) → found ≡ letting_of passing bytes → IfSome found (λ past. RestDoesAsHeld passing bytes past)
rest_does_as_held passing bytes None is = tt
rest_does_as_held passing bytes (Some past) is = λ known more. let_go known passing bytes more past (sym is)

-- what is no description of an interface is let go at once
pub letting_other : (passing : Passing) (outcome : Outcome) (bytes : List ℕ) → ((plain : Interface) → outcome ≡ Describing plain → ⊥)
    → letting_by passing outcome bytes ≡ letting_all passing bytes
letting_other passing (Begins own) bytes other = refl
letting_other passing (Describing plain) bytes other = absurd (other plain refl)
letting_other passing (Described interface) bytes other = refl
letting_other passing (Keeps packet) bytes other = refl
letting_other passing Passes bytes other = refl
letting_other passing (Refuses fault) bytes other = refl
