-- The rest of a block that is passed over, and what follows it.
use Rattle.std.proofs.Common.{◌≡◌, ◌≤◌, ◌<◌, ℕ, ◌+◌, ◌==◌, ◌⊎◌, inl, inr, Bool, true, false, List, [], ◌++◌, length, take, drop, Option, Some, None, arith, refl, sym, ap, ◌∙◌, append-nil, eq-eqb, length-append}
use Rattle.std.specs.Prelude.{if◌then◌else◌, not, Result, Ok, Err, nat_lt, option_map}
use Rattle.std.proofs.lemmas.Bool.{and_parts, cases_lt, le-ltb, lt-ltb}
use Rattle.std.proofs.lemmas.List.{drop-append-le, length-take-le, take-append-le, take-take}
use Rattle.bench_pcapng.specs.Blocks.{body_of, section_kind, whole_length}
use Rattle.bench_pcapng.specs.Captured.{Captured}
use Rattle.bench_pcapng.specs.Effects.{begins, effect_of}
use Rattle.bench_pcapng.specs.Interfaces.{options_of}
use Rattle.bench_pcapng.specs.Numbers.{number_in}
use Rattle.bench_pcapng.specs.Passing.{as_first, at_first, ends_with, fault_in, first_passing_of, inside_of, kept_of, outcome_in, passing_at, passing_of, step_within, without}
use Rattle.bench_pcapng.specs.Read.{StandsIn}
use Rattle.bench_pcapng.specs.Reading.{Place, Progress, Step, Passes, Yields, Fails, after_step, is_pcapng, opened, opened_by, opened_in, place_at, reading_at, reading_behind, reading_of, step_by, step_of, stopped, with_effect, with_effect_or_fault, with_packet}
use Rattle.bench_pcapng.specs.Sections.{section_of}
use Rattle.bench_pcapng.specs.declared.effect.Effect.{Effect}
use Rattle.bench_pcapng.specs.declared.effect.Effect.TheVariants.{Section, Describes, Gives, Nothing}
use Rattle.bench_pcapng.specs.declared.fault.BlockFault.{BlockFault}
use Rattle.bench_pcapng.specs.declared.fault.BlockFault.TheVariants.{Torn}
use Rattle.bench_pcapng.specs.declared.fault.PcapngFault.{PcapngFault}
use Rattle.bench_pcapng.specs.declared.fault.PcapngFault.TheVariants.{Header}
use Rattle.bench_pcapng.specs.declared.order.Order.{Order}
use Rattle.bench_pcapng.specs.declared.order.Order.TheVariants.{HighFirst}
use Rattle.bench_pcapng.specs.declared.outcome.Outcome.{Outcome}
use Rattle.bench_pcapng.specs.declared.outcome.Outcome.TheVariants.{Begins, Describing, Described, Keeps, Passes as Nothing_more, Refuses}
use Rattle.bench_pcapng.specs.declared.passing.Passing.{Passing}
use Rattle.bench_pcapng.specs.declared.passing.Past.{Past}
use Rattle.bench_pcapng.proofs.Fronts.{extended, number_behind, told_long, told_more}
use Rattle.bench_pcapng.proofs.PacketPlaces.{not_described}
use Rattle.bench_pcapng.proofs.PassedOver.{passed_over}
use Rattle.bench_pcapng.proofs.Readings.{LeadsTo}
use Rattle.bench_pcapng.proofs.Within.{step_by_tests}

-- ---- what follows

ends_more : (first : Bool) (known : Progress) (behind more : List ℕ) (does : Result Effect BlockFault)
    → ends_with first known (behind ++ more) does ≡ extended more (ends_with first known behind does)
ends_more first known behind more (Err fault) = refl
ends_more first known behind more (Ok (Section order)) = refl
ends_more first known behind more (Ok (Describes interface)) = refl
ends_more first known behind more (Ok (Gives packet)) = refl
ends_more first known behind more (Ok Nothing) = refl

-- the rest of a block that is held is the same, whatever follows the block
rest_more : (known : Progress) (passing : Passing) (bytes more : List ℕ) → inside_of passing + 4 ≤ length bytes
    → step_within known passing (bytes ++ more) ≡ extended more (step_within known passing bytes)
unfolding step_within
rest_more known passing bytes more long =
    let inside = inside_of passing in
    let a : nat_lt (length (bytes ++ more)) (inside + 4) ≡ false = le-ltb _ _ (simp length-append (omega (arith, long))) in
    let b : nat_lt (length bytes) (inside + 4) ≡ false = le-ltb _ _ long in
    let last = number_behind inside 4 passing.order bytes more long in
    let behind : drop (inside + 4) (bytes ++ more) ≡ drop (inside + 4) bytes ++ more = drop-append-le (inside + 4) bytes more long in
    let front : take inside (bytes ++ more) ≡ take inside bytes = take-append-le inside bytes more (omega (arith, long)) in
    rw (a, b, last, behind, front) (by_last (number_in 4 passing.order (drop inside bytes) == passing.total))
  where
    by_last : (same : Bool)
        → (if same then ends_with passing.first known (drop (inside_of passing + 4) bytes ++ more) (outcome_in passing.order passing.outcome (take (inside_of passing) bytes))
        else Fails (fault_in passing.first known.number Torn))
        ≡ extended more (if same then ends_with passing.first known (drop (inside_of passing + 4) bytes) (outcome_in passing.order passing.outcome (take (inside_of passing) bytes))
        else Fails (fault_in passing.first known.number Torn))
    by_last true = ends_more passing.first known (drop (inside_of passing + 4) bytes) more _
    by_last false = refl

-- a rest that isn't held is torn
rest_short : (known : Progress) (passing : Passing) (bytes : List ℕ) → length bytes < inside_of passing + 4
    → step_within known passing bytes ≡ Fails (fault_in passing.first known.number Torn)
unfolding step_within
rest_short known passing bytes short =
    let a : nat_lt (length bytes) (inside_of passing + 4) ≡ true = lt-ltb _ _ short in
    rw a refl

pub torn_rest : (known : Progress) (passing : Passing) → passing_at known passing [] ≡ stopped (fault_in passing.first known.number Torn)
torn_rest known passing = ap (after_step (λ (next : Place). reading_at next)) (rest_short known passing [] (omega arith))

-- what is to be read behind a block that ended
pub rest_passes_on : (known next : Progress) (passing : Passing) (bytes behind more : List ℕ) → step_within known passing bytes ≡ Passes (place_at next behind)
    → passing_at known passing (bytes ++ more) ≡ reading_at (place_at next (behind ++ more))
rest_passes_on known next passing bytes behind more is = by_length (cases_lt (length bytes) (inside_of passing + 4))
  where
    by_length : (length bytes < inside_of passing + 4) ⊎ (inside_of passing + 4 ≤ length bytes)
        → passing_at known passing (bytes ++ more) ≡ reading_at (place_at next (behind ++ more))
    by_length (inl short) = let no = rest_short known passing bytes short in absurd (cc)
    by_length (inr long) =
        ap (after_step (λ (place : Place). reading_at place)) (rest_more known passing bytes more long ∙ ap (extended more) is)

pub rest_yields_on : (known next : Progress) (passing : Passing) (bytes behind more : List ℕ) (packet : Captured) → step_within known passing bytes ≡ Yields packet (place_at next behind)
    → passing_at known passing (bytes ++ more) ≡ with_packet packet (reading_at (place_at next (behind ++ more)))
rest_yields_on known next passing bytes behind more packet is = by_length (cases_lt (length bytes) (inside_of passing + 4))
  where
    by_length : (length bytes < inside_of passing + 4) ⊎ (inside_of passing + 4 ≤ length bytes)
        → passing_at known passing (bytes ++ more) ≡ with_packet packet (reading_at (place_at next (behind ++ more)))
    by_length (inl short) = let no = rest_short known passing bytes short in absurd (cc)
    by_length (inr long) =
        ap (after_step (λ (place : Place). reading_at place)) (rest_more known passing bytes more long ∙ ap (extended more) is)

-- a fault, which there are enough bytes to show
pub rest_fails_on : (known : Progress) (passing : Passing) (bytes more : List ℕ) (fault : PcapngFault) → (more ≡ []) ⊎ (inside_of passing + 4 ≤ length bytes)
    → step_within known passing bytes ≡ Fails fault → passing_at known passing (bytes ++ more) ≡ stopped fault
rest_fails_on known passing bytes more fault (inl none) is =
    ap (λ (left : List ℕ). passing_at known passing (bytes ++ left)) none
    ∙ ap (λ (all : List ℕ). passing_at known passing all) (append-nil bytes)
    ∙ ap (after_step (λ (place : Place). reading_at place)) is
rest_fails_on known passing bytes more fault (inr long) is =
    ap (after_step (λ (place : Place). reading_at place)) (rest_more known passing bytes more long ∙ ap (extended more) is)

-- one more block was read
ends_number : (first : Bool) (known : Progress) (behind : List ℕ) (does : Result Effect BlockFault) (next : Place) → LeadsTo (ends_with first known behind does) next
    → next.number ≡ known.number + 1
ends_number first known behind (Err fault) next is = absurd is
ends_number first known behind (Ok (Section order)) next is = ap (λ (p : Place). p.number) (sym is)
ends_number first known behind (Ok (Describes interface)) next is = ap (λ (p : Place). p.number) (sym is)
ends_number first known behind (Ok (Gives packet)) next is = ap (λ (p : Place). p.number) (sym is)
ends_number first known behind (Ok Nothing) next is = ap (λ (p : Place). p.number) (sym is)

pub rest_number : (known : Progress) (passing : Passing) (bytes : List ℕ) (next : Place) → LeadsTo (step_within known passing bytes) next → next.number ≡ known.number + 1
unfolding step_within
rest_number known passing bytes next is =
    by_tests (nat_lt (length bytes) (inside_of passing + 4)) (number_in 4 passing.order (drop (inside_of passing) bytes) == passing.total) is
  where
    by_tests : (short same : Bool)
        → LeadsTo (step_by_tests passing.first known short same (drop (inside_of passing + 4) bytes) (outcome_in passing.order passing.outcome (take (inside_of passing) bytes))) next
        → next.number ≡ known.number + 1
    by_tests true same led = absurd led
    by_tests false true led = ends_number passing.first known (drop (inside_of passing + 4) bytes) _ next led
    by_tests false false led = absurd led

-- ---- the end of the block

-- the step over a block that is held is its effect
pub rest_given : (known : Progress) (passing : Passing) (bytes : List ℕ) (effect : Effect) → inside_of passing + 4 ≤ length bytes
    → number_in 4 passing.order (drop (inside_of passing) bytes) ≡ passing.total → outcome_in passing.order passing.outcome (take (inside_of passing) bytes) ≡ Ok effect
    → step_within known passing bytes ≡ with_effect (place_at known (drop (inside_of passing + 4) bytes)) (drop (inside_of passing + 4) bytes) effect
unfolding step_within
rest_given known passing bytes effect long same does =
    let a : nat_lt (length bytes) (inside_of passing + 4) ≡ false = le-ltb _ _ long in
    let b : (number_in 4 passing.order (drop (inside_of passing) bytes) == passing.total) ≡ true = eq-eqb _ _ same in
    rw (a, b, does) refl

-- the bytes of its packet are the first
pub kept_stands : (passing : Passing) (bytes : List ℕ) (packet : Captured) → inside_of passing + 4 ≤ length bytes
    → outcome_in passing.order passing.outcome (take (inside_of passing) bytes) ≡ Ok (Gives packet) → StandsIn bytes (record { packet = packet; start = 0 })
kept_stands passing bytes packet long is = by_outcome passing.outcome (omega arith) is
  where
    by_outcome : (outcome : Outcome) → kept_of outcome ≤ inside_of passing → outcome_in passing.order outcome (take (inside_of passing) bytes) ≡ Ok (Gives packet) → StandsIn bytes (record { packet = packet; start = 0 })
    by_outcome (Begins own) least same = absurd (cc)
    by_outcome (Describing plain) least same = absurd (not_described (options_of passing.order plain (take (inside_of passing) bytes)) packet same)
    by_outcome (Described interface) least same = absurd (cc)
    by_outcome Nothing_more least same = absurd (cc)
    by_outcome (Refuses fault) least same = absurd (cc)
    by_outcome (Keeps kept) least same =
        let part = take kept.length (take (inside_of passing) bytes) in
        let found : record { interface = kept.interface; time = kept.time; original = kept.original; bytes = part } ≡ packet = cc in
        let own : part ≡ packet.bytes = ap (λ (p : Captured). p.bytes) found in
        let whole : part ≡ take kept.length bytes = take-take kept.length (inside_of passing) bytes least in
        let size : length (take kept.length bytes) ≡ kept.length = length-take-le kept.length bytes (omega (arith, least, long)) in
        let count : length packet.bytes ≡ kept.length = ap length (sym own ∙ whole) ∙ size in
        record {
          stored = sym own ∙ whole ∙ ap (λ (n : ℕ). take n bytes) (sym count);
          within = omega (arith, count, least, long);
        }

-- ---- the first block of a file

-- a step, each fault of which is one of the header
abbrev headed : Step → Step
headed (Passes next) = Passes next
headed (Yields packet next) = Yields packet next
headed (Fails fault) = Fails Header

first_same : (first : Bool) (known : Progress) (behind : List ℕ) (does : Result Effect BlockFault) → ends_with true known behind does ≡ headed (ends_with first known behind does)
first_same first known behind (Err fault) = refl
first_same first known behind (Ok (Section order)) = refl
first_same first known behind (Ok (Describes interface)) = refl
first_same first known behind (Ok (Gives packet)) = refl
first_same first known behind (Ok Nothing) = refl

first_step : (known : Progress) (passing : Passing) (bytes : List ℕ)
    → step_within known (record passing { first = true }) bytes ≡ headed (step_within known passing bytes)
unfolding step_within
first_step known passing bytes =
    by_tests (nat_lt (length bytes) (inside_of passing + 4)) (number_in 4 passing.order (drop (inside_of passing) bytes) == passing.total)
  where
    by_tests : (short same : Bool)
        → step_by_tests true known short same (drop (inside_of passing + 4) bytes) (outcome_in passing.order passing.outcome (take (inside_of passing) bytes))
        ≡ headed (step_by_tests passing.first known short same (drop (inside_of passing + 4) bytes) (outcome_in passing.order passing.outcome (take (inside_of passing) bytes)))
    by_tests true same = refl
    by_tests false true = first_same passing.first known (drop (inside_of passing + 4) bytes) _
    by_tests false false = refl

abbrev opened_told : Bool → Option ℕ → List ℕ → Option Place
opened_told told found file = if told then opened_by found file else None

-- the first block is read as any other, but for its faults
first_block : (file : List ℕ) → is_pcapng file ≡ true → reading_of file ≡ after_step (λ next. reading_at next) (headed (step_of (place_at at_first file)))
unfolding reading_of opened step_of effect_of
first_block file told =
    ap (λ (b : Bool). reading_behind (opened_told b (whole_length HighFirst file) file)) told ∙ by_length (whole_length HighFirst file)
  where
    by_order : (behind : List ℕ) (found : Option Order)
        → reading_behind (opened_in found behind) ≡ after_step (λ next. reading_at next) (headed (with_effect_or_fault (place_at at_first file) behind (begins found)))
    by_order behind None = refl
    by_order behind (Some order) = refl

    by_length : (found : Option ℕ)
        → reading_behind (opened_by found file) ≡ after_step (λ next. reading_at next) (headed (step_by (place_at at_first file) found))
    by_length None = refl
    by_length (Some total) =
        let section : (number_in 4 HighFirst file == section_kind) ≡ true = (and_parts (not (nat_lt (length file) 4)) (number_in 4 HighFirst file == section_kind) told).1 in
        rw section (by_order (drop total file) (section_of (body_of total file)))

pub first_passed : (file more : List ℕ) (past : Past) → first_passing_of file ≡ Some past
    → reading_of (file ++ more) ≡ passing_at at_first past.left (without past file ++ more)
first_passed file more past is = by_told (is_pcapng file) refl is
  where
    by_past : (found : Option Past) → is_pcapng file ≡ true → passing_of at_first file ≡ found → option_map (λ other. as_first other) found ≡ Some past
        → reading_of (file ++ more) ≡ passing_at at_first past.left (without past file ++ more)
    by_past None told passes same = absurd (cc)
    by_past (Some other) told passes same =
        let found : as_first other ≡ past = cc in
        rw (← found)
        (first_block (file ++ more) (told_more file more (told_long file told) ∙ told)
        ∙ ap (λ (step : Step). after_step (λ (next : Place). reading_at next) (headed step)) (passed_over at_first file more other passes)
        ∙ ap (after_step (λ (next : Place). reading_at next)) (sym (first_step at_first other.left (without other file ++ more))))

    by_told : (told : Bool) → is_pcapng file ≡ told → (if told then option_map (λ other. as_first other) (passing_of at_first file) else None) ≡ Some past
        → reading_of (file ++ more) ≡ passing_at at_first past.left (without past file ++ more)
    by_told false told same = absurd (cc)
    by_told true told same = by_past (passing_of at_first file) told refl same

pub first_passing : (file : List ℕ) (past : Past) → is_pcapng file ≡ true → passing_of at_first file ≡ Some past → first_passing_of file ≡ Some (as_first past)
first_passing file past told found = rw (told, found) refl
