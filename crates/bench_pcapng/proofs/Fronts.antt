-- Bytes behind a whole block don't change what it is.
use Rattle.std.proofs.Common.{◌≡◌, ◌≤◌, ◌<◌, ℕ, ◌+◌, ◌-◌, ◌%◌, ◌==◌, ◌⊎◌, inl, inr, Bool, true, false, List, ◌++◌, length, take, drop, Option, Some, None, arith, refl, sym, ap, ◌∙◌, length-append, length-drop}
use Rattle.std.specs.Prelude.{if◌then◌else◌, ◌||◌, not, Result, Ok, Err, nat_lt, option_map}
use Rattle.std.proofs.lemmas.Bool.{and_parts, cases_Bool, le-ltb, ltb-false, ltb-true}
use Rattle.std.proofs.lemmas.List.{drop-append-le, take-append-le}
use Rattle.byteorder.specs.Numbers.{big_from-append, little_from-append}
use Rattle.bench_pcapng.specs.Blocks.{body_of, kind_of, length_in, order_of_block, section_kind, wanted_in, wanted_length, whole_length}
use Rattle.bench_pcapng.specs.Captured.{Captured}
use Rattle.bench_pcapng.specs.Effects.{effect_of}
use Rattle.bench_pcapng.specs.Numbers.{number_in}
use Rattle.bench_pcapng.specs.Reading.{Place, Progress, Step, Passes, Yields, Fails, after_step, is_pcapng, opened, opened_by, opened_in, place_at, reading_at, step_by, step_of, stopped, with_effect, with_effect_or_fault, with_packet}
use Rattle.bench_pcapng.specs.Sections.{section_of}
use Rattle.bench_pcapng.specs.declared.effect.Effect.{Effect}
use Rattle.bench_pcapng.specs.declared.effect.Effect.TheVariants.{Section, Describes, Gives, Nothing}
use Rattle.bench_pcapng.specs.declared.fault.BlockFault.{BlockFault}
use Rattle.bench_pcapng.specs.declared.fault.PcapngFault.{PcapngFault}
use Rattle.bench_pcapng.specs.declared.order.Order.{Order}
use Rattle.bench_pcapng.specs.declared.order.Order.TheVariants.{HighFirst, LowFirst}
use Rattle.bench_pcapng.proofs.Readings.{reading_step, whole_is}

or_false : (a b : Bool) → (a || b) ≡ false → (a ≡ false) × (b ≡ false)
or_false true b is = absurd (cc)
or_false false b is = (refl, is)

not_none : {A : Type 0} (b : Bool) (x : A) (more : Option A) → (if b then None else more) ≡ Some x → (b ≡ false) × (more ≡ Some x)
not_none true x more is = absurd (cc)
not_none false x more is = (refl, is)

-- ---- numbers

pub number_append : (count : ℕ) (order : Order) (xs ys : List ℕ) → count ≤ length xs → number_in count order (xs ++ ys) ≡ number_in count order xs
unfolding number_in
number_append count HighFirst xs ys long = big_from-append count xs ys long
number_append count LowFirst xs ys long = little_from-append count xs ys long

pub number_behind : (skipped count : ℕ) (order : Order) (xs ys : List ℕ) → skipped + count ≤ length xs
    → number_in count order (drop skipped (xs ++ ys)) ≡ number_in count order (drop skipped xs)
number_behind skipped count order xs ys long =
    ap (λ (bytes : List ℕ). number_in count order bytes) (drop-append-le skipped xs ys (omega (arith, long)))
    ∙ number_append count order (drop skipped xs) ys (simp length-drop (omega (arith, long)))

-- ---- the length of a block

pub order_more : (order : Order) (bytes more : List ℕ) → 12 ≤ length bytes → order_of_block order (bytes ++ more) ≡ order_of_block order bytes
unfolding order_of_block
order_more order bytes more long =
    let kind : number_in 4 order (bytes ++ more) ≡ number_in 4 order bytes = number_append 4 order bytes more (omega (arith, long)) in
    let mark : number_in 4 HighFirst (drop 8 (bytes ++ more)) ≡ number_in 4 HighFirst (drop 8 bytes) = number_behind 8 4 HighFirst bytes more (omega (arith, long)) in
    rw (kind, mark) refl

-- the length of a block by what was read of it
abbrev length_by : ℕ → Bool → ℕ → Option ℕ
length_by total short last =
    if nat_lt total 12 || not (total % 4 == 0) || short then None else (if last == total then Some total else None)

length_same : (order : Order) (bytes more : List ℕ) → 12 ≤ length bytes → number_in 4 order (drop 4 bytes) ≤ length bytes
    → length_in (Some order) (bytes ++ more) ≡ length_in (Some order) bytes
length_same order bytes more long within =
    let all = bytes ++ more in
    let total = number_in 4 order (drop 4 bytes) in
    let first : number_in 4 order (drop 4 all) ≡ total = number_behind 4 4 order bytes more (omega (arith, long)) in
    let grown : length bytes ≤ length all = simp length-append (omega arith) in
    let a : nat_lt (length all) total ≡ false = le-ltb (length all) total (omega (arith, within, grown)) in
    let b : nat_lt (length bytes) total ≡ false = le-ltb (length bytes) total within in
    let last : number_in 4 order (drop (total - 4) all) ≡ number_in 4 order (drop (total - 4) bytes) =
    number_behind (total - 4) 4 order bytes more (omega (arith, long, within)) in
    ap (λ (n : ℕ). length_by n (nat_lt (length all) n) (number_in 4 order (drop (n - 4) all))) first
    ∙ ap (λ (short : Bool). length_by total short (number_in 4 order (drop (total - 4) all))) (a ∙ sym b)
    ∙ ap (λ (n : ℕ). length_by total (nat_lt (length bytes) total) n) last

pub whole_long : (order : Order) (bytes : List ℕ) → 12 ≤ length bytes → whole_length order bytes ≡ length_in (order_of_block order bytes) bytes
unfolding whole_length
whole_long order bytes long = let a : nat_lt (length bytes) 12 ≡ false = le-ltb (length bytes) 12 long in rw a refl

longer : (order : Order) (bytes more : List ℕ) → 12 ≤ length bytes → whole_length order (bytes ++ more) ≡ length_in (order_of_block order bytes) (bytes ++ more)
longer order bytes more long =
    whole_long order (bytes ++ more) (simp length-append (omega (arith, long)))
    ∙ ap (λ (found : Option Order). length_in found (bytes ++ more)) (order_more order bytes more long)

-- the length that a whole block gives is within the bytes
total_within : (order : Order) (bytes : List ℕ) (total : ℕ) → length_in (Some order) bytes ≡ Some total → number_in 4 order (drop 4 bytes) ≤ length bytes
total_within order bytes total is =
    let own = number_in 4 order (drop 4 bytes) in
    let tested = not_none _ _ _ is in
    ltb-false (length bytes) own (or_false (nat_lt own 12 || not (own % 4 == 0)) (nat_lt (length bytes) own) tested.0).1

-- a length that is no multiple of four is broken, whatever follows; any other is asked for
odd_or_same : (order : Order) (bytes more : List ℕ) → 12 ≤ length bytes → wanted_in (Some order) bytes ≤ length bytes
    → length_in (Some order) bytes ≡ None → length_in (Some order) (bytes ++ more) ≡ None
odd_or_same order bytes more long wanted is = by_multiple (cases_Bool (number_in 4 order (drop 4 bytes) % 4 == 0)) wanted
  where
    first : number_in 4 order (drop 4 (bytes ++ more)) ≡ number_in 4 order (drop 4 bytes)
    first = number_behind 4 4 order bytes more (omega (arith, long))

    odd : (total : ℕ) (short : Bool) (last : ℕ) → (total % 4 == 0) ≡ false → length_by total short last ≡ None
    odd total short last is = rw is (by_small (nat_lt total 12))
      where
        by_small : (small : Bool) → (if small || true || short then None else (if last == total then Some total else None)) ≡ None
        by_small true = refl
        by_small false = refl

    by_multiple : ((number_in 4 order (drop 4 bytes) % 4 == 0) ≡ true) ⊎ ((number_in 4 order (drop 4 bytes) % 4 == 0) ≡ false)
        → (if number_in 4 order (drop 4 bytes) % 4 == 0 then number_in 4 order (drop 4 bytes) else 12) ≤ length bytes
        → length_in (Some order) (bytes ++ more) ≡ None
    by_multiple (inl even) asked = length_same order bytes more long (rw even at asked) ∙ is
    by_multiple (inr uneven) asked =
        ap (λ (n : ℕ). length_by n (nat_lt (length (bytes ++ more)) n) (number_in 4 order (drop (n - 4) (bytes ++ more)))) first
        ∙ odd _ _ _ uneven

-- a whole block is as long, whatever follows it
pub whole_more : (order : Order) (bytes more : List ℕ) (total : ℕ) → whole_length order bytes ≡ Some total → whole_length order (bytes ++ more) ≡ Some total
whole_more order bytes more total is =
    let size = whole_is order bytes total is in
    let long : 12 ≤ length bytes = omega (arith, size.least, size.within) in
    longer order bytes more long ∙ by_order (order_of_block order bytes) long (sym (whole_long order bytes long) ∙ is)
  where
    by_order : (found : Option Order) → 12 ≤ length bytes → length_in found bytes ≡ Some total → length_in found (bytes ++ more) ≡ Some total
    by_order None long same = absurd (cc)
    by_order (Some own) long same = length_same own bytes more long (total_within own bytes total same) ∙ same

-- a broken one stays broken, where there are enough bytes to show it
pub broken_more : (order : Order) (bytes more : List ℕ) → wanted_length order bytes ≤ length bytes → whole_length order bytes ≡ None → whole_length order (bytes ++ more) ≡ None
unfolding wanted_length
broken_more order bytes more enough is = by_length (cases_Bool (nat_lt (length bytes) 12)) enough
  where
    by_order : (found : Option Order) → 12 ≤ length bytes → wanted_in found bytes ≤ length bytes → length_in found bytes ≡ None → length_in found (bytes ++ more) ≡ None
    by_order None long wanted same = refl
    by_order (Some own) long wanted same = odd_or_same own bytes more long wanted same

    by_length : ((nat_lt (length bytes) 12 ≡ true) ⊎ (nat_lt (length bytes) 12 ≡ false))
        → (if nat_lt (length bytes) 12 then 12 else wanted_in (order_of_block order bytes) bytes) ≤ length bytes → whole_length order (bytes ++ more) ≡ None
    by_length (inl short) wanted =
        let all : 12 ≤ length bytes = rw short at wanted in
        absurd (omega (arith, all, ltb-true (length bytes) 12 short))
    by_length (inr long) wanted =
        let size : 12 ≤ length bytes = ltb-false (length bytes) 12 long in
        let asked : wanted_in (order_of_block order bytes) bytes ≤ length bytes = rw long at wanted in
        longer order bytes more size ∙ by_order (order_of_block order bytes) size asked (sym (whole_long order bytes size) ∙ is)

-- ---- one step

body_more : (bytes more : List ℕ) (total : ℕ) → 12 ≤ total → total ≤ length bytes → body_of total (bytes ++ more) ≡ body_of total bytes
body_more bytes more total least within =
    let eight : drop 8 (bytes ++ more) ≡ drop 8 bytes ++ more = drop-append-le 8 bytes more (omega (arith, least, within)) in
    let fits : total - 12 ≤ length (drop 8 bytes) = simp length-drop (omega (arith, least, within)) in
    ap (λ (left : List ℕ). take (total - 12) left) eight ∙ take-append-le (total - 12) (drop 8 bytes) more fits

-- a place with more bytes at the end
abbrev pub with_more : List ℕ → Place → Place
with_more more place = record place { bytes = place.bytes ++ more }

abbrev pub extended : List ℕ → Step → Step
extended more (Passes next) = Passes (with_more more next)
extended more (Yields packet next) = Yields packet (with_more more next)
extended more (Fails fault) = Fails fault

effect_more : (place : Place) (behind more : List ℕ) (effect : Effect)
    → with_effect (with_more more place) (behind ++ more) effect ≡ extended more (with_effect place behind effect)
effect_more place behind more (Section order) = refl
effect_more place behind more (Describes interface) = refl
effect_more place behind more (Gives packet) = refl
effect_more place behind more Nothing = refl

result_more : (place : Place) (behind more : List ℕ) (result : Result Effect BlockFault)
    → with_effect_or_fault (with_more more place) (behind ++ more) result ≡ extended more (with_effect_or_fault place behind result)
result_more place behind more (Err fault) = refl
result_more place behind more (Ok effect) = effect_more place behind more effect

-- a step over a whole block is the same, whatever follows the block
pub step_more : (place : Place) (more : List ℕ) (total : ℕ) → whole_length place.order place.bytes ≡ Some total
    → step_of (with_more more place) ≡ extended more (step_of place)
unfolding step_of
step_more place more total whole =
    let bytes = place.bytes in
    let all = bytes ++ more in
    let size = whole_is place.order bytes total whole in
    let kind : kind_of place.order all ≡ kind_of place.order bytes = number_append 4 place.order bytes more (omega (arith, size.least, size.within)) in
    let behind : drop total all ≡ drop total bytes ++ more = drop-append-le total bytes more size.within in
    let body : body_of total all ≡ body_of total bytes = body_more bytes more total size.least size.within in
    let does = λ (kind_is : ℕ) (body_is : List ℕ). effect_of place.order place.interfaces place.time kind_is body_is in
    ap (λ (found : Option ℕ). step_by (with_more more place) found) (whole_more place.order bytes more total whole)
    ∙ ap (λ (left : List ℕ). with_effect_or_fault (with_more more place) left (does (kind_of place.order all) (body_of total all))) behind
    ∙ ap (λ (n : ℕ). with_effect_or_fault (with_more more place) (drop total bytes ++ more) (does n (body_of total all))) kind
    ∙ ap (λ (part : List ℕ). with_effect_or_fault (with_more more place) (drop total bytes ++ more) (does (kind_of place.order bytes) part)) body
    ∙ result_more place (drop total bytes) more (does (kind_of place.order bytes) (body_of total bytes))
    ∙ ap (λ (found : Option ℕ). extended more (step_by place found)) (sym whole)

-- a step that leads on is over a whole block
record IsWhole (place : Place) : Type 0 where
  pub total : ℕ
  pub whole : whole_length place.order place.bytes ≡ Some total

passed_whole : (place next : Place) → step_of place ≡ Passes next → IsWhole place
unfolding step_of
passed_whole place next is = by_length (whole_length place.order place.bytes) refl is
  where
    by_length : (found : Option ℕ) → whole_length place.order place.bytes ≡ found → step_by place found ≡ Passes next → IsWhole place
    by_length None whole same = absurd (cc)
    by_length (Some total) whole same = record { total = total; whole = whole }

yielded_whole : (place next : Place) (packet : Captured) → step_of place ≡ Yields packet next → IsWhole place
unfolding step_of
yielded_whole place next packet is = by_length (whole_length place.order place.bytes) refl is
  where
    by_length : (found : Option ℕ) → whole_length place.order place.bytes ≡ found → step_by place found ≡ Yields packet next → IsWhole place
    by_length None whole same = absurd (cc)
    by_length (Some total) whole same = record { total = total; whole = whole }

-- a fault stays, where there are enough bytes to show it
fails_more : (place : Place) (more : List ℕ) (fault : PcapngFault) → wanted_length place.order place.bytes ≤ length place.bytes → step_of place ≡ Fails fault
    → step_of (with_more more place) ≡ Fails fault
unfolding step_of
fails_more place more fault enough is = by_length (whole_length place.order place.bytes) refl is
  where
    by_length : (found : Option ℕ) → whole_length place.order place.bytes ≡ found → step_by place found ≡ Fails fault → step_by (with_more more place) (whole_length place.order (place.bytes ++ more)) ≡ Fails fault
    by_length None whole same =
        ap (λ (found : Option ℕ). step_by (with_more more place) found) (broken_more place.order place.bytes more enough whole) ∙ same
    by_length (Some total) whole same =
        step_more place more total whole ∙ ap (λ (step : Step). extended more step) (ap (λ (found : Option ℕ). step_by place found) whole ∙ same)

-- ---- readings

some_of : (bytes more : List ℕ) → 0 < length bytes → length (bytes ++ more) ≡ 0 → ⊥
some_of bytes more some none = omega (arith, some, simp length-append at none)

after_more : (place : Place) (more : List ℕ) (step : Step) → 0 < length place.bytes → step_of (with_more more place) ≡ step
    → reading_at (with_more more place) ≡ after_step (λ next. reading_at next) step
after_more place more step some is =
    reading_step (with_more more place) (some_of place.bytes more some)
    ∙ ap (λ (taken : Step). after_step (λ (next : Place). reading_at next) taken) is

-- what is to be read behind a block that is passed
pub passes_on : (known next : Progress) (bytes behind more : List ℕ) → 0 < length bytes → step_of (place_at known bytes) ≡ Passes (place_at next behind)
    → reading_at (place_at known (bytes ++ more)) ≡ reading_at (place_at next (behind ++ more))
passes_on known next bytes behind more some is =
    let whole = passed_whole (place_at known bytes) (place_at next behind) is in
    after_more (place_at known bytes) more (Passes (place_at next (behind ++ more))) some
    (step_more (place_at known bytes) more whole.total whole.whole ∙ ap (λ (step : Step). extended more step) is)

-- and behind one that holds a packet
pub yields_on : (known next : Progress) (bytes behind more : List ℕ) (packet : Captured) → 0 < length bytes
    → step_of (place_at known bytes) ≡ Yields packet (place_at next behind)
    → reading_at (place_at known (bytes ++ more)) ≡ with_packet packet (reading_at (place_at next (behind ++ more)))
yields_on known next bytes behind more packet some is =
    let whole = yielded_whole (place_at known bytes) (place_at next behind) packet is in
    after_more (place_at known bytes) more (Yields packet (place_at next (behind ++ more))) some
    (step_more (place_at known bytes) more whole.total whole.whole ∙ ap (λ (step : Step). extended more step) is)

-- a block with a fault, which there are enough bytes to show
pub fails_on : (known : Progress) (bytes more : List ℕ) (fault : PcapngFault) → 0 < length bytes → wanted_length known.order bytes ≤ length bytes
    → step_of (place_at known bytes) ≡ Fails fault → reading_at (place_at known (bytes ++ more)) ≡ stopped fault
fails_on known bytes more fault some enough is =
    after_more (place_at known bytes) more (Fails fault) some (fails_more (place_at known bytes) more fault enough is)

-- or behind which nothing follows
pub fails_last : (known : Progress) (bytes : List ℕ) (fault : PcapngFault) → 0 < length bytes
    → step_of (place_at known bytes) ≡ Fails fault → reading_at (place_at known bytes) ≡ stopped fault
fails_last known bytes fault some is =
    reading_step (place_at known bytes) (λ none. omega (arith, some, none))
    ∙ ap (λ (taken : Step). after_step (λ (next : Place). reading_at next) taken) is

-- ---- the first block

not_true : (b : Bool) → not b ≡ true → b ≡ false
not_true true is = absurd (cc)
not_true false is = refl

-- four bytes tell the format
pub told_more : (bytes more : List ℕ) → 4 ≤ length bytes → is_pcapng (bytes ++ more) ≡ is_pcapng bytes
told_more bytes more long =
    let grown : 4 ≤ length (bytes ++ more) = simp length-append (omega (arith, long)) in
    let a : nat_lt (length (bytes ++ more)) 4 ≡ false = le-ltb (length (bytes ++ more)) 4 grown in
    let b : nat_lt (length bytes) 4 ≡ false = le-ltb (length bytes) 4 long in
    let kind : number_in 4 HighFirst (bytes ++ more) ≡ number_in 4 HighFirst bytes = number_append 4 HighFirst bytes more long in
    rw (a, b, kind) refl

pub told_long : (bytes : List ℕ) → is_pcapng bytes ≡ true → 4 ≤ length bytes
told_long bytes is =
    let long = and_parts (not (nat_lt (length bytes) 4)) (number_in 4 HighFirst bytes == section_kind) is in
    ltb-false (length bytes) 4 (not_true (nat_lt (length bytes) 4) long.0)

abbrev opened_told : Bool → Option ℕ → List ℕ → Option Place
opened_told told found file = if told then opened_by found file else None

-- the place behind a whole first block is the same, whatever follows
pub opened_more : (bytes more : List ℕ) (place : Place) → opened bytes ≡ Some place → opened (bytes ++ more) ≡ Some (with_more more place)
unfolding opened
opened_more bytes more place is = by_told (is_pcapng bytes) refl is
  where
    by_order : (found : Option Order) (behind : List ℕ) → opened_in found behind ≡ Some place → opened_in found (behind ++ more) ≡ Some (with_more more place)
    by_order None behind same = absurd (cc)
    by_order (Some order) behind same =
        ap (λ (found : Option Place). option_map (with_more more) found) same

    by_length : (found : Option ℕ) → whole_length HighFirst bytes ≡ found → opened_by found bytes ≡ Some place
        → opened_by (whole_length HighFirst (bytes ++ more)) (bytes ++ more) ≡ Some (with_more more place)
    by_length None whole same = absurd (cc)
    by_length (Some total) whole same =
        let size = whole_is HighFirst bytes total whole in
        ap (λ (found : Option ℕ). opened_by found (bytes ++ more)) (whole_more HighFirst bytes more total whole)
        ∙ ap (λ (part : List ℕ). opened_in (section_of part) (drop total (bytes ++ more))) (body_more bytes more total size.least size.within)
        ∙ ap (λ (left : List ℕ). opened_in (section_of (body_of total bytes)) left) (drop-append-le total bytes more size.within)
        ∙ by_order (section_of (body_of total bytes)) (drop total bytes) same

    by_told : (told : Bool) → is_pcapng bytes ≡ told → opened_told told (whole_length HighFirst bytes) bytes ≡ Some place
        → opened_told (is_pcapng (bytes ++ more)) (whole_length HighFirst (bytes ++ more)) (bytes ++ more) ≡ Some (with_more more place)
    by_told false told same = absurd (cc)
    by_told true told same =
        ap (λ (b : Bool). opened_told b (whole_length HighFirst (bytes ++ more)) (bytes ++ more)) (told_more bytes more (told_long bytes told) ∙ told)
        ∙ by_length (whole_length HighFirst bytes) refl same

-- where the first block begins no section, and there are enough bytes to show it
pub not_opened_more : (bytes more : List ℕ) → is_pcapng bytes ≡ true → wanted_length HighFirst bytes ≤ length bytes → opened bytes ≡ None
    → opened (bytes ++ more) ≡ None
unfolding opened
not_opened_more bytes more told enough is =
    ap (λ (b : Bool). opened_told b (whole_length HighFirst (bytes ++ more)) (bytes ++ more)) (told_more bytes more (told_long bytes told) ∙ told)
    ∙ by_length (whole_length HighFirst bytes) refl
    (ap (λ (b : Bool). opened_told b (whole_length HighFirst bytes) bytes) (sym told) ∙ is)
  where
    by_order : (found : Option Order) (behind : List ℕ) → opened_in found behind ≡ None → opened_in found (behind ++ more) ≡ None
    by_order None behind same = refl
    by_order (Some order) behind same = absurd (cc)

    by_length : (found : Option ℕ) → whole_length HighFirst bytes ≡ found → opened_by found bytes ≡ None
        → opened_by (whole_length HighFirst (bytes ++ more)) (bytes ++ more) ≡ None
    by_length None whole same =
        ap (λ (found : Option ℕ). opened_by found (bytes ++ more)) (broken_more HighFirst bytes more enough whole)
    by_length (Some total) whole same =
        let size = whole_is HighFirst bytes total whole in
        ap (λ (found : Option ℕ). opened_by found (bytes ++ more)) (whole_more HighFirst bytes more total whole)
        ∙ ap (λ (part : List ℕ). opened_in (section_of part) (drop total (bytes ++ more))) (body_more bytes more total size.least size.within)
        ∙ ap (λ (left : List ℕ). opened_in (section_of (body_of total bytes)) left) (drop-append-le total bytes more size.within)
        ∙ by_order (section_of (body_of total bytes)) (drop total bytes) same
