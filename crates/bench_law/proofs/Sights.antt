-- What was seen of a frame agrees with what is known of it.
use Rattle.std.proofs.Common.{◌≡◌, ◌≤◌, ◌<◌, ℕ, Bool, true, false, List, [], ◌++◌, length, take, drop, replicate, inl, inr, refl, sym, ap, subst, ◌∙◌, arith, append_assoc, append-nil, length-append, take-take}
use Rattle.std.specs.Prelude.{◌-◌, ◌&&◌, ◌||◌, nat_eq, nat_lt}
use Rattle.std.specs.Io.{StartsWith}
use Rattle.std.specs.List.{starts_with}
use Rattle.std.proofs.lemmas.Bool.{and_parts, cases_lt, leb-true, lt-ltb}
use Rattle.std.proofs.lemmas.List.{take-append-le, take_at}
use Rattle.tag_view.specs.Frame.{frame_bytes}
use Rattle.mib_state.specs.Entities.{Entities}
use Rattle.frame_meaning.specs.Meaning.{meaning}
use Rattle.frame_meaning.specs.declared.verdict.Verdict.{Verdict}
use Rattle.frame_meaning.specs.declared.verdict.Verdict.TheVariants.{Forward, Drop}
use Rattle.bench_history.specs.declared.extent.Extent.{Extent}
use Rattle.bench_history.specs.declared.extent.Extent.TheVariants.{Whole, Front}
use Rattle.bench_history.specs.declared.event.Event.{Event}
use Rattle.bench_history.specs.declared.event.Event.TheVariants.{Left}
use Rattle.bench_sight.specs.Sight.{IsSeenAs, agree, is_enough, is_gem, most_of}
use Rattle.bench_sight.proofs.Prefixes.{Decides-begins, rest_of, shorter}
use Rattle.bench_law.specs.Observation.{IsKnownAs}
use Rattle.bench_law.proofs.Cut.{IsCutOf, meaning_cut}

-- ---- fronts of bytes

-- what begins with all of a list begins with its first part
begins_part : (xs ys seen : List ℕ) → StartsWith seen (xs ++ ys) → StartsWith seen xs
begins_part xs ys seen begins =
    let long : length xs ≤ length (xs ++ ys) = omega (arith, length-append xs ys) in
    sym (take-take (length xs) (length (xs ++ ys)) seen long) ∙ ap (take (length xs)) begins ∙ take_at xs ys (length xs) refl

-- of a list and its first part fronts are seen: one begins with the other
either_begins : (xs ys seen : List ℕ) → length xs ≤ length seen → StartsWith (xs ++ ys) seen → StartsWith seen xs
either_begins xs ys seen long begins =
    ap (take (length xs)) (sym begins) ∙ take-take (length xs) (length seen) (xs ++ ys) long ∙ take_at xs ys (length xs) refl

short_begins : (xs ys seen : List ℕ) → length seen ≤ length xs → StartsWith (xs ++ ys) seen → StartsWith xs seen
short_begins xs ys seen short begins = sym (take-append-le (length seen) xs ys short) ∙ begins

-- the most that may be seen of a frame begins with the frame
most_begins : (padded : Bool) (leaves : List ℕ) → (rest : List ℕ) × (most_of padded leaves ≡ leaves ++ rest)
most_begins true leaves = (replicate (68 - length leaves) 0, refl)
most_begins false leaves = ([], sym (append-nil leaves))

-- ---- a front of what leaves agrees with what was seen

or_first : (a b : Bool) → a ≡ true → (a || b) ≡ true
or_first true b is = refl
or_first false b is = absurd (cc is)

or_second : (a b : Bool) → b ≡ true → (a || b) ≡ true
or_second true b is = refl
or_second false b is = is

both_true : (a b : Bool) → a ≡ true → b ≡ true → (a && b) ≡ true
both_true true b is_a is_b = is_b
both_true false b is_a is_b = absurd (cc is_a)

agrees_cut : (padded : Bool) (front more : List ℕ) (extent : Extent) (seen : List ℕ) → 0 < length more
    → agree padded Whole (front ++ more) extent seen ≡ true → agree padded Front front extent seen ≡ true
agrees_cut padded front more Whole seen some agrees =
    let parts = and_parts (starts_with nat_eq (most_of padded (front ++ more)) seen) (starts_with nat_eq seen (front ++ more)) agrees in
    let begins : StartsWith seen (front ++ more) = (Decides-begins seen (front ++ more)).0 parts.1 in
    let long : length front < length seen = omega (arith, some, length-append front more, shorter seen (front ++ more) begins) in
    both_true (starts_with nat_eq seen front) (nat_lt (length front) (length seen))
    ((Decides-begins seen front).1 (begins_part front more seen begins)) (lt-ltb (length front) (length seen) long)
agrees_cut padded front more Front seen some agrees =
    let most = most_begins padded (front ++ more) in
    let first = (and_parts (starts_with nat_eq (most_of padded (front ++ more)) seen) (nat_lt (length seen) (length (most_of padded (front ++ more)))) agrees).0 in
    let begins : StartsWith (most_of padded (front ++ more)) seen = (Decides-begins (most_of padded (front ++ more)) seen).0 first in
    let all : StartsWith (front ++ (more ++ most.0)) seen =
    subst (λ (l : List ℕ). StartsWith l seen) (most.1 ∙ append_assoc front more most.0) begins in
    elim (cases_lt (length front) (length seen)) [
      | inl less ↦
          or_second (starts_with nat_eq front seen) (starts_with nat_eq seen front)
          ((Decides-begins seen front).1 (either_begins front (more ++ most.0) seen (omega (arith, less)) all))
      | inr not_less ↦
          or_first (starts_with nat_eq front seen) (starts_with nat_eq seen front)
          ((Decides-begins front seen).1 (short_begins front (more ++ most.0) seen not_less all))
    ]

seen_cut : (padded : Bool) (more : List ℕ) (front whole : Verdict) (seen : Event) → 0 < length more → IsCutOf more front whole
    → IsSeenAs padded whole Whole seen → IsSeenAs padded front Front seen
seen_cut padded more (Forward gem frame) (Forward whole_gem whole) (Left seen_gem extent number bytes) some cut is = (
  subst (λ (g : ℕ). is_gem g seen_gem ≡ true) (sym cut.0) is.0,
  agrees_cut padded (frame_bytes frame) more extent bytes some
      (subst (λ (l : List ℕ). agree padded Whole l extent bytes ≡ true) cut.1 is.1),
)
seen_cut padded more (Forward gem frame) (Forward whole_gem whole) seen some cut is = absurd is
seen_cut padded more (Forward gem frame) (Drop reason) seen some cut is = absurd cut
seen_cut padded more (Drop reason) (Forward whole_gem whole) seen some cut is = absurd cut
seen_cut padded more (Drop reason) (Drop whole_reason) seen some cut is = is

-- ---- what is known decides as all of it

pub seen_known : (padded : Bool) (e : Entities) (port : ℕ) (extent : Extent) (known bytes : List ℕ) (seen : Event) → is_enough extent known ≡ true
    → IsKnownAs extent known bytes → IsSeenAs padded (meaning e port bytes) Whole seen → IsSeenAs padded (meaning e port known) extent seen
seen_known padded e port Whole known bytes seen enough is_known is =
    subst (λ (l : List ℕ). IsSeenAs padded (meaning e port l) Whole seen) (sym is_known) is
seen_known padded e port Front known bytes seen enough is_known is =
    let more : List ℕ = drop (length known) bytes in
    let all : bytes ≡ known ++ more = rest_of bytes known is_known.0 in
    let some : 0 < length more = omega (arith, is_known.1, ap (λ (l : List ℕ). length l) all, length-append known more) in
    let long : 24 ≤ length known = leb-true 24 (length known) enough in
    seen_cut padded more (meaning e port known) (meaning e port (known ++ more)) seen some (meaning_cut e port known more long)
    (subst (λ (l : List ℕ). IsSeenAs padded (meaning e port l) Whole seen) all is)
