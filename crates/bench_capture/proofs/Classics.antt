-- The walk over the records of a classic capture, one at a time, and what bytes behind a record change: nothing.
use Rattle.std.proofs.Common.{◌≡◌, ◌≤◌, ◌<◌, ℕ, zero, suc, ◌+◌, ◌-◌, ◌==◌, ◌⊎◌, inl, inr, Bool, true, false, List, [], ◌∷◌, ◌++◌, length, take, drop, Option, Some, None, arith, refl, sym, ap, ◌∙◌, append-nil, eq-eqb, length-append, length-drop}
use Rattle.std.specs.Prelude.{if◌then◌else◌, nat_lt}
use Rattle.std.proofs.lemmas.Bool.{cases_Bool, le-ltb, ltb-false, ne_eqb}
use Rattle.std.proofs.lemmas.List.{drop-append-le, drop-drop, length-take-le, take-append-le}
use Rattle.byteorder.specs.Numbers.{big_from-append, little_from-append}
use Rattle.bench_capture.specs.Classic.{first_recorded, nanoseconds_of, record_or_fault, records_at, records_from}
use Rattle.bench_capture.specs.Formats.{AreEnough, recorded_at, with_span}
use Rattle.bench_capture.specs.Reading.{Reading, nothing_left, stopped, with_frame}
use Rattle.bench_capture.specs.Recorded.{Recorded}
use Rattle.bench_capture.specs.Records.{HasFirst, IsRecord, WhyNoRecord, TooMany, Broken}
use Rattle.bench_capture.specs.declared.classic.Records.{Records}
use Rattle.bench_capture.specs.declared.fault.CaptureFileFault.{CaptureFileFault}
use Rattle.bench_capture.specs.declared.fault.CaptureFileFault.TheVariants.{Torn}
use Rattle.bench_capture.specs.declared.span.Span.{Span}
use Rattle.bench_capture.specs.declared.span.Taken.{Taken}
use Rattle.capture.specs.Numbers.{number_in}
use Rattle.capture.specs.Records.{behind_first, first_frame, record_fault, stored_length}
use Rattle.capture.specs.declared.order.Order.{Order}
use Rattle.capture.specs.declared.order.Order.TheVariants.{HighFirst, LowFirst}

-- ---- all records

-- what is left gets shorter
behind_shorter : (order : Order) (bytes : List ℕ) (most : ℕ) → length bytes ≤ suc most → length (behind_first order bytes) ≤ most
behind_shorter order bytes most h = simp length-drop (omega (arith, h))

-- a number of records that is enough may be any other
records_enough : (a b : ℕ) (order : Order) (nanoseconds : Bool) (n : ℕ) (bytes : List ℕ) → length bytes ≤ a → length bytes ≤ b
    → records_from a order nanoseconds n bytes ≡ records_from b order nanoseconds n bytes
records_enough zero zero order nanoseconds n bytes ha hb = refl
records_enough zero (suc b) order nanoseconds n [] ha hb = refl
records_enough zero (suc b) order nanoseconds n (x ∷ bytes) ha hb = absurd (omega (arith, ha))
records_enough (suc a) zero order nanoseconds n [] ha hb = refl
records_enough (suc a) zero order nanoseconds n (x ∷ bytes) ha hb = absurd (omega (arith, hb))
records_enough (suc a) (suc b) order nanoseconds n bytes ha hb =
    ap (λ (later : Reading). if length bytes == 0 then nothing_left else (if n == 4294967295 then stopped (Torn n)
    else record_or_fault n (record_fault order bytes) (first_recorded order nanoseconds bytes) later))
    (records_enough a b order nanoseconds (n + 1) (behind_first order bytes) (behind_shorter order bytes a ha) (behind_shorter order bytes b hb))

-- what the records give is what the first does, and those behind it
pub records_step : (order : Order) (nanoseconds : Bool) (n : ℕ) (bytes : List ℕ) → 0 < length bytes
    → records_at order nanoseconds n bytes ≡ (if n == 4294967295 then stopped (Torn n)
    else record_or_fault n (record_fault order bytes) (first_recorded order nanoseconds bytes) (records_at order nanoseconds (n + 1) (behind_first order bytes)))
unfolding records_at
records_step order nanoseconds n [] some = absurd (omega (arith, some))
records_step order nanoseconds n (x ∷ bytes) some =
    let behind = behind_first order (x ∷ bytes) in
    let more : (length (x ∷ bytes) == 0) ≡ false = ne_eqb (length (x ∷ bytes)) 0 (λ none. omega (arith, none)) in
    rw more
    (ap (λ (later : Reading). if n == 4294967295 then stopped (Torn n)
    else record_or_fault n (record_fault order (x ∷ bytes)) (first_recorded order nanoseconds (x ∷ bytes)) later)
    (records_enough (length bytes) (length behind) order nanoseconds (n + 1) behind (behind_shorter order (x ∷ bytes) (length bytes) (omega arith)) (omega arith)))

pub records_none : (order : Order) (nanoseconds : Bool) (n : ℕ) (bytes : List ℕ) → length bytes ≡ 0 → records_at order nanoseconds n bytes ≡ nothing_left
unfolding records_at
records_none order nanoseconds n [] none = refl
records_none order nanoseconds n (x ∷ bytes) none = absurd (omega (arith, none))

-- ---- numbers stand in their own bytes

number_append : (order : Order) (xs ys : List ℕ) → 4 ≤ length xs → number_in order (xs ++ ys) ≡ number_in order xs
number_append HighFirst xs ys long = big_from-append 4 xs ys long
number_append LowFirst xs ys long = little_from-append 4 xs ys long

number_behind : (skipped : ℕ) (order : Order) (xs ys : List ℕ) → skipped + 4 ≤ length xs → number_in order (drop skipped (xs ++ ys)) ≡ number_in order (drop skipped xs)
number_behind skipped order xs ys long =
    ap (λ (bytes : List ℕ). number_in order bytes) (drop-append-le skipped xs ys (omega (arith, long)))
    ∙ number_append order (drop skipped xs) ys (simp length-drop (omega (arith, long)))

-- ---- one record

-- no fault by a first test, and none behind it
no_fault : {A : Type 0} (b : Bool) (fault : A) (later : Option A) → (if b then Some fault else later) ≡ None → (b ≡ false) × (later ≡ None)
no_fault true fault later is = absurd (cc)
no_fault false fault later is = (refl, is)

record IsWhole (order : Order) (bytes : List ℕ) : Type 0 where
  pub long : 16 ≤ length bytes
  pub fits : stored_length order bytes ≤ 262144
  pub all : stored_length order bytes ≤ length (drop 16 bytes)

whole_sizes : (order : Order) (bytes : List ℕ) → record_fault order bytes ≡ None → IsWhole order bytes
whole_sizes order bytes whole =
    let a = no_fault _ _ _ whole in
    let b = no_fault _ _ _ a.1 in
    let d = no_fault _ _ _ b.1 in
    record {
      long = ltb-false (length bytes) 16 a.0;
      fits = ltb-false 262144 (stored_length order bytes) b.0;
      all = ltb-false (length (drop 16 bytes)) (stored_length order bytes) d.0;
    }

-- a whole record is the same, whatever follows it
record IsSame (order : Order) (nanoseconds : Bool) (bytes more : List ℕ) : Type 0 where
  pub whole : record_fault order (bytes ++ more) ≡ None
  pub frame : first_recorded order nanoseconds (bytes ++ more) ≡ first_recorded order nanoseconds bytes
  pub behind : behind_first order (bytes ++ more) ≡ behind_first order bytes ++ more

whole_same : (order : Order) (nanoseconds : Bool) (bytes more : List ℕ) → record_fault order bytes ≡ None → IsSame order nanoseconds bytes more
whole_same order nanoseconds bytes more whole =
    let size = whole_sizes order bytes whole in
    let all = bytes ++ more in
    let stored : stored_length order all ≡ stored_length order bytes = number_behind 8 order bytes more (omega (arith, size.long)) in
    let seconds : number_in order all ≡ number_in order bytes = number_append order bytes more (omega (arith, size.long)) in
    let fraction : number_in order (drop 4 all) ≡ number_in order (drop 4 bytes) = number_behind 4 order bytes more (omega (arith, size.long)) in
    let original : number_in order (drop 12 all) ≡ number_in order (drop 12 bytes) = number_behind 12 order bytes more (omega (arith, size.long)) in
    let past : drop 16 all ≡ drop 16 bytes ++ more = drop-append-le 16 bytes more size.long in
    let count = stored_length order bytes in
    let grown : length (drop 16 all) ≡ length (drop 16 bytes) + length more = ap length past ∙ length-append (drop 16 bytes) more in
    let a : nat_lt (length all) 16 ≡ false = le-ltb (length all) 16 (simp length-append (omega (arith, size.long))) in
    let b : nat_lt 262144 count ≡ false = le-ltb 262144 count size.fits in
    let d : nat_lt (length (drop 16 all)) count ≡ false = le-ltb (length (drop 16 all)) count (omega (arith, grown, size.all)) in
    let frame_is : first_frame order all ≡ first_frame order bytes =
    ap (λ (n : ℕ). take n (drop 16 all)) stored ∙ ap (λ (left : List ℕ). take count left) past ∙ take-append-le count (drop 16 bytes) more size.all in
    record {
      whole = rw (stored, a, b, d) refl;
      frame =
          ap (λ (n : ℕ). record { time = nanoseconds_of nanoseconds n (number_in order (drop 4 all)); original = number_in order (drop 12 all); bytes = first_frame order all }) seconds
          ∙ ap (λ (n : ℕ). record { time = nanoseconds_of nanoseconds (number_in order bytes) n; original = number_in order (drop 12 all); bytes = first_frame order all }) fraction
          ∙ ap (λ (n : ℕ). record { time = nanoseconds_of nanoseconds (number_in order bytes) (number_in order (drop 4 bytes)); original = n; bytes = first_frame order all }) original
          ∙ ap (λ (stored_bytes : List ℕ). record { time = nanoseconds_of nanoseconds (number_in order bytes) (number_in order (drop 4 bytes)); original = number_in order (drop 12 bytes); bytes = stored_bytes }) frame_is;
      behind = ap (λ (n : ℕ). drop n (drop 16 all)) stored ∙ ap (λ (left : List ℕ). drop count left) past ∙ drop-append-le count (drop 16 bytes) more size.all;
    }

-- whatever follows a longest record doesn't change its fault
fault_same : (order : Order) (bytes more : List ℕ) → 262160 ≤ length bytes → record_fault order (bytes ++ more) ≡ record_fault order bytes
fault_same order bytes more long = by_size (cases_Bool (nat_lt 262144 (stored_length order bytes)))
  where
    by_size : (nat_lt 262144 (stored_length order bytes) ≡ true) ⊎ (nat_lt 262144 (stored_length order bytes) ≡ false) → record_fault order (bytes ++ more) ≡ record_fault order bytes
    by_size size =
        let all = bytes ++ more in
        let stored : stored_length order all ≡ stored_length order bytes = number_behind 8 order bytes more (omega (arith, long)) in
        let a : nat_lt (length all) 16 ≡ false = le-ltb (length all) 16 (simp length-append (omega (arith, long))) in
        let b : nat_lt (length bytes) 16 ≡ false = le-ltb (length bytes) 16 (omega (arith, long)) in
        elim size as (λ _. record_fault order (bytes ++ more) ≡ record_fault order bytes) [
          | inl over ↦ rw (stored, a, b, over) refl
          | inr under ↦
              let fits : stored_length order bytes ≤ 262144 = ltb-false 262144 (stored_length order bytes) under in
              let d : nat_lt (length (drop 16 all)) (stored_length order bytes) ≡ false =
              le-ltb (length (drop 16 all)) (stored_length order bytes) (simp (length-drop, length-append) (omega (arith, long, fits))) in
              let e : nat_lt (length (drop 16 bytes)) (stored_length order bytes) ≡ false =
              le-ltb (length (drop 16 bytes)) (stored_length order bytes) (simp length-drop (omega (arith, long, fits))) in
              rw (stored, a, b, under, d, e) refl
        ]

-- ---- taking a record

longer : (bytes more : List ℕ) → 0 < length bytes → 0 < length (bytes ++ more)
longer bytes more some = simp length-append (omega (arith, some))

-- the record that is taken, and those behind it, are what there was
pub taken_reads : (old new : Records) (bytes more : List ℕ) (taken : Taken) → IsRecord old bytes taken new
    → records_at old.order old.nanoseconds old.number (bytes ++ more)
    ≡ with_span bytes taken.frame (records_at new.order new.nanoseconds new.number (drop taken.length bytes ++ more))
taken_reads old new bytes more taken is =
    let same = whole_same old.order old.nanoseconds bytes more is.whole in
    let some : 0 < length bytes = omega (arith, is.some, is.within) in
    let few : (old.number == 4294967295) ≡ false = ne_eqb old.number 4294967295 is.few in
    let later = records_at old.order old.nanoseconds (old.number + 1) in
    let step : records_at old.order old.nanoseconds old.number (bytes ++ more)
    ≡ with_frame (first_recorded old.order old.nanoseconds (bytes ++ more)) (later (behind_first old.order (bytes ++ more))) =
    records_step old.order old.nanoseconds old.number (bytes ++ more) (longer bytes more some) ∙ rw (few, same.whole) refl in
    let moved : with_frame (first_recorded old.order old.nanoseconds (bytes ++ more)) (later (behind_first old.order (bytes ++ more)))
    ≡ with_frame (first_recorded old.order old.nanoseconds bytes) (later (drop taken.length bytes ++ more)) =
    ap (λ (frame : Recorded). with_frame frame (later (behind_first old.order (bytes ++ more)))) same.frame
    ∙ ap (λ (left : List ℕ). with_frame (first_recorded old.order old.nanoseconds bytes) (later left))
    (same.behind ∙ ap (λ (left : List ℕ). left ++ more) (sym is.behind)) in
    let counted : later (drop taken.length bytes ++ more) ≡ records_at new.order new.nanoseconds new.number (drop taken.length bytes ++ more) =
    ap (λ (known : Records). records_at known.order known.nanoseconds known.number (drop taken.length bytes ++ more)) (sym is.counted) in
    step ∙ moved ∙ ap (λ (left : Reading). with_frame (first_recorded old.order old.nanoseconds bytes) left) counted
    ∙ by_frame taken.frame is.frame (records_at new.order new.nanoseconds new.number (drop taken.length bytes ++ more))
  where
    by_frame : (frame : Option Span) → HasFirst old bytes frame → (left : Reading) → with_frame (first_recorded old.order old.nanoseconds bytes) left ≡ with_span bytes frame left
    by_frame None has left = absurd has
    by_frame (Some span) has left = ap (λ (first : Recorded). with_frame first left) (sym has.0)

-- where no record can be taken, that is what there was
pub faulty_reads : (old : Records) (bytes more : List ℕ) (fault : CaptureFileFault) → 0 < length bytes → WhyNoRecord old bytes fault → AreEnough 262160 bytes more
    → records_at old.order old.nanoseconds old.number (bytes ++ more) ≡ stopped fault
faulty_reads old bytes more _ some (TooMany all) enough =
    let many : (old.number == 4294967295) ≡ true = eq-eqb old.number 4294967295 all in
    records_step old.order old.nanoseconds old.number (bytes ++ more) (longer bytes more some) ∙ rw many refl
faulty_reads old bytes more _ some (Broken fault few is) enough =
    let counted : (old.number == 4294967295) ≡ false = ne_eqb old.number 4294967295 few in
    let same : record_fault old.order (bytes ++ more) ≡ Some fault = by_enough enough ∙ is in
    records_step old.order old.nanoseconds old.number (bytes ++ more) (longer bytes more some) ∙ rw (counted, same) refl
  where
    by_enough : AreEnough 262160 bytes more → record_fault old.order (bytes ++ more) ≡ record_fault old.order bytes
    by_enough (inl none) = ap (λ (left : List ℕ). record_fault old.order (bytes ++ left)) none ∙ ap (λ (all : List ℕ). record_fault old.order all) (append-nil bytes)
    by_enough (inr long) = fault_same old.order bytes more long

-- a record that was split off is taken
pub record_taken : (old : Records) (bytes frame behind : List ℕ) (time original : ℕ) → (old.number ≡ 4294967295 → ⊥) → record_fault old.order bytes ≡ None
    → frame ≡ first_frame old.order bytes → behind ≡ behind_first old.order bytes
    → time ≡ nanoseconds_of old.nanoseconds (number_in old.order bytes) (number_in old.order (drop 4 bytes)) → original ≡ number_in old.order (drop 12 bytes)
    → IsRecord old bytes
    (record { length = length bytes - length behind; frame = Some (record { time = time; original = original; start = 16; length = length frame }) })
    (record old { number = old.number + 1 })
record_taken old bytes frame behind time original few whole frame_is behind_is time_is original_is =
    let size = whole_sizes old.order bytes whole in
    let stored = stored_length old.order bytes in
    let past : length (drop 16 bytes) ≡ length bytes - 16 = length-drop 16 bytes in
    let left : length behind ≡ length (drop 16 bytes) - stored = ap length behind_is ∙ length-drop stored (drop 16 bytes) in
    let kept : length frame ≡ stored = ap length frame_is ∙ length-take-le stored (drop 16 bytes) size.all in
    let taken : length bytes - length behind ≡ 16 + stored = omega (arith, past, left, size.long, size.all) in
    record {
      few = few;
      whole = whole;
      some = omega (arith, taken);
      within = omega arith;
      behind = ap (λ (n : ℕ). drop n bytes) taken ∙ sym (drop-drop stored 16 bytes);
      frame = (
        same_frame time original (length frame) time_is original_is kept,
        omega (arith, kept, past, size.all, size.long),
      );
      counted = refl;
    }
  where
    same_frame : (at many count : ℕ) → at ≡ nanoseconds_of old.nanoseconds (number_in old.order bytes) (number_in old.order (drop 4 bytes))
        → many ≡ number_in old.order (drop 12 bytes) → count ≡ stored_length old.order bytes
        → recorded_at bytes (record { time = at; original = many; start = 16; length = count }) ≡ first_recorded old.order old.nanoseconds bytes
    same_frame at many count at_is many_is count_is = rw (at_is, many_is, count_is) refl
