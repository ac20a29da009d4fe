-- The frames that are computed are those that the file is made of.
use Rattle.std.proofs.Common.{◌≡◌, ◌<◌, ◌≤◌, ℕ, zero, suc, ◌+◌, ◌%◌, ◌^◌, ◌==◌, Bool, true, false, List, [], ◌∷◌, ◌++◌, length, take, drop, Option, Some, None, arith, refl, ap, ◌∙◌, sym, length-drop, length-append}
use Rattle.std.specs.Prelude.{Result, Ok, Err, if◌then◌else◌, nat_lt}
use Rattle.std.proofs.lemmas.Bool.{le-ltb, ltb-false, eqb-true, ne_eqb}
use Rattle.std.proofs.lemmas.List.{take_at, drop_at, drop-append-le, take-append-drop, length-take-le}
use Rattle.std.proofs.lemmas.Bool.Decides.{nat_tests}
use Rattle.byteorder.specs.Endian.{big_number}
use Rattle.byteorder.specs.Numbers.{big_from-append, little_from-append}
use Rattle.capture.specs.Numbers.{number_in}
use Rattle.capture.specs.declared.fault.CaptureFault.{CaptureFault}
use Rattle.capture.specs.declared.fault.CaptureFault.TheVariants.{Torn}
use Rattle.capture.specs.declared.order.Order.{Order}
use Rattle.capture.specs.declared.order.Order.TheVariants.{HighFirst, LowFirst}
use Rattle.capture.specs.declared.record.RecordFault.{RecordFault}
use Rattle.capture.specs.Records.{order_of, link_of, header_by, header_of, stored_length, AreRecords, IsCapture, record_fault, first_frame, behind_first, frames_in, first_fault, or_later, capture_of}
use Rattle.capture.proofs.Walk.{fault_at, frames_whole, frames_none, fault_whole, fault_many, fault_step, behind_shorter}

-- ---- numbers stand in their own bytes

number_append : (order : Order) (xs ys : List ℕ) → 4 ≤ length xs → number_in order (xs ++ ys) ≡ number_in order xs
number_append HighFirst xs ys h = big_from-append 4 xs ys h
number_append LowFirst xs ys h = little_from-append 4 xs ys h

-- the number behind k bytes
pub number_behind : (k : ℕ) (order : Order) (xs ys : List ℕ) → k + 4 ≤ length xs → number_in order (drop k (xs ++ ys)) ≡ number_in order (drop k xs)
number_behind k order xs ys h =
    ap (λ (bytes : List ℕ). number_in order bytes) (drop-append-le k xs ys (omega (arith, h)))
    ∙ number_append order (drop k xs) ys (simp length-drop (omega (arith, h)))

-- ---- one record

stored_front : (order : Order) (front more : List ℕ) → length front ≡ 16 → stored_length order (front ++ more) ≡ stored_length order front
stored_front order front more sixteen = number_behind 8 order front more (omega (arith, sixteen))

-- what 16 bytes that give the length of a frame, and the frame, are read as
record IsFirst (order : Order) (bytes frame behind : List ℕ) : Type 0 where
  pub whole : record_fault order bytes ≡ None
  pub frame_is : first_frame order bytes ≡ frame
  pub behind_is : behind_first order bytes ≡ behind
  pub some : 16 ≤ length bytes

first_read : (order : Order) (front frame behind : List ℕ) → length front ≡ 16 → stored_length order front ≡ length frame → length frame ≤ 262144
    → IsFirst order (front ++ (frame ++ behind)) frame behind
first_read order front frame behind sixteen gives few =
    let bytes = front ++ (frame ++ behind) in
    let stored : stored_length order bytes ≡ length frame = stored_front order front (frame ++ behind) sixteen ∙ gives in
    let past : drop 16 bytes ≡ frame ++ behind = drop_at front (frame ++ behind) 16 sixteen in
    let long : 16 ≤ length bytes = simp length-append (omega (arith, sixteen)) in
    let a : nat_lt (length bytes) 16 ≡ false = le-ltb (length bytes) 16 long in
    let b : nat_lt 262144 (length frame) ≡ false = le-ltb 262144 (length frame) few in
    let d : nat_lt (length (frame ++ behind)) (length frame) ≡ false = le-ltb (length (frame ++ behind)) (length frame) (simp length-append (omega arith)) in
    record {
      whole = rw (stored, past, a, b, d) refl;
      frame_is = rw (stored, past) (take_at frame behind (length frame) refl);
      behind_is = rw (stored, past) (drop_at frame behind (length frame) refl);
      some = long;
    }

-- ---- from the frames to the reading

some_bytes : (bytes : List ℕ) → 16 ≤ length bytes → (length bytes == 0) ≡ false
some_bytes bytes long = ne_eqb (length bytes) 0 (λ none. omega (arith, long, none))

pub few_read : (order : Order) (n : ℕ) (frames : List (List ℕ)) (bytes : List ℕ) → AreRecords order bytes frames → n + length frames ≤ 4294967295
    → (fault_at order n bytes ≡ None) × (frames_in order bytes ≡ frames)
few_read order n [] bytes are few = rw are (refl, frames_none order [] refl)
few_read order n (frame ∷ frames) bytes (front, behind, parts, sixteen, gives, fits, rest) few =
    let first = first_read order front frame behind sixteen gives fits in
    let whole : record_fault order bytes ≡ None = rw parts first.whole in
    let frame_is : first_frame order bytes ≡ frame = rw parts first.frame_is in
    let behind_is : behind_first order bytes ≡ behind = rw parts first.behind_is in
    let some : (length bytes == 0) ≡ false = some_bytes bytes (rw parts first.some) in
    let counted : (n == 4294967295) ≡ false = ne_eqb n 4294967295 (λ all. omega (arith, few, all)) in
    let later = few_read order (n + 1) frames behind rest (omega (arith, few)) in (
      fault_whole order n bytes some counted whole ∙ ap (λ (left : List ℕ). fault_at order (n + 1) left) behind_is ∙ later.0,
      frames_whole order bytes whole ∙ (rw (frame_is, behind_is, later.1) refl),
    )

pub many_read : (order : Order) (n : ℕ) (frames : List (List ℕ)) (bytes : List ℕ) → AreRecords order bytes frames → n ≤ 4294967295 → 4294967295 < n + length frames
    → fault_at order n bytes ≡ Some (Torn 4294967295)
many_read order n [] bytes are within many = absurd (omega (arith, within, many))
many_read order n (frame ∷ frames) bytes (front, behind, parts, sixteen, gives, fits, rest) within many =
    let first = first_read order front frame behind sixteen gives fits in
    let whole : record_fault order bytes ≡ None = rw parts first.whole in
    let behind_is : behind_first order bytes ≡ behind = rw parts first.behind_is in
    let some : (length bytes == 0) ≡ false = some_bytes bytes (rw parts first.some) in
    elim (n == 4294967295) as (λ b. (n == 4294967295) ≡ b → fault_at order n bytes ≡ Some (Torn 4294967295)) [
      | true ↦ λ all. fault_many order n bytes some all ∙ ap (λ (k : ℕ). Some (Torn k)) (eqb-true n 4294967295 all)
      | false ↦ λ counted.
          let under : n + 1 ≤ 4294967295 = not_all n counted within in
          fault_whole order n bytes some counted whole ∙ ap (λ (left : List ℕ). fault_at order (n + 1) left) behind_is
          ∙ many_read order (n + 1) frames behind rest under (omega (arith, many))
    ] refl
  where
    not_all : (n : ℕ) → (n == 4294967295) ≡ false → n ≤ 4294967295 → n + 1 ≤ 4294967295
    not_all n counted within = grind (arith, nat_tests)

-- ---- from the reading to the frames

-- no fault by a first test, and none behind it
no_fault : {A : Type 0} (b : Bool) (fault : A) (later : Option A) → (if b then Some fault else later) ≡ None → (b ≡ false) × (later ≡ None)
no_fault true fault later is = absurd (cc)
no_fault false fault later is = (refl, is)

-- a whole record stores what its 16 bytes say, and no more than it may
pub record IsWhole (order : Order) (bytes : List ℕ) : Type 0 where
  pub long : 16 ≤ length bytes
  pub fits : stored_length order bytes ≤ 262144
  pub all : stored_length order bytes ≤ length (drop 16 bytes)

pub whole_sizes : (order : Order) (bytes : List ℕ) → record_fault order bytes ≡ None → IsWhole order bytes
whole_sizes order bytes whole =
    let a = no_fault _ _ _ whole in
    let b = no_fault _ _ _ a.1 in
    let d = no_fault _ _ _ b.1 in
    record {
      long = ltb-false (length bytes) 16 a.0;
      fits = ltb-false 262144 (stored_length order bytes) b.0;
      all = ltb-false (length (drop 16 bytes)) (stored_length order bytes) d.0;
    }

-- the parts of a whole record
whole_parts : (order : Order) (bytes : List ℕ) (frames : List (List ℕ)) → record_fault order bytes ≡ None → AreRecords order (behind_first order bytes) frames
    → AreRecords order bytes (first_frame order bytes ∷ frames)
whole_parts order bytes frames whole rest =
    let sizes = whole_sizes order bytes whole in
    let stored = stored_length order bytes in
    let sixteen : length (take 16 bytes) ≡ 16 = length-take-le 16 bytes sizes.long in
    let joined : take 16 bytes ++ drop 16 bytes ≡ bytes = take-append-drop 16 bytes in
    let gives : stored_length order (take 16 bytes) ≡ stored =
    sym (stored_front order (take 16 bytes) (drop 16 bytes) sixteen) ∙ ap (λ (all : List ℕ). stored_length order all) joined in
    let size : length (first_frame order bytes) ≡ stored = length-take-le stored (drop 16 bytes) sizes.all in (
      take 16 bytes,
      behind_first order bytes,
      sym joined ∙ ap (λ (more : List ℕ). take 16 bytes ++ more) (sym (take-append-drop stored (drop 16 bytes))),
      sixteen,
      gives ∙ sym size,
      rw size sizes.fits,
      rest,
    )

-- the first fault is none where the first record is whole and those behind it have none
none_here : (order : Order) (n : ℕ) (bytes : List ℕ) → (length bytes == 0) ≡ false → fault_at order n bytes ≡ None
    → (record_fault order bytes ≡ None) × (fault_at order (n + 1) (behind_first order bytes) ≡ None)
none_here order n bytes some none =
    let here = no_fault _ _ _ (rw some at (sym (fault_step order n bytes) ∙ none)) in
    not_later n (record_fault order bytes) (fault_at order (n + 1) (behind_first order bytes)) here.1
  where
    not_later : (n : ℕ) (fault : Option RecordFault) (later : Option CaptureFault) → or_later n fault later ≡ None → (fault ≡ None) × (later ≡ None)
    not_later n None later is = (refl, is)
    not_later n (Some fault) later is = absurd (cc)

pub records_read : (most : ℕ) (order : Order) (n : ℕ) (bytes : List ℕ) → length bytes ≤ most → fault_at order n bytes ≡ None → AreRecords order bytes (frames_in order bytes)
records_read most order n [] short none = rw (frames_none order [] refl) refl
records_read zero order n (x ∷ bytes) short none = absurd (omega (arith, short))
records_read (suc most) order n (x ∷ bytes) short none =
    let here = none_here order n (x ∷ bytes) (ne_eqb (length (x ∷ bytes)) 0 (λ empty. omega (arith, empty))) none in
    let behind = behind_first order (x ∷ bytes) in
    let rest = records_read most order (n + 1) behind (behind_shorter order (x ∷ bytes) most short) here.1 in
    rw (frames_whole order (x ∷ bytes) here.0) (whole_parts order (x ∷ bytes) (frames_in order behind) here.0 rest)

-- ---- the header

order_append : (header bytes : List ℕ) → length header ≡ 24 → order_of (header ++ bytes) ≡ order_of header
order_append header bytes whole =
    let magic : big_number 4 (header ++ bytes) ≡ big_number 4 header = big_from-append 4 header bytes (omega (arith, whole)) in
    let a : nat_lt (length (header ++ bytes)) 4 ≡ false = le-ltb (length (header ++ bytes)) 4 (simp length-append (omega (arith, whole))) in
    let b : nat_lt (length header) 4 ≡ false = le-ltb (length header) 4 (omega (arith, whole)) in
    rw (magic, a, b) refl

header_by_append : (order : Option Order) (header bytes : List ℕ) → length header ≡ 24 → header_by order (header ++ bytes) ≡ header_by order header
header_by_append None header bytes whole = refl
header_by_append (Some order) header bytes whole =
    let link : link_of order (header ++ bytes) ≡ link_of order header = ap (λ (n : ℕ). n % 2 ^ 16) (number_behind 20 order header bytes (omega (arith, whole))) in
    let a : nat_lt (length (header ++ bytes)) 24 ≡ false = le-ltb (length (header ++ bytes)) 24 (simp length-append (omega (arith, whole))) in
    let b : nat_lt (length header) 24 ≡ false = le-ltb (length header) 24 (omega (arith, whole)) in
    rw (link, a, b) refl

-- no byte behind the header is looked at
pub header_append : (header bytes : List ℕ) → length header ≡ 24 → header_of (header ++ bytes) ≡ header_of header
header_append header bytes whole = rw (order_append header bytes whole) (header_by_append (order_of header) header bytes whole)

pub header_long : (file : List ℕ) (order : Order) → header_of file ≡ Ok order → 24 ≤ length file
header_long file order is = long_by (order_of file) is
  where
    long_if : {A B : Type 0} (b : Bool) (x : A) (fault : B) (more : Result A B) → (if b then Err fault else more) ≡ Ok x → b ≡ false
    long_if true x fault more is = absurd (cc)
    long_if false x fault more is = refl

    long_by : (found : Option Order) → header_by found file ≡ Ok order → 24 ≤ length file
    long_by None is = absurd (cc)
    long_by (Some found) is = ltb-false (length file) 24 (long_if _ _ _ _ is)

-- ---- the file

pub is_capture : (file : List ℕ) (order : Order) → header_of file ≡ Ok order → first_fault order (drop 24 file) ≡ None → IsCapture file (frames_in order (drop 24 file))
unfolding first_fault
is_capture file order header none =
    let whole : length (take 24 file) ≡ 24 = length-take-le 24 file (header_long file order header) in
    let joined : take 24 file ++ drop 24 file ≡ file = take-append-drop 24 file in
    record {
      header = take 24 file;
      bytes = drop 24 file;
      order = order;
      parts = sym joined;
      header_length = whole;
      header_order = sym (header_append (take 24 file) (drop 24 file) whole) ∙ ap (λ (all : List ℕ). header_of all) joined ∙ header;
      are_records = records_read (length (drop 24 file)) order 0 (drop 24 file) (omega arith) none;
    }

-- how a capture begins
header_is : (file : List ℕ) (frames : List (List ℕ)) (capture : IsCapture file frames) → header_of file ≡ Ok capture.order
header_is file frames capture =
    ap (λ (all : List ℕ). header_of all) capture.parts ∙ header_append capture.header capture.bytes capture.header_length ∙ capture.header_order

behind_is : (file : List ℕ) (frames : List (List ℕ)) (capture : IsCapture file frames) → drop 24 file ≡ capture.bytes
behind_is file frames capture =
    ap (λ (all : List ℕ). drop 24 all) capture.parts ∙ drop_at capture.header capture.bytes 24 capture.header_length

pub few_frames : (file : List ℕ) (frames : List (List ℕ)) → IsCapture file frames → length frames < 2 ^ 32 → capture_of file ≡ Ok frames
unfolding capture_of first_fault
few_frames file frames capture few =
    let read = few_read capture.order 0 frames capture.bytes capture.are_records (omega (arith, few)) in
    rw (header_is file frames capture, behind_is file frames capture, read.0, read.1) refl

pub many_frames : (file : List ℕ) (frames : List (List ℕ)) → IsCapture file frames → 2 ^ 32 ≤ length frames → capture_of file ≡ Err (Torn 4294967295)
unfolding capture_of first_fault
many_frames file frames capture many =
    let read = many_read capture.order 0 frames capture.bytes capture.are_records (omega arith) (omega (arith, many)) in
    rw (header_is file frames capture, behind_is file frames capture, read) refl
