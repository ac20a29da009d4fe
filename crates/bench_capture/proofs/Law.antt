-- Classic captures are those of `capture`.
use Rattle.std.proofs.Common.{◌≡◌, ℕ, zero, suc, ◌+◌, ◌==◌, Bool, true, false, List, [], ◌∷◌, length, drop, map, Option, Some, None, arith, refl, ap, ◌∙◌}
use Rattle.std.specs.Prelude.{Result, Ok, Err, if◌then◌else◌, is_some, option_map}
use Rattle.std.proofs.lemmas.Bool.{ne_eqb}
use Rattle.bench_capture.specs.Classic.{classic_of, first_recorded, has_nanoseconds, record_or_fault, records_at, records_behind, records_from}
use Rattle.bench_capture.specs.Faults.{of_classic}
use Rattle.bench_capture.specs.File.{reading_of}
use Rattle.bench_capture.specs.Reading.{Reading, nothing_left, stopped}
use Rattle.bench_capture.specs.Recorded.{Recorded}
use Rattle.bench_capture.specs.declared.fault.CaptureFileFault.TheVariants as faults_here
use Rattle.bench_pcapng.specs.Reading.{is_pcapng}
use Rattle.capture.specs.Records as classic
use Rattle.capture.specs.declared.fault.CaptureFault.{CaptureFault}
use Rattle.capture.specs.declared.fault.CaptureFault.TheVariants.{Torn}
use Rattle.capture.specs.declared.order.Order.{Order}
use Rattle.capture.specs.declared.record.RecordFault.{RecordFault}
use Rattle.capture.specs.declared.record.RecordFault.TheVariants as faults

-- the fault of a record is the same
fault_by : (n : ℕ) (found : Option RecordFault) (frame : Recorded) (later : Reading) (behind : Option CaptureFault) → later.fault ≡ option_map of_classic behind
    → (record_or_fault n found frame later).fault ≡ option_map of_classic (classic.or_later n found behind)
fault_by n (Some faults.Torn) frame later behind same = refl
fault_by n (Some faults.TooLong) frame later behind same = refl
fault_by n None frame later behind same = same

fault_if : (ends many : Bool) (n : ℕ) (here : Reading) (first : Option CaptureFault) → here.fault ≡ option_map of_classic first
    → (if ends then nothing_left else (if many then stopped (faults_here.Torn n) else here)).fault
    ≡ option_map of_classic (if ends then None else (if many then Some (Torn n) else first))
fault_if true many n here first same = refl
fault_if false true n here first same = refl
fault_if false false n here first same = same

-- the first fault is the same
fault_from : (most : ℕ) (order : Order) (nanoseconds : Bool) (n : ℕ) (bytes : List ℕ)
    → (records_from most order nanoseconds n bytes).fault ≡ option_map of_classic (classic.fault_from most order n bytes)
fault_from zero order nanoseconds n bytes = refl
fault_from (suc most) order nanoseconds n bytes =
    let behind = classic.behind_first order bytes in
    let later = records_from most order nanoseconds (n + 1) behind in
    let found = classic.record_fault order bytes in
    let frame = first_recorded order nanoseconds bytes in
    fault_if (length bytes == 0) (n == 4294967295) n (record_or_fault n found frame later)
    (classic.or_later n found (classic.fault_from most order (n + 1) behind))
    (fault_by n found frame later (classic.fault_from most order (n + 1) behind) (fault_from most order nanoseconds (n + 1) behind))

-- ---- the frames

-- the bytes that the frames store
abbrev stored_in : Reading → List (List ℕ)
stored_in reading = map (λ frame. frame.bytes) reading.frames

frames_by : (n : ℕ) (found : Option RecordFault) (frame : Recorded) (later : Reading) (behind : Option CaptureFault) (frames : List (List ℕ))
    → classic.or_later n found behind ≡ None → (behind ≡ None → stored_in later ≡ frames)
    → stored_in (record_or_fault n found frame later) ≡ (if is_some found then [] else frame.bytes ∷ frames)
frames_by n (Some fault) frame later behind frames none same = absurd (cc)
frames_by n None frame later behind frames none same = ap (λ (all : List (List ℕ)). frame.bytes ∷ all) (same none)

frames_if : (many : Bool) (n : ℕ) (here : Reading) (first : Option CaptureFault) (frames : List (List ℕ))
    → (if many then Some (Torn n) else first) ≡ None → (first ≡ None → stored_in here ≡ frames)
    → stored_in (if many then stopped (faults_here.Torn n) else here) ≡ frames
frames_if true n here first frames none same = absurd (cc)
frames_if false n here first frames none same = same none

-- where there is no fault, the frames are the same
frames_from : (most : ℕ) (order : Order) (nanoseconds : Bool) (n : ℕ) (bytes : List ℕ) → classic.fault_from most order n bytes ≡ None
    → stored_in (records_from most order nanoseconds n bytes) ≡ classic.frames_from most order bytes
frames_from zero order nanoseconds n bytes none = refl
frames_from (suc most) order nanoseconds n [] none = refl
frames_from (suc most) order nanoseconds n (x ∷ rest) none =
    let bytes = x ∷ rest in
    let behind = classic.behind_first order bytes in
    let later = records_from most order nanoseconds (n + 1) behind in
    let found = classic.record_fault order bytes in
    let frame = first_recorded order nanoseconds bytes in
    let beyond = classic.fault_from most order (n + 1) behind in
    let some : (length bytes == 0) ≡ false = ne_eqb (length bytes) 0 (λ empty. omega (arith, empty)) in
    let here = rw some at none in
    rw some
    (frames_if (n == 4294967295) n (record_or_fault n found frame later) (classic.or_later n found beyond) _ here
    (λ first. frames_by n found frame later beyond (classic.frames_from most order behind) first (λ behind_none. frames_from most order nanoseconds (n + 1) behind behind_none)))

-- ---- the file

by_header : (header : Result Order CaptureFault) (file : List ℕ) (frames : List (List ℕ)) → classic.frames_behind header (drop 24 file) ≡ Ok frames
    → (stored_in (records_behind header file) ≡ frames) × ((records_behind header file).fault ≡ None)
unfolding records_at classic.frames_in classic.first_fault
by_header (Err fault) file frames is = absurd (cc)
by_header (Ok order) file frames is =
    let bytes = drop 24 file in
    let nanoseconds = has_nanoseconds order file in
    let read = whole (classic.fault_from (length bytes) order 0 bytes) (classic.frames_from (length bytes) order bytes) is in (
      frames_from (length bytes) order nanoseconds 0 bytes read.0 ∙ read.1,
      fault_from (length bytes) order nanoseconds 0 bytes ∙ ap (λ (found : Option CaptureFault). option_map of_classic found) read.0,
    )
  where
    whole : (found : Option CaptureFault) (all : List (List ℕ)) → classic.or_fault found all ≡ Ok frames → (found ≡ None) × (all ≡ frames)
    whole (Some fault) all same = absurd (cc)
    whole None all same = (refl, cc)

by_fault : (header : Result Order CaptureFault) (file : List ℕ) (fault : CaptureFault) → classic.frames_behind header (drop 24 file) ≡ Err fault
    → (records_behind header file).fault ≡ Some (of_classic fault)
unfolding records_at classic.frames_in classic.first_fault
by_fault (Err other) file fault is = let same : other ≡ fault = cc in ap (λ (found : CaptureFault). Some (of_classic found)) same
by_fault (Ok order) file fault is =
    let bytes = drop 24 file in
    let first = broken (classic.fault_from (length bytes) order 0 bytes) (classic.frames_from (length bytes) order bytes) is in
    fault_from (length bytes) order (has_nanoseconds order file) 0 bytes ∙ ap (λ (found : Option CaptureFault). option_map of_classic found) first
  where
    broken : (found : Option CaptureFault) (all : List (List ℕ)) → classic.or_fault found all ≡ Err fault → found ≡ Some fault
    broken (Some other) all same = let is_same : other ≡ fault = cc in ap (λ (one : CaptureFault). Some one) is_same
    broken None all same = absurd (cc)

pub sound : (file : List ℕ) (frames : List (List ℕ)) → is_pcapng file ≡ false → classic.capture_of file ≡ Ok frames
    → (map (λ frame. frame.bytes) (reading_of file).frames ≡ frames) × ((reading_of file).fault ≡ None)
unfolding reading_of classic_of classic.capture_of
sound file frames other is = rw other (by_header (classic.header_of file) file frames is)

pub faulty : (file : List ℕ) (fault : CaptureFault) → is_pcapng file ≡ false → classic.capture_of file ≡ Err fault
    → (reading_of file).fault ≡ Some (of_classic fault)
unfolding reading_of classic_of classic.capture_of
faulty file fault other is = rw other (by_fault (classic.header_of file) file fault is)
