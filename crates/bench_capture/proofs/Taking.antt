-- Taking a record or a block from the front of bytes, and the beginning of a file.
use Rattle.std.proofs.Common.{◌≡◌, ◌≤◌, ◌<◌, ℕ, ◌+◌, inl, inr, Bool, true, false, List, ◌++◌, length, take, drop, Option, Some, None, arith, refl, sym, ap, ◌∙◌, append-nil, append_assoc}
use Rattle.std.specs.Prelude.{◌==◌, ◌⊎◌, if◌then◌else◌, Result, Ok, Err, IfSome, option_map}
use Rattle.std.proofs.lemmas.Bool.{cases_lt}
use Rattle.std.proofs.lemmas.List.{drop-append-le, length-take-le, take-append-drop}
use Rattle.byteorder.specs.Numbers.{big_from-append, little_from-append}
use Rattle.bench_capture.specs.Classic.{classic_of, has_nanoseconds, records_at, records_behind}
use Rattle.bench_capture.specs.Faults.{of_classic}
use Rattle.bench_capture.specs.File.{reading_in, reading_of}
use Rattle.bench_capture.specs.Formats.{AreEnough, IsFaulty, IsTaken, IsWithin, OpensLong, Takes, frame_fault_of, past_by, span_of, taken_of, wanted_to_open, with_span}
use Rattle.bench_capture.specs.Reading.{stopped, with_frame}
use Rattle.bench_capture.specs.Records.{HasFirst, IsRecord, WhyNoRecord}
use Rattle.bench_capture.specs.declared.classic.Records.{Records}
use Rattle.bench_capture.specs.declared.fault.CaptureFileFault.{CaptureFileFault}
use Rattle.bench_capture.specs.declared.fault.CaptureFileFault.TheVariants.{Header}
use Rattle.bench_capture.specs.declared.format.Format.TheVariants.{Classic, Pcapng}
use Rattle.bench_capture.specs.declared.span.Span.{Span}
use Rattle.bench_capture.specs.declared.span.Taken.{Taken}
use Rattle.bench_capture.proofs.Classics.{faulty_reads, taken_reads}
use Rattle.bench_pcapng.specs.Blocks.{wanted_length}
use Rattle.bench_capture.specs.declared.pieces.Pieces.{Pieces}
use Rattle.bench_pcapng.specs.Passing.{as_first, at_first, first_passing_of, going_on, kept_of, passing_at, passing_of, step_within, without}
use Rattle.bench_pcapng.specs.Read.{ComesTo, IsBlock, IsRead, Reads}
use Rattle.bench_pcapng.specs.Reading as pcapng
use Rattle.bench_pcapng.specs.Reading.{Fails, Place, Progress, Step, after_step, is_pcapng, opened, place_at, step_of}
use Rattle.bench_pcapng.specs.declared.blocks.Block.{Block}
use Rattle.bench_pcapng.specs.declared.blocks.Located.{Located}
use Rattle.bench_pcapng.specs.declared.fault.PcapngFault.{PcapngFault}
use Rattle.bench_pcapng.specs.declared.fault.PcapngFault.TheVariants as faults
use Rattle.bench_pcapng.specs.declared.order.Order.TheVariants as orders
use Rattle.bench_pcapng.specs.declared.passing.Passing.{Passing}
use Rattle.bench_pcapng.specs.declared.passing.Past.{Past}
use Rattle.bench_pcapng.proofs.Fronts.{fails_last, fails_on, not_opened_more, opened_more, passes_on, told_long, told_more, yields_on}
use Rattle.bench_pcapng.proofs.Held.{let_kept, passed_held, passed_kept}
use Rattle.bench_pcapng.proofs.LettingGo.{let_go, let_within}
use Rattle.bench_pcapng.proofs.PassedOver.{passed_reads, passed_within}
use Rattle.bench_pcapng.proofs.Readings.{passes_further, yields_further}
use Rattle.bench_pcapng.proofs.Rests.{first_passed, rest_fails_on, rest_number, rest_passes_on, rest_yields_on}
use Rattle.capture.specs.Records.{header_of}
use Rattle.capture.specs.declared.fault.CaptureFault as classic
use Rattle.capture.specs.declared.order.Order.{Order}
use Rattle.capture.specs.declared.order.Order.TheVariants.{HighFirst, LowFirst}
use Rattle.capture.proofs.Captures.{header_append, header_long}

-- ---- records

pub classic_taken : (old new : Records) (bytes : List ℕ) (taken : Taken) → IsRecord old bytes taken new → IsTaken (Classic old) bytes taken (Classic new)
classic_taken old new bytes taken is = record {
  some = omega (arith, is.some);
  within = is.within;
  span = by_frame taken.frame is.frame;
  counted = omega arith;
  reads = λ more. taken_reads old new bytes more taken is;
}
  where
    by_frame : (frame : Option Span) → HasFirst old bytes frame → IfSome frame (IsWithin bytes)
    by_frame None has = absurd has
    by_frame (Some span) has = has.1

pub classic_faulty : (old new : Records) (bytes : List ℕ) (fault : CaptureFileFault) → 0 < length bytes → WhyNoRecord old bytes fault × (new ≡ old)
    → IsFaulty (Classic old) bytes fault (Classic new)
classic_faulty old new bytes fault some why = record {
  same = ap (λ (known : Records). Classic known) why.1;
  reads = λ more enough. faulty_reads old bytes more fault some why.0 enough;
}

-- ---- blocks

-- between two of them
abbrev pub between : Progress → Pieces
between known = record { blocks = known; passing = None }

-- what a step came to is what there was to be read
block_reads : (old new : Progress) (bytes behind more : List ℕ) (packet : Option Located) → 0 < length bytes → ComesTo (step_of (place_at old bytes)) bytes packet behind new
    → reading_in (pcapng.reading_at (place_at old (bytes ++ more)))
    ≡ with_span bytes (option_map span_of packet) (reading_in (pcapng.reading_at (place_at new (behind ++ more))))
block_reads old new bytes behind more None some comes =
    ap (λ (all : pcapng.Reading). reading_in all) (passes_on old new bytes behind more some comes)
block_reads old new bytes behind more (Some located) some comes =
    let later = reading_in (pcapng.reading_at (place_at new (behind ++ more))) in
    ap (λ (all : pcapng.Reading). reading_in all) (yields_on old new bytes behind more located.packet some comes.0)
    ∙ ap (λ (stored : List ℕ). with_frame (record { time = located.packet.time; original = located.packet.original; bytes = stored }) later) comes.1.stored

block_counts : (old new : Progress) (bytes behind : List ℕ) (packet : Option Located) → ComesTo (step_of (place_at old bytes)) bytes packet behind new → new.number ≡ old.number + 1
block_counts old new bytes behind None comes = (passes_further (place_at old bytes) (place_at new behind) comes).number
block_counts old new bytes behind (Some located) comes = (yields_further (place_at old bytes) (place_at new behind) located.packet comes.0).number

pub block_taken : (old new : Progress) (bytes : List ℕ) (block : Block) → 0 < length bytes → IsBlock 12 (step_of (place_at old bytes)) bytes block new
    → IsTaken (Pcapng (between old)) bytes (taken_of block) (Pcapng (between new))
block_taken old new bytes block some is =
    let counts = block_counts old new bytes (drop block.length bytes) block.packet is.comes in
    record {
      some = omega (arith, is.some);
      within = is.within;
      span = by_packet block.packet is.comes;
      counted = omega (arith, counts, is.some);
      reads = λ more. block_reads old new bytes (drop block.length bytes) more block.packet some is.comes;
    }
  where
    by_packet : (packet : Option Located) → ComesTo (step_of (place_at old bytes)) bytes packet (drop block.length bytes) new → IfSome (option_map span_of packet) (IsWithin bytes)
    by_packet None comes = tt
    by_packet (Some located) comes = comes.1.within

block_fails : (old : Progress) (bytes more : List ℕ) (fault : PcapngFault) → 0 < length bytes → AreEnough (wanted_length old.order bytes) bytes more
    → step_of (place_at old bytes) ≡ Fails fault → pcapng.reading_at (place_at old (bytes ++ more)) ≡ pcapng.stopped fault
block_fails old bytes more fault some (inl none) is =
    ap (λ (left : List ℕ). pcapng.reading_at (place_at old (bytes ++ left))) none
    ∙ ap (λ (all : List ℕ). pcapng.reading_at (place_at old all)) (append-nil bytes)
    ∙ fails_last old bytes fault some is
block_fails old bytes more fault some (inr enough) is = fails_on old bytes more fault some enough is

block_faulty_by : (old new : Progress) (bytes : List ℕ) (fault : PcapngFault) (told : CaptureFileFault) → 0 < length bytes
    → (step_of (place_at old bytes) ≡ Fails fault) × (new ≡ old) → reading_in (pcapng.stopped fault) ≡ stopped told → IsFaulty (Pcapng (between old)) bytes told (Pcapng (between new))
block_faulty_by old new bytes fault told some is same = record {
  same = ap (λ (known : Progress). Pcapng (between known)) is.1;
  reads = λ more enough. ap (λ (all : pcapng.Reading). reading_in all) (block_fails old bytes more fault some enough is.0) ∙ same;
}

pub block_faulty : (old new : Progress) (bytes : List ℕ) (fault : PcapngFault) → 0 < length bytes → IsRead old bytes (Err fault) new
    → Takes (Pcapng (between old)) bytes (Err (frame_fault_of fault)) (Pcapng (between new))
block_faulty old new bytes faults.Header some is = block_faulty_by old new bytes _ _ some is refl
block_faulty old new bytes (faults.Link link) some is = block_faulty_by old new bytes _ _ some is refl
block_faulty old new bytes (faults.Torn n) some is = block_faulty_by old new bytes _ _ some is refl
block_faulty old new bytes (faults.TooLong n) some is = block_faulty_by old new bytes _ _ some is refl
block_faulty old new bytes faults.NoMemory some is = ap (λ (known : Progress). Pcapng (between known)) is

-- ---- a block that is passed over

-- within it
abbrev pub within : Progress → Passing → Pieces
within known passing = record { blocks = known; passing = Some passing }

-- what its end came to is what there was to be read
rest_reads : (old new : Progress) (passing : Passing) (bytes behind more : List ℕ) (packet : Option Located) → ComesTo (step_within old passing bytes) bytes packet behind new
    → reading_in (passing_at old passing (bytes ++ more))
    ≡ with_span bytes (option_map span_of packet) (reading_in (pcapng.reading_at (place_at new (behind ++ more))))
rest_reads old new passing bytes behind more None comes =
    ap (λ (all : pcapng.Reading). reading_in all) (rest_passes_on old new passing bytes behind more comes)
rest_reads old new passing bytes behind more (Some located) comes =
    let later = reading_in (pcapng.reading_at (place_at new (behind ++ more))) in
    ap (λ (all : pcapng.Reading). reading_in all) (rest_yields_on old new passing bytes behind more located.packet comes.0)
    ∙ ap (λ (stored : List ℕ). with_frame (record { time = located.packet.time; original = located.packet.original; bytes = stored }) later) comes.1.stored

rest_counts : (old new : Progress) (passing : Passing) (bytes behind : List ℕ) (packet : Option Located) → ComesTo (step_within old passing bytes) bytes packet behind new → new.number ≡ old.number + 1
rest_counts old new passing bytes behind None comes = rest_number old passing bytes (place_at new behind) (rw comes refl)
rest_counts old new passing bytes behind (Some located) comes = rest_number old passing bytes (place_at new behind) (rw comes.0 refl)

pub rest_taken : (old new : Progress) (passing : Passing) (bytes : List ℕ) (block : Block) → Reads 4 (step_within old passing bytes) old bytes (Ok block) new
    → IsTaken (Pcapng (within old passing)) bytes (taken_of block) (Pcapng (between new))
rest_taken old new passing bytes block is =
    let counts = rest_counts old new passing bytes (drop block.length bytes) block.packet is.comes in
    record {
      some = omega (arith, is.some);
      within = is.within;
      span = by_packet block.packet is.comes;
      counted = omega (arith, counts, is.some);
      reads = λ more. rest_reads old new passing bytes (drop block.length bytes) more block.packet is.comes;
    }
  where
    by_packet : (packet : Option Located) → ComesTo (step_within old passing bytes) bytes packet (drop block.length bytes) new → IfSome (option_map span_of packet) (IsWithin bytes)
    by_packet None comes = tt
    by_packet (Some located) comes = comes.1.within

rest_faulty_by : (old new : Progress) (passing : Passing) (bytes : List ℕ) (fault : PcapngFault) (told : CaptureFileFault) → (step_within old passing bytes ≡ Fails fault) × (new ≡ old)
    → reading_in (pcapng.stopped fault) ≡ stopped told → IsFaulty (Pcapng (within old passing)) bytes told (Pcapng (within new passing))
rest_faulty_by old new passing bytes fault told is same = record {
  same = ap (λ (known : Progress). Pcapng (within known passing)) is.1;
  reads = λ more enough. ap (λ (all : pcapng.Reading). reading_in all) (rest_fails_on old passing bytes more fault enough is.0) ∙ same;
}

pub rest_faulty : (old new : Progress) (passing : Passing) (bytes : List ℕ) (fault : PcapngFault) → Reads 4 (step_within old passing bytes) old bytes (Err fault) new
    → Takes (Pcapng (within old passing)) bytes (Err (frame_fault_of fault)) (Pcapng (within new passing))
rest_faulty old new passing bytes faults.Header is = rest_faulty_by old new passing bytes _ _ is refl
rest_faulty old new passing bytes (faults.Link link) is = rest_faulty_by old new passing bytes _ _ is refl
rest_faulty old new passing bytes (faults.Torn n) is = rest_faulty_by old new passing bytes _ _ is refl
rest_faulty old new passing bytes (faults.TooLong n) is = rest_faulty_by old new passing bytes _ _ is refl
rest_faulty old new passing bytes faults.NoMemory is = ap (λ (known : Progress). Pcapng (within known passing)) is

-- ---- bytes that are let go

pub past_goes : (known : Progress) (passing : Option Passing) (bytes more : List ℕ) (past : Past) → past_by passing known bytes ≡ Some past
    → reading_in (passing_at known past.left (without past bytes ++ more)) ≡ reading_in (going_on known passing (bytes ++ more))
past_goes known None bytes more past is = ap (λ (all : pcapng.Reading). reading_in all) (sym (passed_reads known bytes more past is))
past_goes known (Some passing) bytes more past is =
    ap (λ (step : Step). reading_in (after_step (λ (next : Place). pcapng.reading_at next) step)) (sym (let_go known passing bytes more past is))

pub past_within : (known : Progress) (passing : Option Passing) (bytes : List ℕ) (past : Past) → past_by passing known bytes ≡ Some past → past.start + past.length ≤ length bytes
past_within known None bytes past is = passed_within known bytes past is
past_within known (Some passing) bytes past is = let_within passing bytes past is

pub past_kept : (known : Progress) (passing : Option Passing) (bytes : List ℕ) (past : Past) → past_by passing known bytes ≡ Some past
    → IfSome passing (λ block. kept_of block.outcome ≤ 262164) → kept_of past.left.outcome ≤ 262164
past_kept known None bytes past is few = passed_kept known bytes past is
past_kept known (Some passing) bytes past is few = omega (arith, let_kept passing bytes past is, few)

-- ---- the beginning of a file in the classic format

-- 24 bytes are the header, whatever follows
header_more : (file more : List ℕ) → 24 ≤ length file → header_of (file ++ more) ≡ header_of file
header_more file more long =
    let front : length (take 24 file) ≡ 24 = length-take-le 24 file long in
    let joined : take 24 file ++ drop 24 file ≡ file = take-append-drop 24 file in
    ap (λ (all : List ℕ). header_of (all ++ more)) (sym joined)
    ∙ ap (λ (all : List ℕ). header_of all) (append_assoc (take 24 file) (drop 24 file) more)
    ∙ header_append (take 24 file) (drop 24 file ++ more) front
    ∙ sym (header_append (take 24 file) (drop 24 file) front)
    ∙ ap (λ (all : List ℕ). header_of all) joined

magic_more : (order : Order) (file more : List ℕ) → 4 ≤ length file → has_nanoseconds order (file ++ more) ≡ has_nanoseconds order file
magic_more HighFirst file more long = ap (λ (n : ℕ). n == 0xa1b23c4d) (big_from-append 4 file more long)
magic_more LowFirst file more long = ap (λ (n : ℕ). n == 0xa1b23c4d) (little_from-append 4 file more long)

classic_file : (file : List ℕ) → is_pcapng file ≡ false → reading_of file ≡ records_behind (header_of file) file
unfolding reading_of classic_of
classic_file file other = rw other refl

pub classic_opened : (file : List ℕ) (order : Order) → is_pcapng file ≡ false → header_of file ≡ Ok order
    → (more : List ℕ) → reading_of (file ++ more) ≡ records_at order (has_nanoseconds order file) 0 (drop 24 file ++ more)
classic_opened file order other is more =
    let long : 24 ≤ length file = header_long file order is in
    classic_file (file ++ more) (told_more file more (omega (arith, long)) ∙ other)
    ∙ ap (λ (header : Result Order classic.CaptureFault). records_behind header (file ++ more)) (header_more file more long ∙ is)
    ∙ ap (λ (nanoseconds : Bool). records_at order nanoseconds 0 (drop 24 (file ++ more))) (magic_more order file more (omega (arith, long)))
    ∙ ap (λ (left : List ℕ). records_at order (has_nanoseconds order file) 0 left) (drop-append-le 24 file more long)

pub classic_not_opened : (file : List ℕ) (fault : classic.CaptureFault) → is_pcapng file ≡ false → header_of file ≡ Err fault
    → (more : List ℕ) → AreEnough (wanted_to_open file) file more → reading_of (file ++ more) ≡ stopped (of_classic fault)
classic_not_opened file fault other is more (inl none) =
    ap (λ (left : List ℕ). reading_of (file ++ left)) none
    ∙ ap (λ (all : List ℕ). reading_of all) (append-nil file)
    ∙ classic_file file other
    ∙ ap (λ (header : Result Order classic.CaptureFault). records_behind header file) is
classic_not_opened file fault other is more (inr enough) =
    let long : 24 ≤ length file = rw other at enough in
    classic_file (file ++ more) (told_more file more (omega (arith, long)) ∙ other)
    ∙ ap (λ (header : Result Order classic.CaptureFault). records_behind header (file ++ more)) (header_more file more long ∙ is)

-- ---- the beginning of a file in the pcapng format

pcapng_file : (file : List ℕ) → is_pcapng file ≡ true → reading_of file ≡ reading_in (pcapng.reading_behind (opened file))
unfolding reading_of pcapng.reading_of
pcapng_file file told = rw told refl

pub pcapng_opened : (file : List ℕ) (known : Progress) (size : ℕ) → is_pcapng file ≡ true → opened file ≡ Some (place_at known (drop size file))
    → (more : List ℕ) → reading_of (file ++ more) ≡ reading_in (pcapng.reading_at (place_at known (drop size file ++ more)))
pcapng_opened file known size told is more =
    pcapng_file (file ++ more) (told_more file more (told_long file told) ∙ told)
    ∙ ap (λ (place : Option Place). reading_in (pcapng.reading_behind place)) (opened_more file more (place_at known (drop size file)) is)

pub pcapng_not_opened : (file : List ℕ) → is_pcapng file ≡ true → opened file ≡ None
    → (more : List ℕ) → AreEnough (wanted_to_open file) file more → reading_of (file ++ more) ≡ stopped Header
pcapng_not_opened file told is more (inl none) =
    ap (λ (left : List ℕ). reading_of (file ++ left)) none
    ∙ ap (λ (all : List ℕ). reading_of all) (append-nil file)
    ∙ pcapng_file file told
    ∙ ap (λ (place : Option Place). reading_in (pcapng.reading_behind place)) is
pcapng_not_opened file told is more (inr wanted) =
    let enough : wanted_length orders.HighFirst file ≤ length file = rw told at wanted in
    pcapng_file (file ++ more) (told_more file more (told_long file told) ∙ told)
    ∙ ap (λ (place : Option Place). reading_in (pcapng.reading_behind place)) (not_opened_more file more told enough is)

-- ---- a first block that isn't held

module _ (file : List ℕ) where
  -- how it is passed over is how any other would be
  first_past : (past : Past) → first_passing_of file ≡ Some past → (other : Past) × (passing_of at_first file ≡ Some other) × (as_first other ≡ past)
  first_past past is = by_told (is_pcapng file) is
    where
      by_past : (found : Option Past) → passing_of at_first file ≡ found → option_map (λ other. as_first other) found ≡ Some past
          → (other : Past) × (passing_of at_first file ≡ Some other) × (as_first other ≡ past)
      by_past None passes same = absurd (cc)
      by_past (Some other) passes same = (other, passes, cc)

      by_told : (told : Bool) → (if told then option_map (λ other. as_first other) (passing_of at_first file) else None) ≡ Some past
          → (other : Past) × (passing_of at_first file ≡ Some other) × (as_first other ≡ past)
      by_told false same = absurd (cc)
      by_told true same = by_past (passing_of at_first file) refl same

  pub first_opened : (known : Progress) (past : Past) → known ≡ at_first → first_passing_of file ≡ Some past
      → OpensLong file (Some (Pcapng (within known past.left), record { start = past.start; length = past.length }))
  unfolding reading_of
  first_opened known past at is =
      let found = first_past past is in
      let start : found.0.start ≡ past.start = ap (λ (p : Past). p.start) found.2 in
      let size : found.0.length ≡ past.length = ap (λ (p : Past). p.length) found.2 in
      let kept : kept_of found.0.left.outcome ≡ kept_of past.left.outcome = ap (λ (p : Past). kept_of p.left.outcome) found.2 in (
        omega (arith, start, size, passed_within at_first file found.0 found.1),
        omega (arith, kept, passed_kept at_first file found.0 found.1),
        λ more. told_is (file ++ more) (told_more file more (told_long file (first_told past is)) ∙ first_told past is)
            ∙ ap (λ (all : pcapng.Reading). reading_in all) (first_passed file more past is ∙ ap (λ (start_is : Progress). passing_at start_is past.left (without past file ++ more)) (sym at)),
      )
    where
      told_is : (all : List ℕ) → is_pcapng all ≡ true → reading_of all ≡ reading_in (pcapng.reading_of all)
      told_is all told = rw told refl

      first_told : (past : Past) → first_passing_of file ≡ Some past → is_pcapng file ≡ true
      first_told past is = by_told (is_pcapng file) is
        where
          by_told : (told : Bool) → (if told then option_map (λ other. as_first other) (passing_of at_first file) else None) ≡ Some past → told ≡ true
          by_told false same = absurd (cc)
          by_told true same = refl

  -- it isn't passed over where few of its bytes are held, or enough of them
  pub first_held : first_passing_of file ≡ None → (wanted_to_open file ≤ length file) ⊎ (length file < 262176)
  first_held is = by_told (is_pcapng file) is
    where
      by_past : (found : Option Past) → passing_of at_first file ≡ found → option_map (λ other. as_first other) found ≡ None
          → (wanted_length orders.HighFirst file ≤ length file) ⊎ (length file < 262176)
      by_past None passes same = passed_held at_first file passes
      by_past (Some other) passes same = absurd (cc)

      by_told : (told : Bool) → (if told then option_map (λ other. as_first other) (passing_of at_first file) else None) ≡ None
          → ((if told then wanted_length orders.HighFirst file else 24) ≤ length file) ⊎ (length file < 262176)
      by_told true same = by_past (passing_of at_first file) refl same
      by_told false same = elim (cases_lt (length file) 24) [ inl short ↦ inr (omega (arith, short)) | inr long ↦ inl long ]
