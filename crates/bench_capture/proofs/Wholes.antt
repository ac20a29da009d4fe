-- The bytes of a file that is in memory are all that there is.
use Rattle.std.proofs.Common.{◌≡◌, ℕ, Bool, true, false, List, [], ◌∷◌, length, drop, Some, None, arith, refl, sym, ap, ◌∙◌, inl, append-nil}
use Rattle.std.specs.Prelude.{Ok, Err}
use Rattle.bench_capture.specs.Calls.{IsNext}
use Rattle.bench_capture.specs.File.{reading_in, reading_of}
use Rattle.bench_capture.specs.Formats.{IsFaulty, IsTaken, Opens, Takes, frame_fault_of, reading_at, with_span}
use Rattle.bench_capture.specs.Reading.{Reading, nothing_left, stopped}
use Rattle.bench_capture.specs.declared.classic.Records.{Records}
use Rattle.bench_capture.specs.declared.fault.CaptureFileFault.{CaptureFileFault}
use Rattle.bench_capture.specs.declared.fault.CaptureFileFault.TheVariants.{Header, Torn}
use Rattle.bench_capture.specs.declared.fault.NextFrameFault.{NextFrameFault}
use Rattle.bench_capture.specs.declared.fault.NextFrameFault.TheVariants.{Capture, NoMemory}
use Rattle.bench_capture.specs.declared.format.Format.{Format}
use Rattle.bench_capture.specs.declared.format.Format.TheVariants.{Classic, Pcapng}
use Rattle.bench_capture.specs.declared.span.Taken.{Taken}
use Rattle.bench_capture.proofs.Classics.{records_none}
use Rattle.bench_pcapng.specs.Reading as pcapng
use Rattle.bench_pcapng.specs.Reading.{Progress}
use Rattle.bench_pcapng.specs.Passing.{fault_in}
use Rattle.bench_pcapng.specs.declared.fault.BlockFault.TheVariants as blocks_faults
use Rattle.bench_pcapng.specs.declared.passing.Passing.{Passing}
use Rattle.bench_pcapng.proofs.Readings as blocks
use Rattle.bench_pcapng.proofs.Rests.{torn_rest}

pub whole_opened : (file : List ℕ) (format : Format) (size : ℕ) → Opens file (Ok (format, size)) → reading_at format (drop size file) ≡ reading_of file
whole_opened file format size opens =
    ap (λ (left : List ℕ). reading_at format left) (sym (append-nil (drop size file))) ∙ sym (opens.2 []) ∙ ap (λ (all : List ℕ). reading_of all) (append-nil file)

pub whole_faulty : (file : List ℕ) (fault : CaptureFileFault) → Opens file (Err fault) → reading_of file ≡ stopped fault
whole_faulty file fault opens = ap (λ (all : List ℕ). reading_of all) (sym (append-nil file)) ∙ opens [] (inl refl)

pub whole_taken : (old new : Format) (bytes : List ℕ) (taken : Taken) → IsTaken old bytes taken new
    → reading_at old bytes ≡ with_span bytes taken.frame (reading_at new (drop taken.length bytes))
whole_taken old new bytes taken is =
    ap (λ (all : List ℕ). reading_at old all) (sym (append-nil bytes)) ∙ is.reads []
    ∙ ap (λ (left : List ℕ). with_span bytes taken.frame (reading_at new left)) (append-nil (drop taken.length bytes))

pub whole_fails : (old new : Format) (bytes : List ℕ) (fault : CaptureFileFault) → IsFaulty old bytes fault new → reading_at old bytes ≡ stopped fault
whole_fails old new bytes fault is = ap (λ (all : List ℕ). reading_at old all) (sym (append-nil bytes)) ∙ is.reads [] (inl refl)

-- where nothing was taken, that is what is next
pub fault_next : (old new : Format) (bytes : List ℕ) (fault : NextFrameFault) (all : Reading) → Takes old bytes (Err fault) new → reading_at old bytes ≡ all
    → IsNext (Err fault) all (reading_at new bytes)
fault_next old new bytes (Capture fault) all is same =
    (sym same ∙ whole_fails old new bytes fault is, ap (λ (format : Format). reading_at format bytes) is.same ∙ same)
fault_next old new bytes NoMemory all is same = ap (λ (format : Format). reading_at format bytes) is ∙ same

-- ---- no bytes

pub empty : (bytes : List ℕ) → length bytes ≡ 0 → bytes ≡ []
empty [] none = refl
empty (x ∷ bytes) none = absurd (omega (arith, none))

-- nothing to be read between two records or blocks
pub classic_none : (records : Records) → reading_at (Classic records) [] ≡ nothing_left
classic_none records = records_none records.order records.nanoseconds records.number [] refl

pub between_none : (known : Progress) → reading_at (Pcapng (record { blocks = known; passing = None })) [] ≡ nothing_left
between_none known = ap (λ (all : pcapng.Reading). reading_in all) (blocks.reading_none (pcapng.place_at known []) refl)

-- a block that is passed over has the fault of one that is torn
pub within_none : (known : Progress) (passing : Passing) (fault : CaptureFileFault) → frame_fault_of (fault_in passing.first known.number blocks_faults.Torn) ≡ Capture fault
    → reading_at (Pcapng (record { blocks = known; passing = Some passing })) [] ≡ stopped fault
within_none known passing fault told = ap (λ (all : pcapng.Reading). reading_in all) (torn_rest known passing) ∙ by_first passing.first told
  where
    by_first : (first : Bool) → frame_fault_of (fault_in first known.number blocks_faults.Torn) ≡ Capture fault → reading_in (pcapng.stopped (fault_in first known.number blocks_faults.Torn)) ≡ stopped fault
    by_first true same = let found : Header ≡ fault = cc in ap (λ (f : CaptureFileFault). stopped f) found
    by_first false same = let found : Torn known.number ≡ fault = cc in ap (λ (f : CaptureFileFault). stopped f) found

-- which isn't want of memory
pub torn_is_fault : (first : Bool) (n : ℕ) → frame_fault_of (fault_in first n blocks_faults.Torn) ≡ NoMemory → ⊥
torn_is_fault true n is = cc
torn_is_fault false n is = cc
