-- The bytes of a file that are held, and what is to be read behind them.
use Rattle.std.specs.Prelude.{◌≡◌, ℕ, ⊤, List, ◌++◌, Option, Some, None, Result, Ok, Err, option_map, slice_range}
use Rattle.bench_capture.specs.File.{reading_of}
use Rattle.bench_capture.specs.Formats.{IsWithin, reading_at, recorded_at}
use Rattle.bench_capture.specs.Reading.{Reading, nothing_left, stopped, with_frame}
use Rattle.bench_capture.specs.declared.fault.ReadFault.{ReadFault}
use Rattle.bench_capture.specs.declared.fault.ReadFault.TheVariants.{Capture, Unreadable, NoMemory}
use Rattle.bench_capture.specs.declared.format.Format.{Format}
use Rattle.bench_capture.specs.declared.span.Span.{Span}
use Rattle.bench_capture.specs.declared.turn.Turn.{Turn}
use Rattle.bench_capture.specs.declared.turn.Turn.TheVariants.{Frame, Passed, End, Wants}
use Rattle.bench_capture.specs.declared.window.Window.{Window}

-- the bytes that were read and aren't taken yet
abbrev pub held : Window → List ℕ
held window = slice_range window.bytes.items window.start window.end

-- what is to be read, where these bytes follow those that are held
abbrev pub reading_on : Format → Window → List ℕ → Reading
reading_on format window rest = reading_at format (held window ++ rest)

-- no fault of the file
abbrev pub IsNoCaptureFault : ReadFault → Type 0
IsNoCaptureFault (Capture fault) = ⊥
IsNoCaptureFault (Unreadable kind) = ⊤
IsNoCaptureFault NoMemory = ⊤

-- what a turn came to, of what was to be read
abbrev pub IsTurn : Format → Window → List ℕ → Result Turn ReadFault → Format → Window → Type 0
IsTurn old window rest (Ok (Frame span)) new held_on =
    (reading_on old window rest ≡ with_frame (recorded_at held_on.bytes.items span) (reading_on new held_on rest))
    × IsWithin held_on.bytes.items span
IsTurn old window rest (Ok Passed) new held_on = reading_on new held_on rest ≡ reading_on old window rest
IsTurn old window rest (Ok End) new held_on =
    (reading_on old window rest ≡ nothing_left) × (reading_on new held_on rest ≡ reading_on old window rest)
IsTurn old window rest (Ok Wants) new held_on = reading_on new held_on rest ≡ reading_on old window rest
IsTurn old window rest (Err (Capture fault)) new held_on =
    (reading_on old window rest ≡ stopped fault) × (reading_on new held_on rest ≡ reading_on old window rest)
IsTurn old window rest (Err (Unreadable kind)) new held_on = reading_on new held_on rest ≡ reading_on old window rest
IsTurn old window rest (Err NoMemory) new held_on = reading_on new held_on rest ≡ reading_on old window rest

-- what is known behind the beginning of a file, of all its bytes
abbrev pub Begins : List ℕ → Result Format ReadFault → Window → Option (List ℕ) → Type 0
Begins file (Ok format) window left = option_map (reading_on format window) left ≡ Some (reading_of file)
Begins file (Err (Capture fault)) window left = reading_of file ≡ stopped fault
Begins file (Err (Unreadable kind)) window left = ⊤
Begins file (Err NoMemory) window left = ⊤

-- what is known behind a first block that was passed over, of all that was to be read
abbrev pub IsBegun : Reading → Result (Unit {0}) ReadFault → Format → Window → Option (List ℕ) → Type 0
IsBegun all (Ok done) format window left = option_map (reading_on format window) left ≡ Some all
IsBegun all (Err (Capture fault)) format window left = all ≡ stopped fault
IsBegun all (Err (Unreadable kind)) format window left = ⊤
IsBegun all (Err NoMemory) format window left = ⊤

-- where the next frame stands, of all that was to be read
abbrev pub IsNextSpan : Reading → Result (Option Span) ReadFault → Format → Window → Option (List ℕ) → Type 0
IsNextSpan all (Ok (Some span)) format window left =
    (later : Reading) × (option_map (reading_on format window) left ≡ Some later) × (all ≡ with_frame (recorded_at window.bytes.items span) later)
IsNextSpan all (Ok None) format window left = (all ≡ nothing_left) × (option_map (reading_on format window) left ≡ Some all)
IsNextSpan all (Err (Capture fault)) format window left = (all ≡ stopped fault) × (option_map (reading_on format window) left ≡ Some all)
IsNextSpan all (Err (Unreadable kind)) format window left = option_map (reading_on format window) left ≡ Some all
IsNextSpan all (Err NoMemory) format window left = option_map (reading_on format window) left ≡ Some all

abbrev pub SpanIsWithin : Result (Option Span) ReadFault → Window → Type 0
SpanIsWithin (Ok (Some span)) window = IsWithin window.bytes.items span
SpanIsWithin (Ok None) window = ⊤
SpanIsWithin (Err fault) window = ⊤
