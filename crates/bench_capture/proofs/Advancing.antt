-- What a reader's turns leave to be read.
use Rattle.std.proofs.Common.{◌≡◌, ℕ, Bool, true, false, List, [], Option, Some, None, refl, sym, ap, ◌∙◌}
use Rattle.std.specs.Io.KnownBytes.{IsAtEnd, Keeps, prepend_known}
use Rattle.std.specs.Prelude.{Result, Ok, Err, IfSome, not, option_map}
use Rattle.bench_capture.specs.Formats.{reading_at}
use Rattle.bench_capture.specs.Reading.{Reading}
use Rattle.bench_capture.specs.Windows.{IsBegun, IsNextSpan, IsNoCaptureFault, IsTurn, held, reading_on}
use Rattle.bench_capture.specs.declared.fault.ReadFault.{ReadFault}
use Rattle.bench_capture.specs.declared.fault.ReadFault.TheVariants.{Capture, Unreadable, NoMemory}
use Rattle.bench_capture.specs.declared.format.Format.{Format}
use Rattle.bench_capture.specs.declared.span.Span.{Span}
use Rattle.bench_capture.specs.declared.turn.Turn.{Turn}
use Rattle.bench_capture.specs.declared.turn.Turn.TheVariants.{Frame, Passed, End, Wants}
use Rattle.bench_capture.specs.declared.window.Window.{Window}

if_some : (first : Option (List ℕ)) (P Q : List ℕ → Type 0) → ((bytes : List ℕ) → P bytes → Q bytes) → IfSome first P → IfSome first Q
if_some None P Q goes has = tt
if_some (Some bytes) P Q goes has = goes bytes has

-- this is to be read, with what the reader has left
abbrev pub Leaves : Format → Window → Option (List ℕ) → Reading → Type 0
Leaves format window left all = option_map (reading_on format window) left ≡ Some all

is_some : (one other : Reading) → Some one ≡ Some other → one ≡ other
is_some one other same = cc

module _ (old new : Format) (window later : Window) (ended : Bool) where
  -- what a turn came to, whatever the reader has left
  abbrev pub Turns : Result Turn ReadFault → Type 0
  Turns result = (rest : List ℕ) → (ended ≡ true → rest ≡ []) → IsTurn old window rest result new later

  frame_next : (left : Option (List ℕ)) (all : Reading) (span : Span) → (ended ≡ true → IsAtEnd left) → Turns (Ok (Frame span)) → Leaves old window left all
      → IsNextSpan all (Ok (Some span)) new later left
  frame_next None all span ends turn leaves = absurd (cc)
  frame_next (Some rest) all span ends turn leaves = (reading_on new later rest, refl, sym (is_some _ _ leaves) ∙ (turn rest ends).0)

  end_next : (left : Option (List ℕ)) (all : Reading) → (ended ≡ true → IsAtEnd left) → Turns (Ok End) → Leaves old window left all
      → IsNextSpan all (Ok None) new later left
  end_next None all ends turn leaves = absurd (cc)
  end_next (Some rest) all ends turn leaves =
      (sym (is_some _ _ leaves) ∙ (turn rest ends).0, ap (λ (reading : Reading). Some reading) ((turn rest ends).1 ∙ is_some _ _ leaves))

  passed_next : (left : Option (List ℕ)) (all : Reading) → (ended ≡ true → IsAtEnd left) → Turns (Ok Passed) → Leaves old window left all → Leaves new later left all
  passed_next None all ends turn leaves = absurd (cc)
  passed_next (Some rest) all ends turn leaves = ap (λ (reading : Reading). Some reading) (turn rest ends ∙ is_some _ _ leaves)

  wants_next : (left : Option (List ℕ)) (all : Reading) → (ended ≡ true → IsAtEnd left) → Turns (Ok Wants) → Leaves old window left all → Leaves new later left all
  wants_next None all ends turn leaves = absurd (cc)
  wants_next (Some rest) all ends turn leaves = ap (λ (reading : Reading). Some reading) (turn rest ends ∙ is_some _ _ leaves)

  fault_next : (left : Option (List ℕ)) (all : Reading) (fault : ReadFault) → (ended ≡ true → IsAtEnd left) → Turns (Err fault) → Leaves old window left all
      → IsNextSpan all (Err fault) new later left
  fault_next None all fault ends turn leaves = absurd (cc)
  fault_next (Some rest) all (Capture fault) ends turn leaves =
      (sym (is_some _ _ leaves) ∙ (turn rest ends).0, ap (λ (reading : Reading). Some reading) ((turn rest ends).1 ∙ is_some _ _ leaves))
  fault_next (Some rest) all (Unreadable kind) ends turn leaves = ap (λ (reading : Reading). Some reading) (turn rest ends ∙ is_some _ _ leaves)
  fault_next (Some rest) all NoMemory ends turn leaves = ap (λ (reading : Reading). Some reading) (turn rest ends ∙ is_some _ _ leaves)

-- what is read behind the bytes that are held changes nothing
read_keeps : (format : Format) (window later : Window) (left new : Option (List ℕ)) (all : Reading) → Keeps (prepend_known (held window) left) (prepend_known (held later) new)
    → Leaves format window left all → Leaves format later new all
read_keeps format window later None new all kept leaves = absurd (cc)
read_keeps format window later (Some rest) None all kept leaves = absurd kept
read_keeps format window later (Some rest) (Some more) all kept leaves =
    ap (λ (bytes : List ℕ). Some (reading_at format bytes)) kept ∙ leaves

-- where the reader fails, all is left
refused_next : (format : Format) (window : Window) (left : Option (List ℕ)) (all : Reading) (fault : ReadFault) → IsNoCaptureFault fault → Leaves format window left all
    → IsNextSpan all (Err fault) format window left
refused_next format window left all (Capture fault) none leaves = absurd none
refused_next format window left all (Unreadable kind) none leaves = leaves
refused_next format window left all NoMemory none leaves = leaves

-- ---- beside all that there was to be read at first

module _ (first : Option (List ℕ)) (start : Format) (from : Window) where
  -- as much is left to be read as there was at first
  abbrev pub StillLeaves : Format → Window → Option (List ℕ) → Type 0
  StillLeaves format window left = IfSome first (λ rest. Leaves format window left (reading_on start from rest))

  -- the next frame of what there was at first
  abbrev pub GivesNext : Result (Option Span) ReadFault → Format → Window → Option (List ℕ) → Type 0
  GivesNext result format window left = IfSome first (λ rest. IsNextSpan (reading_on start from rest) result format window left)

  -- what there was at first, behind a first block
  abbrev pub GivesBegun : Result (Unit {0}) ReadFault → Format → Window → Option (List ℕ) → Type 0
  GivesBegun result format window left = IfSome first (λ rest. IsBegun (reading_on start from rest) result format window left)

  begun_by : (all : Reading) (fault : ReadFault) (format : Format) (window : Window) (left : Option (List ℕ)) → IsNextSpan all (Err fault) format window left
      → IsBegun all (Err fault) format window left
  begun_by all (Capture fault) format window left is = is.0
  begun_by all (Unreadable kind) format window left is = tt
  begun_by all NoMemory format window left is = tt

  -- a fault is one of what there was at first
  pub fault_begun : (fault : ReadFault) (format : Format) (window : Window) (left : Option (List ℕ)) → GivesNext (Err fault) format window left → GivesBegun (Err fault) format window left
  fault_begun fault format window left = if_some first _ _ (λ rest. begun_by (reading_on start from rest) fault format window left)

  module _ (old new : Format) (window later : Window) (left : Option (List ℕ)) (ended : Bool) (ends : ended ≡ true → IsAtEnd left) where
    pub frame_given : (span : Span) → Turns old new window later ended (Ok (Frame span)) → StillLeaves old window left → GivesNext (Ok (Some span)) new later left
    frame_given span turn = if_some first _ _ (λ rest leaves. frame_next old new window later ended left (reading_on start from rest) span ends turn leaves)

    pub end_given : Turns old new window later ended (Ok End) → StillLeaves old window left → GivesNext (Ok None) new later left
    end_given turn = if_some first _ _ (λ rest leaves. end_next old new window later ended left (reading_on start from rest) ends turn leaves)

    pub passed_given : Turns old new window later ended (Ok Passed) → StillLeaves old window left → StillLeaves new later left
    passed_given turn = if_some first _ _ (λ rest leaves. passed_next old new window later ended left (reading_on start from rest) ends turn leaves)

    pub wants_given : Turns old new window later ended (Ok Wants) → StillLeaves old window left → StillLeaves new later left
    wants_given turn = if_some first _ _ (λ rest leaves. wants_next old new window later ended left (reading_on start from rest) ends turn leaves)

    pub fault_given : (fault : ReadFault) → Turns old new window later ended (Err fault) → StillLeaves old window left → GivesNext (Err fault) new later left
    fault_given fault turn = if_some first _ _ (λ rest leaves. fault_next old new window later ended left (reading_on start from rest) fault ends turn leaves)

  pub read_given : (format : Format) (window later : Window) (left new : Option (List ℕ)) → Keeps (prepend_known (held window) left) (prepend_known (held later) new)
      → StillLeaves format window left → StillLeaves format later new
  read_given format window later left new kept = if_some first _ _ (λ rest leaves. read_keeps format window later left new (reading_on start from rest) kept leaves)

  pub refused_given : (format : Format) (window : Window) (left : Option (List ℕ)) (fault : ReadFault) → IsNoCaptureFault fault → StillLeaves format window left
      → GivesNext (Err fault) format window left
  refused_given format window left fault none = if_some first _ _ (λ rest leaves. refused_next format window left (reading_on start from rest) fault none leaves)

pub not_true : (b : Bool) → not b ≡ true → b ≡ false
not_true true is = absurd (cc)
not_true false is = refl
