-- What is counted of frames.
use Rattle.std.specs.Prelude.{◌≡◌, ◌≤◌, ◌<◌, ℕ, ◌+◌, ◌-◌, ◌^◌, Bool, true, false, List, [], ◌∷◌, ◌++◌, if◌then◌else◌, count_by, slice_index, slice_index_or, take}
use Rattle.frame_meaning.specs.Reason.{number_of_reason}
use Rattle.frame_meaning.specs.declared.reason.Reason.{Reason}
use Rattle.frame_meaning.specs.declared.verdict.Verdict.{Verdict}
use Rattle.frame_meaning.specs.declared.verdict.Verdict.TheVariants.{Forward, Drop}
use Rattle.frame_stats.specs.Figures.{Figure, Frames, Bytes, DropsFor, FramesTo, figure, is_drop_for}
use Rattle.frame_stats.specs.Tallies.{weight}
use Rattle.bench_forward.specs.Dropped.{none_dropped, numbers_of}
use Rattle.bench_forward.specs.declared.dropped.Dropped.{Dropped}
use Rattle.bench_forward.specs.declared.totals.Totals.{Totals}

-- ---- of verdicts

-- the numbers of those that pass a test, where the first has this number
abbrev pub numbers_from : ℕ → (Verdict → Bool) → List Verdict → List ℕ
numbers_from n test [] = []
numbers_from n test (verdict ∷ verdicts) =
    if test verdict then n ∷ numbers_from (n + 1) test verdicts else numbers_from (n + 1) test verdicts

-- the numbers, from 1, of the first ten frames that are dropped for a reason
abbrev pub first_dropped : Reason → List Verdict → List ℕ
first_dropped reason verdicts = take 10 (numbers_from 1 (is_drop_for reason) verdicts)

abbrev pub leaves : Verdict → Bool
leaves (Forward gem frame) = true
leaves (Drop reason) = false

-- ---- what totals show

-- what is counted for a reason
abbrev pub dropped_at : Totals → Reason → Dropped
dropped_at t reason = slice_index_or t.drops (number_of_reason reason - 1) none_dropped

-- a figure
abbrev pub shown : Totals → Figure → ℕ
shown t Frames = t.frames
shown t Bytes = t.bytes
shown t (DropsFor reason) = let dropped = dropped_at t reason in dropped.frames
shown t (FramesTo port) = slice_index t.gems.items port

-- the numbers of the first frames that are dropped for a reason
abbrev pub first_shown : Totals → Reason → List ℕ
first_shown t reason = numbers_of (dropped_at t reason)

-- these with the verdict on one frame more, which has this number
abbrev pub first_with : Reason → List ℕ → ℕ → Verdict → List ℕ
first_with reason first n verdict = if is_drop_for reason verdict then take 10 (first ++ n ∷ []) else first

-- no sum passes 64 bits with one verdict more
pub record Fits (t : Totals) (verdict : Verdict) : Type 0 where
  pub frames : t.frames + 1 < 2 ^ 64
  pub bytes : t.bytes + weight Bytes verdict < 2 ^ 64

-- a sum passes 64 bits with one verdict more
abbrev pub SomeSumPasses : Totals → Verdict → Type 0
SomeSumPasses t verdict = (f : Figure) × (2 ^ 64 ≤ shown t f + weight f verdict)

-- totals with one verdict more, on a frame that is cut or isn't
pub record CountsOneMore (old : Totals) (verdict : Verdict) (is_cut : Bool) (new : Totals) : Type 0 where
  pub figures : (f : Figure) → shown new f ≡ shown old f + weight f verdict
  pub forwarded : new.forwarded ≡ old.forwarded + (if leaves verdict then 1 else 0)
  pub cut : new.cut ≡ old.cut + (if is_cut then 1 else 0)
  pub first : (reason : Reason) → first_shown new reason ≡ first_with reason (first_shown old reason) (old.frames + 1) verdict

-- these totals are those of the verdicts on frames, of which so many are cut
pub record AreTotals (verdicts : List Verdict) (cut_short : ℕ) (t : Totals) : Type 0 where
  pub figures : (f : Figure) → shown t f ≡ figure f verdicts
  pub forwarded : t.forwarded ≡ count_by leaves verdicts
  pub cut : t.cut ≡ cut_short
  pub first : (reason : Reason) → first_shown t reason ≡ first_dropped reason verdicts
