-- Totals in which nothing is counted.
use Rattle.std.proofs.Common.{◌≡◌, ℕ, ◌-◌, [], slice_index, slice_index_or, refl, ap, ◌∙◌, arith, inl, inr}
use Rattle.std.specs.Prelude.{replicate}
use Rattle.std.proofs.lemmas.Bool.{cases_lt}
use Rattle.std.proofs.lemmas.List.{get_or-replicate, get_or_past, length-replicate}
use Rattle.frame_meaning.specs.declared.reason.Reason.{Reason}
use Rattle.frame_stats.specs.Figures.{Figure, Frames, Bytes, DropsFor, FramesTo, figure}
use Rattle.frame_meaning.specs.Reason.{number_of_reason}
use Rattle.bench_forward.specs.Dropped.{none_dropped, numbers_of}
use Rattle.bench_forward.specs.declared.dropped.Dropped.{Dropped}
use Rattle.bench_forward.specs.Rows.{AreWithin, DropsAreWithin}
use Rattle.frame_meaning.specs.Reason.{reason_count}
use Rattle.bench_forward.specs.Totals.{AreTotals, dropped_at, shown}
use Rattle.bench_forward.specs.declared.totals.Totals.{Totals}

all_same : {X : Type 0} (n : ℕ) (x : X) (i : ℕ) → slice_index_or (replicate n x) i x ≡ x
all_same n x i =
    elim (cases_lt i n) [
      | inl inside ↦ get_or-replicate n i x x inside
      | inr past ↦ get_or_past (replicate n x) i x (omega (arith, length-replicate n x))
    ]

pub none_within : (count : ℕ) → AreWithin count 0 (replicate count 0)
none_within count = record { every = length-replicate {A = ℕ} count 0; each = λ place. omega (arith, all_same {X = ℕ} count 0 place) }

pub no_drops_within : DropsAreWithin 0 (replicate reason_count none_dropped)
no_drops_within = record {
  every = refl;
  each = λ place. rw (all_same reason_count none_dropped place) (omega arith);
}

pub nothing_counted : (t : Totals) → t.frames ≡ 0 → t.bytes ≡ 0 → t.forwarded ≡ 0 → t.cut ≡ 0 → t.drops ≡ replicate reason_count none_dropped
    → t.gems.items ≡ replicate 65536 0 → AreTotals [] 0 t
nothing_counted t frames bytes forwarded cut drops gems = record {
  figures = figures;
  forwarded = forwarded;
  cut = cut;
  first = λ reason. ap numbers_of (none_at reason);
}
  where
    none_at : (reason : Reason) → dropped_at t reason ≡ none_dropped
    none_at reason = ap (λ drops. slice_index_or drops (number_of_reason reason - 1) none_dropped) drops ∙ all_same reason_count none_dropped (number_of_reason reason - 1)

    figures : (f : Figure) → shown t f ≡ figure f []
    figures Frames = frames
    figures Bytes = bytes
    figures (DropsFor reason) = ap (λ (d : Dropped). d.frames) (none_at reason)
    figures (FramesTo port) = ap (λ counts. slice_index counts port) gems ∙ all_same {X = ℕ} 65536 0 port
