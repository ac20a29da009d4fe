-- Totals with one verdict more.
use Rattle.std.proofs.Common.{◌≡◌, ◌≢◌, ◌<◌, ℕ, ◌+◌, ◌-◌, Bool, [], ◌∷◌, ◌++◌, length, slice_index, slice_index_or, slice_set, take, sym, ap, ◌∙◌, arith, inl, inr, eq-eqb, lit<}
use Rattle.std.specs.Prelude.{if◌then◌else◌}
use Rattle.std.proofs.lemmas.Bool.{cases_eq, ne_eqb}
use Rattle.std.proofs.lemmas.List.{get_or-set_other}
use Rattle.std.proofs.lemmas.Grind.{get_or-set_at}
use Rattle.tag_view.specs.Frame.{Reading, frame_bytes}
use Rattle.frame_meaning.specs.Reason.{number_of_reason}
use Rattle.frame_meaning.specs.declared.reason.Reason.{Reason}
use Rattle.frame_meaning.specs.declared.reason.Reason.TheVariants.{Runt, CutTag, NoRule, RuleDiscard, NoMapper, NullPointer, NoInterwork, NoGem, Direction}
use Rattle.frame_meaning.specs.declared.verdict.Verdict.TheVariants.{Forward, Drop}
use Rattle.frame_stats.specs.Figures.{Figure, Frames, Bytes, DropsFor, FramesTo}
use Rattle.frame_stats.specs.Tallies.{weight}
use Rattle.bench_forward.specs.Dropped.{none_dropped, numbers_of}
use Rattle.bench_forward.specs.Totals.{CountsOneMore, dropped_at, first_shown, first_with, shown}
use Rattle.bench_forward.specs.declared.dropped.Dropped.{Dropped}
use Rattle.bench_forward.specs.declared.totals.Totals.{Totals}

-- the numbers of reasons begin at 1
some_number : (reason : Reason) → 0 < number_of_reason reason
some_number Runt = lit< tt
some_number CutTag = lit< tt
some_number NoRule = lit< tt
some_number RuleDiscard = lit< tt
some_number NoMapper = lit< tt
some_number NullPointer = lit< tt
some_number NoInterwork = lit< tt
some_number NoGem = lit< tt
some_number Direction = lit< tt

-- ---- a frame that leaves

pub counts_leaving : (old new : Totals) (gem : ℕ) (frame : Reading) (is_cut : Bool) → new.frames ≡ old.frames + 1 → new.forwarded ≡ old.forwarded + 1
    → new.bytes ≡ old.bytes + length (frame_bytes frame) → new.cut ≡ old.cut + (if is_cut then 1 else 0) → new.drops ≡ old.drops
    → new.gems.items ≡ slice_set old.gems.items gem (slice_index old.gems.items gem + 1) → gem < length old.gems.items
    → CountsOneMore old (Forward gem frame) is_cut new
counts_leaving old new gem frame is_cut frames forwarded bytes cut drops gems within = record {
  figures = figures;
  forwarded = forwarded;
  cut = cut;
  first = λ reason. ap (λ drops. numbers_of (slice_index_or drops (number_of_reason reason - 1) none_dropped)) drops;
}
  where
    figures : (f : Figure) → shown new f ≡ shown old f + weight f (Forward gem frame)
    figures Frames = frames
    figures Bytes = bytes
    figures (DropsFor reason) =
        let same = ap (λ drops. (let dropped : Dropped = slice_index_or drops (number_of_reason reason - 1) none_dropped in dropped.frames)) drops in
        omega (arith, same)
    figures (FramesTo port) = elim (cases_eq gem port) [
      | inl same ↦
          rw (eq-eqb gem port same)
          (ap (λ counts. slice_index counts port) gems
          ∙ get_or-set_at old.gems.items gem port (slice_index old.gems.items gem + 1) 0 (sym same) within
          ∙ ap (λ (at : ℕ). slice_index old.gems.items at + 1) same)
      | inr apart ↦
          let same : shown new (FramesTo port) ≡ shown old (FramesTo port) =
          ap (λ counts. slice_index counts port) gems
          ∙ get_or-set_other old.gems.items gem port (slice_index old.gems.items gem + 1) 0 (λ same. apart (sym same)) in
          rw (ne_eqb gem port apart) (omega (arith, same))
    ]

-- ---- one that is dropped

pub counts_dropped : (old new : Totals) (reason : Reason) (is_cut : Bool) (place : ℕ) (noted : Dropped) → new.frames ≡ old.frames + 1 → new.forwarded ≡ old.forwarded
    → new.bytes ≡ old.bytes → new.cut ≡ old.cut + (if is_cut then 1 else 0) → new.gems.items ≡ old.gems.items
    → new.drops ≡ slice_set old.drops place noted → place + 1 ≡ number_of_reason reason → place < length old.drops
    → noted.frames ≡ (let dropped : Dropped = dropped_at old reason in dropped.frames) + 1
    → numbers_of noted ≡ take 10 (numbers_of (dropped_at old reason) ++ (old.frames + 1) ∷ [])
    → CountsOneMore old (Drop reason) is_cut new
counts_dropped old new reason is_cut place noted frames forwarded bytes cut gems drops at within more first = record {
  figures = figures;
  forwarded = omega (arith, forwarded);
  cut = cut;
  first = firsts;
}
  where
    here : (other : Reason) → number_of_reason reason ≡ number_of_reason other → dropped_at new other ≡ noted
    here other same =
        ap (λ drops. slice_index_or drops (number_of_reason other - 1) none_dropped) drops
        ∙ get_or-set_at old.drops place (number_of_reason other - 1) noted none_dropped (omega (arith, at, same)) within

    there : (other : Reason) → number_of_reason reason ≢ number_of_reason other → dropped_at new other ≡ dropped_at old other
    there other apart =
        ap (λ drops. slice_index_or drops (number_of_reason other - 1) none_dropped) drops
        ∙ get_or-set_other old.drops place (number_of_reason other - 1) noted none_dropped (λ same. apart (omega (arith, at, same, some_number other)))

    as_before : (other : Reason) → number_of_reason reason ≡ number_of_reason other → dropped_at old reason ≡ dropped_at old other
    as_before other same = ap (λ (n : ℕ). slice_index_or old.drops (n - 1) none_dropped) same

    firsts : (other : Reason) → first_shown new other ≡ first_with other (first_shown old other) (old.frames + 1) (Drop reason)
    firsts other = elim (cases_eq (number_of_reason reason) (number_of_reason other)) [
      | inl same ↦
          rw (eq-eqb (number_of_reason reason) (number_of_reason other) same)
          (ap numbers_of (here other same) ∙ first ∙ ap (λ (d : Dropped). take 10 (numbers_of d ++ (old.frames + 1) ∷ [])) (as_before other same))
      | inr apart ↦
          rw (ne_eqb (number_of_reason reason) (number_of_reason other) apart) (ap numbers_of (there other apart))
    ]

    figures : (f : Figure) → shown new f ≡ shown old f + weight f (Drop reason)
    figures Frames = frames
    figures Bytes = omega (arith, bytes)
    figures (DropsFor other) = elim (cases_eq (number_of_reason reason) (number_of_reason other)) [
      | inl same ↦
          rw (eq-eqb (number_of_reason reason) (number_of_reason other) same)
          (ap (λ (d : Dropped). d.frames) (here other same) ∙ more ∙ ap (λ (d : Dropped). d.frames + 1) (as_before other same))
      | inr apart ↦
          let same = ap (λ (d : Dropped). d.frames) (there other apart) in
          rw (ne_eqb (number_of_reason reason) (number_of_reason other) apart) (omega (arith, same))
    ]
    figures (FramesTo port) = let same = ap (λ counts. slice_index counts port) gems in omega (arith, same)
