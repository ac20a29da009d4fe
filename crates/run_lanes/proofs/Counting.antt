-- The counts of all batches, and of one of them.
use Rattle.std.proofs.Common.{◌≡◌, ℕ, ◌+◌, ◌*◌, ◌<◌, ◌≤◌, suc, zero, List, [], ◌∷◌, map, take, drop, Some, refl, ap, sym, ◌∙◌, subst, arith}
use Rattle.std.specs.Prelude.{slice_get}
use Rattle.std.specs.List.{sum_by}
use Rattle.std.proofs.lemmas.List.{drop-drop}
use Rattle.std.proofs.lemmas.List.Sums.{sum_by-cons}
use Rattle.omci_msg.specs.declared.Request.{Request}
use Rattle.mib_state.specs.After.{after}
use Rattle.mib_state.specs.Entities.{Entities}
use Rattle.frame_stats.specs.Figures.{Figure, figure, counted, AreCountsOf}
use Rattle.frame_stats.proofs.FigureSums.{figure-append, figure-none}
use Rattle.batch_reports.specs.declared.batch.Tally.{Tally}
use Rattle.capture_pieces.specs.Cut.{batch_of}
use Rattle.run_lanes.specs.Run.{verdicts_from}
use Rattle.run_lanes.specs.Work.{verdicts_on}

abbrev pub versions_of : List Tally → List ℕ
versions_of tallies = map (λ (t : Tally). t.version) tallies

-- so many times the same version
abbrev pub copies : ℕ → ℕ → List ℕ
copies zero version = []
copies (suc n) version = version ∷ copies n version

module _ (accepted : List Request) (port size : ℕ) where
  -- tally k has the counts of what batch k means after so many of the requests
  abbrev pub AreMeant : List (List ℕ) → List Tally → Type 0
  AreMeant frames tallies = (k : ℕ) (t : Tally) → slice_get tallies k ≡ Some t → AreCountsOf (verdicts_on (after (take t.version accepted)) port (batch_of size k frames)) t.counts

  first : (frames : List (List ℕ)) → batch_of size 0 frames ≡ take size frames
  first frames = ap (λ (n : ℕ). take size (drop n frames)) (let none : 0 * size ≡ 0 = omega arith in none)

  later : (frames : List (List ℕ)) (k : ℕ) → batch_of size (suc k) frames ≡ batch_of size k (drop size frames)
  later frames k =
      let more : suc k * size ≡ size + k * size = grind arith in
      ap (take size) (ap (λ (n : ℕ). drop n frames) more ∙ sym (drop-drop (k * size) size frames))

  pub sums_are : (f : Figure) (frames : List (List ℕ)) (tallies : List Tally) → AreMeant frames tallies
      → sum_by (λ (t : Tally). counted t.counts f) tallies ≡ figure f (verdicts_from accepted port size frames (versions_of tallies))
  sums_are f frames [] meant = sym (figure-none f)
  sums_are f frames (t ∷ ts) meant =
      let e : Entities = after (take t.version accepted) in
      let this : counted t.counts f ≡ figure f (verdicts_on e port (take size frames)) =
      (meant 0 t refl).figures f ∙ ap (λ (l : List (List ℕ)). figure f (verdicts_on e port l)) (first frames) in
      let rest = sums_are f (drop size frames) ts (λ k q h.
      subst (λ (l : List (List ℕ)). AreCountsOf (verdicts_on (after (take q.version accepted)) port l) q.counts) (later frames k) (meant (suc k) q h)) in
      let both = figure-append f (verdicts_on e port (take size frames)) (verdicts_from accepted port size (drop size frames) (versions_of ts)) in
      let more = sum_by-cons (λ (q : Tally). counted q.counts f) t ts in
      omega (arith, this, rest, both, more)

  -- what one batch means has no more of a figure than what all of them mean after the same requests
  pub one_of_all : (f : Figure) (version n k : ℕ) (frames : List (List ℕ)) → k < n
      → figure f (verdicts_on (after (take version accepted)) port (batch_of size k frames)) ≤ figure f (verdicts_from accepted port size frames (copies n version))
  one_of_all f version zero k frames lt = absurd (omega (arith, lt))
  one_of_all f version (suc n) zero frames lt =
      let e : Entities = after (take version accepted) in
      let this : figure f (verdicts_on e port (batch_of size 0 frames)) ≡ figure f (verdicts_on e port (take size frames)) =
      ap (λ (l : List (List ℕ)). figure f (verdicts_on e port l)) (first frames) in
      let both = figure-append f (verdicts_on e port (take size frames)) (verdicts_from accepted port size (drop size frames) (copies n version)) in
      omega (arith, this, both)
  one_of_all f version (suc n) (suc k) frames lt =
      let e : Entities = after (take version accepted) in
      let rest = one_of_all f version n k (drop size frames) (omega (arith, lt)) in
      let this : figure f (verdicts_on e port (batch_of size (suc k) frames)) ≡ figure f (verdicts_on e port (batch_of size k (drop size frames))) =
      ap (λ (l : List (List ℕ)). figure f (verdicts_on e port l)) (later frames k) in
      let both = figure-append f (verdicts_on e port (take size frames)) (verdicts_from accepted port size (drop size frames) (copies n version)) in
      omega (arith, rest, this, both)
