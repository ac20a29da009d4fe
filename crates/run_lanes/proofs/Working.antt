-- One more batch of a lane.
use Rattle.std.proofs.Common.{◌≡◌, ℕ, ◌+◌, ◌*◌, ◌<◌, ◌≤◌, ⊎_elim, List, [], ◌∷◌, ◌++◌, length, min, Some, refl, ap, sym, subst, ◌∙◌, arith, ◌^◌, ◌-◌}
use Rattle.std.specs.Prelude.{slice_get, suc, zero}
use Rattle.std.specs.Borrow.{Bor}
use Rattle.std.specs.List.{Contains}
use Rattle.std.proofs.lemmas.List.Elements.{Contains-append_right}
use Rattle.std.proofs.lemmas.Option.{slice_get_within}
use Rattle.std.proofs.lemmas.Simd.{map-map}
use Rattle.omci_msg.specs.declared.Request.{Request}
use Rattle.mib_state.specs.Entities.{Entities}
use Rattle.mib_state.specs.After.{after}
use Rattle.frame_meaning.specs.declared.verdict.Verdict.{Verdict}
use Rattle.frame_meaning.specs.Meaning.{meaning}
use Rattle.frame_stats.specs.Figures.{AreCountsOf, SomePasses, figure}
use Rattle.batch_reports.specs.Batches.{meanings}
use Rattle.plan_publish.specs.Requests.{StartsWith, StartsWithEach, version_of}
use Rattle.plan_publish.specs.Holding.{Holds}
use Rattle.plan_publish.proofs.Beginnings.{version_grows}
use Rattle.batch_reports.specs.declared.batch.Tally.{Tally}
use Rattle.capture_pieces.specs.Cut.{batch_of}
use Rattle.capture_pieces.proofs.Listed.{bytes_of}
use Rattle.capture_pieces.proofs.Starts.{last_or_before}
use Rattle.run_settings.specs.declared.settings.RunSettings.{RunSettings}
use Rattle.run_lanes.specs.Work.{BatchPasses, IsTally, Forwarded, OfLane, Worked, verdicts_on}

-- what begins with each list begins with any of them
pub starts_with_one : (all : List Request) (held : List (List Request)) (one : List Request) → StartsWithEach all held → Contains held one → StartsWith all one
starts_with_one all [] one each has = absurd (let lt = has.1 in omega arith)
starts_with_one all (h ∷ hs) one each (zero, lt, is) = subst (StartsWith all) is each.0
starts_with_one all (h ∷ hs) one each (suc k, lt, is) = starts_with_one all hs one each.1 (k, omega arith, is)

-- borrowed frames mean what their bytes mean
same_verdicts : (e : Entities) (port : ℕ) (given : List (Bor (List ℕ))) (bytes : List (List ℕ)) → bytes_of given ≡ bytes → meanings e port given ≡ verdicts_on e port bytes
same_verdicts e port given bytes same = sym (map-map (meaning e port) (λ (frame : Bor (List ℕ)). frame.now) given) ∙ ap (verdicts_on e port) same

-- the tally of a report by a lane that is in
pub is_forwarded : (s : RunSettings) (frames : List (List ℕ)) (given : List (Bor (List ℕ))) (before : List (List Request)) (learnt : List Request) (entities : Entities) (version : ℕ) (lists : List (List Request)) (batch : ℕ)
    (verdicts : List Verdict) (t : Tally)
    → Holds before learnt entities version lists → bytes_of given ≡ batch_of s.batch batch frames → t.batch ≡ batch → t.version ≡ version → verdicts ≡ meanings entities s.port given → AreCountsOf verdicts t.counts
    → Forwarded s frames before learnt lists batch t
is_forwarded s frames given before learnt entities version lists batch verdicts t h same number_is held_is meant exact = record {
  requests = h.now;
  held = h.held;
  begins_held = h.begins_held;
  begins_learnt = h.begins_learnt;
  number = number_is;
  tally = record {
    version = held_is ∙ h.version_is;
    counts =
        let all : verdicts ≡ verdicts_on (after h.now) s.port (batch_of s.batch batch frames) =
        meant ∙ ap (λ (e : Entities). meanings e s.port given) h.entities_are ∙ same_verdicts (after h.now) s.port given (batch_of s.batch batch frames) same in
        subst (λ (l : List Verdict). AreCountsOf l t.counts) all exact;
  };
}

-- a batch whose counts are full, by a lane that is in
pub is_passed : (s : RunSettings) (frames : List (List ℕ)) (given : List (Bor (List ℕ))) (before : List (List Request)) (learnt : List Request) (entities : Entities) (version : ℕ) (lists : List (List Request)) (batch : ℕ)
    → Holds before learnt entities version lists → bytes_of given ≡ batch_of s.batch batch frames → SomePasses (meanings entities s.port given) → BatchPasses s frames lists learnt batch
is_passed s frames given before learnt entities version lists batch h same p = record {
  requests = h.now;
  is_held = subst (λ (l : List (List Request)). Contains l h.now) (sym h.held) (0, omega arith, refl);
  begins_learnt = h.begins_learnt;
  passes = (
    p.0,
    subst (λ (n : ℕ). 2 ^ 64 ≤ n)
        (ap (λ (e : Entities). figure p.0 (meanings e s.port given)) h.entities_are ∙ ap (figure p.0) (same_verdicts (after h.now) s.port given (batch_of s.batch batch frames) same)) p.1,
  );
}

module _ (s : RunSettings) (frames : List (List ℕ)) (learnt : List Request) (number : ℕ) where
  held_too : (held : List (List Request)) (requests : List Request) (i : ℕ) (t : Tally) → OfLane s frames held learnt number i t → OfLane s frames (requests ∷ held) learnt number i t
  held_too held requests i t o = record { requests = o.requests; is_held = Contains-append_right (requests ∷ []) held o.requests o.is_held; begins_learnt = o.begins_learnt; batch = o.batch; tally = o.tally }

  no_later : (held : List (List Request)) (requests : List Request) (i : ℕ) (q t : Tally) → OfLane s frames held learnt number i q → StartsWithEach requests held
      → t.version ≡ version_of requests → q.version ≤ t.version
  no_later held requests i q t o each is =
      let grows = version_grows requests o.requests (starts_with_one requests held o.requests each o.is_held) in
      let e = o.tally.version in
      omega (arith, grows, e, is)

  pub worked_none : (held : List (List Request)) → Worked s frames held learnt number []
  worked_none held = record { each = λ i t h. absurd (let e : ⊥ = cc in e); never_fall = λ i j q t le h k. absurd (let e : ⊥ = cc in e) }

  worked_push : (held : List (List Request)) (tallies : List Tally) (t : Tally) (requests : List Request) → Worked s frames held learnt number tallies
      → StartsWithEach requests held → StartsWith requests learnt → t.batch ≡ number + length tallies * s.lanes → IsTally s.port (batch_of s.batch t.batch frames) requests t
      → Worked s frames (requests ∷ held) learnt number (tallies ++ t ∷ [])
  worked_push held tallies t requests w each begins batch tally =
      let mine : OfLane s frames (requests ∷ held) learnt number (length tallies) t = record { requests = requests; is_held = (0, omega arith, refl); begins_learnt = begins; batch = batch; tally = tally } in
      record {
        each = λ i q h. ⊎_elim
            (λ (old : slice_get tallies i ≡ Some q). held_too held requests i q (w.each i q old))
            (λ (new : (i ≡ length tallies) × (t ≡ q)). subst (λ (n : ℕ). OfLane s frames (requests ∷ held) learnt number n q) (sym new.0) (subst (λ (x : Tally). OfLane s frames (requests ∷ held) learnt number (length tallies) x) new.1 mine))
            (last_or_before tallies t i q h);
        never_fall = λ i j p q le hi hj. ⊎_elim
            (λ (old_j : slice_get tallies j ≡ Some q). ⊎_elim
            (λ (old_i : slice_get tallies i ≡ Some p). w.never_fall i j p q le old_i old_j)
            (λ (new_i : (i ≡ length tallies) × (t ≡ p)). let short = slice_get_within tallies j q old_j in absurd (omega (arith, short, le, new_i.0)))
            (last_or_before tallies t i p hi))
            (λ (new_j : (j ≡ length tallies) × (t ≡ q)). ⊎_elim
            (λ (old_i : slice_get tallies i ≡ Some p). subst (λ (x : Tally). p.version ≤ x.version) new_j.1 (no_later held requests i p t (w.each i p old_i) each tally.version))
            (λ (new_i : (i ≡ length tallies) × (t ≡ p)). let same : p.version ≡ q.version = ap (λ (x : Tally). x.version) (sym new_i.1 ∙ new_j.1) in omega (arith, same))
            (last_or_before tallies t i p hi))
            (last_or_before tallies t j q hj);
      }

  -- a batch that was forwarded is the next one
  pub worked_more : (before held now : List (List Request)) (knew : List Request) (batch : ℕ) (tallies : List Tally) (t : Tally)
      → Worked s frames before learnt number tallies → before ≡ held → knew ≡ learnt → batch ≡ number + length tallies * s.lanes → Forwarded s frames held knew now batch t
      → Worked s frames now learnt number (tallies ++ t ∷ [])
  worked_more before held now knew batch tallies t w same same_learnt at f =
      let tally : IsTally s.port (batch_of s.batch t.batch frames) f.requests t = subst (λ (b : ℕ). IsTally s.port (batch_of s.batch b frames) f.requests t) (sym f.number) f.tally in
      subst (λ (h : List (List Request)). Worked s frames h learnt number (tallies ++ t ∷ [])) (sym f.held)
      (worked_push held tallies t f.requests (subst (λ (h : List (List Request)). Worked s frames h learnt number tallies) same w)
      f.begins_held (subst (StartsWith f.requests) same_learnt f.begins_learnt) (f.number ∙ at) tally)

-- ---- the number of the next batch

pub this_batch : (number len lanes k count : ℕ) → k ≡ min (number + len * lanes) (2 ^ 32 - 1) → k < count → count < 2 ^ 32 → k ≡ number + len * lanes
this_batch number len lanes k count is lt fits = omega (arith, is, lt, fits)

pub next_batch : (number len lanes k count : ℕ) → k ≡ min (number + len * lanes) (2 ^ 32 - 1) → k < count → count < 2 ^ 32
    → min (k + lanes) (2 ^ 32 - 1) ≡ min (number + (len + 1) * lanes) (2 ^ 32 - 1)
next_batch number len lanes k count is lt fits =
    let here = this_batch number len lanes k count is lt fits in
    let more : (len + 1) * lanes ≡ len * lanes + lanes = grind arith in
    rw (more, here) (ap (λ (n : ℕ). min n (2 ^ 32 - 1)) (let e : number + len * lanes + lanes ≡ number + (len * lanes + lanes) = omega arith in e))
