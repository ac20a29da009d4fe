-- An observation by what holds of each step, for worked examples.
use Rattle.std.proofs.Common.{◌≡◌, ◌<◌, ◌+◌, ℕ, zero, suc, false, true, List, [], ◌∷◌, ◌++◌, length, take, Some, slice_get, sym, subst, arith, append_assoc, append-nil}
use Rattle.plan_publish.specs.World.{IsRun, opening, Message}
use Rattle.bench_history.specs.declared.event.Event.{Event}
use Rattle.bench_history.specs.declared.event.Event.TheVariants.{Replied, Excused, Entered, LeftOneOf, Strayed, Waited}
use Rattle.bench_answers.specs.Asked.{asked, base}
use Rattle.bench_answers.specs.declared.standing.Standing.{Standing}
use Rattle.bench_judge.specs.Explained.{EndedFrame, IsEnded}
use Rattle.bench_judge.specs.Terms.{Terms, ground_in}
use Rattle.bench_law.specs.Steps.{Step, Happens, Shows, happened, shown, carried}
use Rattle.bench_law.specs.Observation.{HasLearnt, IsForwarded, IsObservation, IsOneThatLeft, IsReply, awaits, seen_in}

-- ---- what holds of each element, by its place

unfoldable pub EachFrom : (List Step → Step → Type 0) → List Step → List Step → Type 0
EachFrom P before [] = Unit {0}
EachFrom P before (step ∷ rest) = P before step × EachFrom P (before ++ step ∷ []) rest

each_at : (P : List Step → Step → Type 0) (before rest : List Step) → EachFrom P before rest
    → (place : ℕ) (step : Step) → slice_get rest place ≡ Some step → P (before ++ take place rest) step
unfolding EachFrom
each_at P before [] each place step at = absurd (cc at)
each_at P before (first ∷ rest) each zero step at =
    let same : first ≡ step = cc at in
    subst (λ (l : List Step). P l step) (sym (append-nil before)) (subst (λ (s : Step). P before s) same each.0)
each_at P before (first ∷ rest) each (suc place) step at =
    subst (λ (l : List Step). P l step) (append_assoc before (first ∷ []) (take place rest))
    (each_at P (before ++ first ∷ []) rest each.1 place step at)

unfoldable pub EachLine : (ℕ → Event → Type 0) → ℕ → List Event → Type 0
EachLine P n [] = Unit {0}
EachLine P n (line ∷ rest) = P n line × EachLine P (suc n) rest

pub line_of_each : (P : ℕ → Event → Type 0) (n : ℕ) (lines : List Event) → EachLine P n lines
    → (k m : ℕ) (line : Event) → slice_get lines k ≡ Some line → m ≡ n + k → P m line
unfolding EachLine
line_of_each P n [] each k m line at is = absurd (cc at)
line_of_each P n (first ∷ lines) each zero m line at is =
    let same : first ≡ line = cc at in
    let here : n ≡ m = omega (arith, is) in
    subst (λ (j : ℕ). P j line) here (subst (λ (e : Event). P n e) same each.0)
line_of_each P n (first ∷ lines) each (suc k) m line at is = line_of_each P (suc n) lines each.1 k m line at (omega (arith, is))

-- ---- the observation

module _ (lanes : ℕ) (terms : Terms) (means : List Standing) where
  -- what an observation asks of a step behind others
  abbrev pub IsSo : List Step → Step → Type 0
  IsSo before (Happens (Message q)) = slice_get (terms.start ++ asked terms.settings.repeats (shown before)) (length (carried before)) ≡ Some q
  IsSo before (Happens event) = Unit {0}
  IsSo before (Shows (Replied bytes)) = IsReply (ground_in terms) means before bytes
  IsSo before (Shows (Excused bytes)) = ⊥
  IsSo before (Shows (Waited replies)) =
      0 < awaits (seen_in means before) (Waited replies) → (lane : ℕ) → lane < lanes → HasLearnt terms.start before (awaits (seen_in means before) (Waited replies)) lane
  IsSo before (Shows (Entered port extent frame)) = 0 < base (ground_in terms) → (lane : ℕ) → lane < lanes → HasLearnt terms.start before 0 lane
  IsSo before (Shows (Strayed gem extent frame)) = terms.settings.strays ≡ true
  IsSo before (Shows (LeftOneOf gem extent among)) = IsOneThatLeft terms.settings.padded before gem extent among
  IsSo before (Shows line) = Unit {0}

  module _ (steps : List Step) (run : IsRun lanes opening (happened steps)) (each : EachFrom IsSo [] steps) (lane_of place_of : ℕ → ℕ)
      (forwarded : (f : EndedFrame) → IsEnded (shown steps) f → IsForwarded terms.settings.padded steps f (lane_of f.number) (place_of f.number))
      (in_order : terms.settings.unordered ≡ false → (f g : EndedFrame) → IsEnded (shown steps) f → IsEnded (shown steps) g
      → f.port ≡ g.port → f.number < g.number → (lane_of f.number ≡ lane_of g.number) × (place_of f.number < place_of g.number)) where
    so : (place : ℕ) (step : Step) → slice_get steps place ≡ Some step → IsSo (take place steps) step
    so place step at = each_at IsSo [] steps each place step at

    waits : (place : ℕ) (line : Event) → slice_get steps place ≡ Some (Shows line) → 0 < awaits (seen_in means (take place steps)) line
        → (lane : ℕ) → lane < lanes → HasLearnt terms.start (take place steps) (awaits (seen_in means (take place steps)) line) lane
    waits place (Waited replies) at = so place (Shows (Waited replies)) at
    waits place line at = λ some. absurd (omega (arith, some))

    pub observed : IsObservation lanes terms steps
    observed =
        record {
          run = run;
          carried_out = λ place q at. so place (Happens (Message q)) at;
          means = means;
          replied = λ place bytes at. so place (Shows (Replied bytes)) at;
          unexcused = λ place bytes at. so place (Shows (Excused bytes)) at;
          waited = waits;
          begun = λ place port extent frame at. so place (Shows (Entered port extent frame)) at;
          strays = λ place gem extent frame at. so place (Shows (Strayed gem extent frame)) at;
          doubted = λ place gem extent among at. so place (Shows (LeftOneOf gem extent among)) at;
          lane_of = lane_of;
          place_of = place_of;
          forwarded = forwarded;
          in_order = in_order;
        }
