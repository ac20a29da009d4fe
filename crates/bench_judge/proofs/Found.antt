-- What is found of events.
use Rattle.std.proofs.Common.{◌≡◌, ℕ, ◌+◌, ◌-◌, ◌<◌, ◌≤◌, Bool, true, false, List, [], length, take, Option, Some, Vec, slice_get, slice_index, refl, ap, sym, subst, ◌∙◌, arith, take-take, take_all}
use Rattle.std.specs.declared.alloc.Global.{Global}
use Rattle.bench_history.specs.History.{frames_in, is_ended}
use Rattle.bench_history.specs.declared.event.Event.{Event}
use Rattle.bench_history.specs.declared.event.Event.TheVariants.{Entered}
use Rattle.omci_msg.specs.declared.request.Request.{Request}
use Rattle.bench_answers.specs.Asked.{base, requests_of}
use Rattle.bench_answers.specs.Standing.{compared}
use Rattle.bench_answers.proofs.Fronts.{base_within, least_within}
use Rattle.bench_judge.specs.Bounds.{AreSent, AreStepsUnder}
use Rattle.bench_judge.specs.Cut.{HasChoice, IsChosen, IsGoodChoice, IsTurn, by_number}
use Rattle.bench_judge.specs.Frames.{AreFrames, IsKeptOf}
use Rattle.bench_judge.specs.Admitted.{AreAdmitted, IsAdmitted}
use Rattle.bench_judge.specs.Counted.{AreCounts, AreKnown}
use Rattle.bench_judge.specs.Evidence.{IsEvidence}
use Rattle.bench_judge.specs.Judged.{IsDeviation, IsExplanation, IsFirstUnexplained, IsWrongAt}
use Rattle.bench_judge.specs.Known.{IsKnown}
use Rattle.bench_judge.specs.Walk.{IsWalk}
use Rattle.bench_judge.specs.declared.frame.Frame.{Frame}
use Rattle.bench_judge.specs.declared.judgement.Counts.{Counts}
use Rattle.bench_judge.specs.declared.judgement.Evidence.{Evidence}
use Rattle.bench_judge.specs.declared.judgement.Step.{Step}
use Rattle.bench_judge.specs.declared.judgement.Wrong.{Wrong}
use Rattle.bench_judge.specs.Terms.{Terms, ground_in}
use Rattle.bench_judge.specs.declared.walk.Walk.{Walk}
use Rattle.bench_judge.proofs.Fronts.{admitted_front}
use Rattle.bench_judge.proofs.Lists.{front_has, in_front}
use Rattle.bench_judge.proofs.Rises.{steps_are}

module _ (terms : Terms) (events : List Event) (walk : Walk) (known : IsWalk terms events walk) where
  -- where the versions end first
  first_frame : (place : ℕ) → place < walk.walked → IsTurn (ground_in terms) terms.settings.padded terms.settings.unordered events place → IsFirstUnexplained terms events place
  first_frame place lt turn =
      record {
        within = omega (arith, lt, known.within);
        before = record {
          admitted = subst (AreAdmitted terms) (take-take place walk.walked events (omega (arith, lt)))
              (admitted_front terms place (take walk.walked events) known.admitted);
          versions = turn.before.0;
          choice = turn.before.1;
        };
        behind = λ explained. turn.behind (explained.versions, explained.choice);
      }

  pub frame_deviates : (place : ℕ) (wrong : Wrong) → place < walk.walked → IsTurn (ground_in terms) terms.settings.padded terms.settings.unordered events place → IsWrongAt terms events place wrong
      → IsDeviation terms events (record { line = place + 1; wrong = wrong })
  frame_deviates place wrong lt turn is = record { place = place; line = refl; first = first_frame place lt turn; wrong = is }

  -- where an event isn't admitted first
  first_refused : walk.walked < length events → HasChoice (ground_in terms) terms.settings.padded terms.settings.unordered (take walk.walked events) → IsFirstUnexplained terms events walk.walked
  first_refused within choice =
      let w = known.refused within in
      record {
        within = within;
        before = record { admitted = known.admitted; versions = choice.0; choice = choice.1 };
        behind = λ explained.
            w.refused (subst (λ l. IsAdmitted terms l w.seen) (take-take walk.walked (walk.walked + 1) events (omega arith))
            (explained.admitted walk.walked w.seen (front_has (walk.walked + 1) walk.walked events (omega arith) ∙ w.is)));
      }

  choice_of : (found : Option (Vec ℕ Global)) (versions : Vec ℕ Global) → found ≡ Some versions → IsChosen (ground_in terms) terms.settings.padded terms.settings.unordered (take walk.walked events) found
      → IsGoodChoice (ground_in terms) terms.settings.padded terms.settings.unordered (take walk.walked events) (by_number versions)
  choice_of found versions is least = subst (IsChosen (ground_in terms) terms.settings.padded terms.settings.unordered (take walk.walked events)) is least

  pub event_deviates : (wrong : Wrong) (found : Option (Vec ℕ Global)) (versions : Vec ℕ Global) → found ≡ Some versions
      → IsChosen (ground_in terms) terms.settings.padded terms.settings.unordered (take walk.walked events) found → walk.walked < length events → IsWrongAt terms events walk.walked wrong
      → IsDeviation terms events (record { line = walk.walked + 1; wrong = wrong })
  event_deviates wrong found versions is least within at =
      let choice = choice_of found versions is least in
      record { place = walk.walked; line = refl; first = first_refused within (by_number versions, choice.0); wrong = at }

  -- versions that were found of all that was walked are known
  pub walked_known : (found : Option (Vec ℕ Global)) (versions : Vec ℕ Global) → found ≡ Some versions
      → IsChosen (ground_in terms) terms.settings.padded terms.settings.unordered (take walk.walked events) found
      → IsKnown terms events (record { until = walk.walked; versions = versions })
  walked_known found versions is chosen = (choice_of found versions is chosen).0

  -- ended frames were sent by lines with a number
  pub frames_sent : (frames : List Frame) → frames ≡ walk.frames.items → length events < 18446744073709551616 → AreSent frames
  frames_sent frames same small n frame at ended =
      let o : IsKeptOf (ground_in terms) (take walk.walked events) n frame = known.frames.only n frame (ap (λ l. slice_get l n) (sym same) ∙ at) ended in
      let lt = (in_front walk.walked o.f.sent events (Entered o.f.port o.f.extent o.f.bytes) o.is.entered).0 in
      omega (arith, lt, known.within, o.kept.sent, small)

  -- ---- all were walked

  all_walked : length events ≤ walk.walked → take walk.walked events ≡ events
  all_walked whole = take_all walk.walked events whole

  pub known_all : (frames : List Frame) → frames ≡ walk.frames.items → length events ≤ walk.walked → AreKnown events frames
  known_all frames same whole = subst (AreKnown events) (sym same) (subst (λ l. AreKnown l walk.frames.items) (all_walked whole) known.known)

  pub frames_all : (frames : List Frame) → frames ≡ walk.frames.items → length events ≤ walk.walked → AreFrames (ground_in terms) events frames
  frames_all frames same whole = subst (AreFrames (ground_in terms) events) (sym same) (subst (λ l. AreFrames (ground_in terms) l walk.frames.items) (all_walked whole) known.frames)

  pub count_all : (frames : List Frame) → frames ≡ walk.frames.items → length events ≤ walk.walked → length frames ≡ frames_in events
  count_all frames same whole = ap (λ (fs : List Frame). length fs) same ∙ known.count ∙ ap frames_in (all_walked whole)

  pub base_within_all : walk.base ≤ length walk.requests.items
  base_within_all =
      let front : List Event = take walk.walked events in
      let low = base_within (ground_in terms) front in
      let high = least_within (ground_in terms) front in
      omega (arith, low, high, known.base, ap (λ (qs : List Request). length qs) known.requests)

  pub accepted_all : (accepted : ℕ) → accepted ≡ length walk.requests.items - walk.base → length events ≤ walk.walked
      → accepted ≡ length (requests_of (ground_in terms) events) - base (ground_in terms)
  accepted_all accepted is whole =
      is ∙ ap (λ (qs : List Request). length qs - walk.base) known.requests ∙ ap (λ n. length (requests_of (ground_in terms) (take walk.walked events)) - n) known.base
      ∙ ap (λ (xs : List Event). length (requests_of (ground_in terms) xs) - base (ground_in terms)) (all_walked whole)

  pub compared_all : length events ≤ walk.walked → walk.compared ≡ compared (ground_in terms) events
  compared_all whole = known.compared ∙ ap (λ (xs : List Event). compared (ground_in terms) xs) (all_walked whole)

  -- all are explained
  pub all_explained : (counts : Counts) (steps : Vec Step Global) (found : Option (Vec ℕ Global)) (versions : Vec ℕ Global) → length events ≤ walk.walked
      → found ≡ Some versions → IsChosen (ground_in terms) terms.settings.padded terms.settings.unordered (take walk.walked events) found → AreCounts (ground_in terms) events counts
      → (finished : Bool) → finished ≡ is_ended events → (evidence : Evidence) → IsEvidence (ground_in terms) events evidence
      → (terms.settings.unordered ≡ true → steps.items ≡ [])
      → (frames : List Frame) (given : List ℕ) → frames ≡ walk.frames.items → given ≡ versions.items
      → (terms.settings.unordered ≡ false → AreStepsUnder frames (λ n. slice_index given n - walk.base) (length frames) steps.items)
      → IsExplanation terms events (record { counts = counts; steps = steps; finished = finished; evidence = evidence })
  all_explained counts steps found versions whole is least are finished ends evidence judged none frames given same_frames same_given under =
      let all : take walk.walked events ≡ events = take_all walk.walked events whole in
      let choice : IsGoodChoice (ground_in terms) terms.settings.padded terms.settings.unordered events (by_number versions) =
      subst (λ l. IsGoodChoice (ground_in terms) terms.settings.padded terms.settings.unordered l (by_number versions)) all (choice_of found versions is least) in
      let frames_are : AreFrames (ground_in terms) events walk.frames.items = subst (λ l. AreFrames (ground_in terms) l walk.frames.items) all known.frames in
      record {
        explained = record {
          admitted = subst (AreAdmitted terms) all known.admitted;
          versions = by_number versions;
          choice = choice.0;
        };
        counts = are;
        finished = ends;
        evidence = judged;
        unordered = none;
        steps = λ order. record {
          versions = by_number versions;
          least = choice.1 order;
          steps = steps_are (ground_in terms) events walk.frames.items (λ n. by_number versions n - base (ground_in terms)) frames_are steps.items
              (subst (λ b. AreStepsUnder walk.frames.items (λ n. by_number versions n - b) (length walk.frames.items) steps.items) known.base
              (subst (λ fs. AreStepsUnder fs (λ n. by_number versions n - walk.base) (length fs) steps.items) same_frames
              (subst (λ l. AreStepsUnder frames (λ n. slice_index l n - walk.base) (length frames) steps.items) same_given (under order))));
        };
      }
