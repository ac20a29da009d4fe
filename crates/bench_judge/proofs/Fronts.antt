-- What is explained is explained up to each line.
use Rattle.std.proofs.Common.{ℕ, ◌<◌, ◌≤◌, Bool, List, take, ap, sym, subst, ◌∙◌, arith, take-take}
use Rattle.frame_meaning.specs.Meaning.{meaning}
use Rattle.bench_history.specs.History.{frames_in}
use Rattle.bench_history.specs.declared.event.Event.{Event}
use Rattle.bench_history.specs.declared.event.Event.TheVariants.{Entered}
use Rattle.bench_answers.proofs.Fronts.{most_grows, version_front}
use Rattle.bench_sight.specs.Sight.{IsSeenAs}
use Rattle.bench_judge.specs.Admitted.{AreAdmitted, IsAdmitted}
use Rattle.bench_answers.specs.Windows.{least_behind, most_behind}
use Rattle.bench_judge.specs.Explained.{EndedFrame, IsChoice, IsEnded, IsExplained, IsVersionOf}
use Rattle.bench_judge.specs.Terms.{Terms, ground_in}
use Rattle.bench_judge.proofs.Lists.{front_has, in_front}
use Rattle.bench_answers.specs.Ground.{Ground}

-- ---- ended frames

-- one of a front is one of all
pub ended_of_front : (k : ℕ) (events : List Event) (f : EndedFrame) → IsEnded (take k events) f → (f.ended < k) × IsEnded events f
ended_of_front k events f is =
    let sent = in_front k f.sent events (Entered f.port f.extent f.bytes) is.entered in
    let ended = in_front k f.ended events f.seen is.seen in (
      ended.0,
      record {
        entered = sent.1;
        number = is.number ∙ ap frames_in (take-take f.sent k events (omega (arith, sent.0)));
        later = is.later;
        seen = ended.1;
        is_end = is.is_end;
        enough = is.enough;
      },
    )

-- one that ends in a front is one of the front
pub ended_in_front : (k : ℕ) (events : List Event) (f : EndedFrame) → f.ended < k → IsEnded events f → IsEnded (take k events) f
ended_in_front k events f lt is =
    record {
      entered = front_has k f.sent events (omega (arith, lt, is.later)) ∙ is.entered;
      number = is.number ∙ ap frames_in (sym (take-take f.sent k events (omega (arith, lt, is.later))));
      later = is.later;
      seen = front_has k f.ended events lt ∙ is.seen;
      is_end = is.is_end;
      enough = is.enough;
    }

-- ---- versions

-- a version that a frame of a front may have in all it may have in the front
pub version_in_front : (grounds : Ground) {padded : Bool} (k v : ℕ) (events : List Event) (f : EndedFrame) → f.sent < f.ended → f.ended < k
    → IsVersionOf grounds padded events f v → IsVersionOf grounds padded (take k events) f v
version_in_front grounds {padded} k v events f later lt is =
    record {
      least = subst (λ l. least_behind grounds l ≤ v) (sym (take-take f.sent k events (omega (arith, later, lt)))) is.least;
      most = subst (λ l. v ≤ most_behind grounds l) (sym (take-take f.ended k events (omega (arith, lt)))) is.most;
      seen = subst (λ e. IsSeenAs padded (meaning e f.port f.bytes) f.extent f.seen) (version_front grounds k v events (omega (arith, is.most, most_grows grounds events f.ended k (omega (arith, lt))))) is.seen;
    }

-- and the other way round
pub version_of_front : (grounds : Ground) {padded : Bool} (k v : ℕ) (events : List Event) (f : EndedFrame) → f.sent < f.ended → f.ended < k
    → IsVersionOf grounds padded (take k events) f v → IsVersionOf grounds padded events f v
version_of_front grounds {padded} k v events f later lt is =
    let least = subst (λ l. least_behind grounds l ≤ v) (take-take f.sent k events (omega (arith, later, lt))) is.least in
    let most : v ≤ most_behind grounds (take f.ended events) = subst (λ l. v ≤ most_behind grounds l) (take-take f.ended k events (omega (arith, lt))) is.most in
    record {
      least = least;
      most = most;
      seen = subst (λ e. IsSeenAs padded (meaning e f.port f.bytes) f.extent f.seen) (sym (version_front grounds k v events (omega (arith, most, most_grows grounds events f.ended k (omega (arith, lt)))))) is.seen;
    }

-- ---- explained fronts

pub admitted_front : (terms : Terms) (k : ℕ) (events : List Event) → AreAdmitted terms events → AreAdmitted terms (take k events)
admitted_front terms k events admitted i event is =
    let at = in_front k i events event is in
    subst (λ l. IsAdmitted terms l event) (sym (take-take i k events (omega (arith, at.0)))) (admitted i event at.1)

pub choice_front : (grounds : Ground) {padded : Bool} (unordered : Bool) (k : ℕ) (events : List Event) (versions : ℕ → ℕ)
    → IsChoice grounds padded unordered events versions → IsChoice grounds padded unordered (take k events) versions
choice_front grounds unordered k events versions choice =
    record {
      each = λ f is.
          let all = ended_of_front k events f is in
          version_in_front grounds k (versions f.number) events f is.later all.0 (choice.each f all.1);
      ordered = λ order f g is_f is_g port lt.
          choice.ordered order f g (ended_of_front k events f is_f).1 (ended_of_front k events g is_g).1 port lt;
    }

pub explained_front : (terms : Terms) (k : ℕ) (events : List Event) → IsExplained terms events → IsExplained terms (take k events)
explained_front terms k events is =
    record {
      admitted = admitted_front terms k events is.admitted;
      versions = is.versions;
      choice = choice_front (ground_in terms) terms.settings.unordered k events is.versions is.choice;
    }
