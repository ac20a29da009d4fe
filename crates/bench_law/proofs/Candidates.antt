-- One of the frames that a line names may be the one that it saw leave.
use Rattle.std.proofs.Common.{◌≡◌, ◌≤◌, ◌⊎◌, ℕ, Bool, true, false, List, take, inl, inr, refl, sym, subst}
use Rattle.std.proofs.Math.Seq.{take-length}
use Rattle.frame_meaning.specs.Meaning.{meaning}
use Rattle.bench_history.specs.Among.{OneOf}
use Rattle.bench_history.specs.declared.gem.SeenGem.{SeenGem}
use Rattle.bench_history.specs.declared.event.Event.{Event}
use Rattle.bench_history.specs.declared.event.Event.TheVariants.{Left}
use Rattle.bench_history.specs.declared.extent.Extent.{Extent}
use Rattle.bench_sight.specs.Sight.{IsSeenAs, is_enough}
use Rattle.bench_answers.specs.Ground.{Ground}
use Rattle.bench_answers.specs.Asked.{version}
use Rattle.bench_answers.specs.Windows.{most_behind}
use Rattle.bench_answers.specs.declared.standing.Standing.{Standing}
use Rattle.bench_judge.specs.Explained.{EndedFrame, IsVersionOf}
use Rattle.bench_judge.specs.Doubt.{IsOneOf, IsSent, LeavesBy, MayBe}
use Rattle.bench_law.specs.Steps.{Step, shown}
use Rattle.bench_law.specs.Observation.{IsForwarded, IsNamed, IsOneThatLeft}
use Rattle.bench_law.proofs.Observed.{IsCourse}
use Rattle.bench_law.proofs.Versions.{has_version, held}

module _ (lanes : ℕ) (grounds : Ground) (means : List Standing) (padded : Bool) (before : List Step) (c : IsCourse lanes grounds means before) where
  module _ (gem : SeenGem) (extent : Extent) (among : OneOf) where
    abbrev sent_so : (f : EndedFrame) → IsNamed before gem extent among f → IsSent (shown before) f.number
    sent_so f is =
        record { place = f.sent; port = f.port; extent = f.extent; bytes = f.bytes; entered = is.entered; number = is.number }

    -- a version of the frame's window is one of the window that ends with the line
    leaves_by : (f : EndedFrame) (is : IsNamed before gem extent among f) (v : ℕ) → IsVersionOf grounds padded (shown before) f v
        → LeavesBy grounds padded (shown before) f.number (sent_so f is) (Left gem extent f.number among.frame) v
    leaves_by f is v by =
        let all : take f.ended (shown before) ≡ shown before =
        subst (λ (k : ℕ). take k (shown before) ≡ shown before) (sym is.ended) (take-length (shown before)) in
        record {
          least = by.least;
          most = subst (λ (l : List Event). v ≤ most_behind grounds l) all by.most;
          shows =
              subst (λ (seen : Event). IsSeenAs padded (meaning (version grounds (shown before) v) f.port f.bytes) f.extent seen) is.seen by.seen;
        }

    -- a frame that was forwarded leaves by the version that its lane held, or too little is known of it
    by_held : (f : EndedFrame) (is : IsNamed before gem extent among f) (lane place : ℕ) → IsForwarded padded before f lane place
        → (enough : Bool) → is_enough f.extent f.bytes ≡ enough
        → (is_enough f.extent f.bytes ≡ false)
        ⊎ ((v : ℕ) × LeavesBy grounds padded (shown before) f.number (sent_so f is) (Left gem extent f.number among.frame) v)
    by_held f is lane place forwarded false few = inl few
    by_held f is lane place forwarded true enough =
        let v : ℕ = held lanes grounds means padded before c f lane place forwarded in
        inr (v, leaves_by f is v (has_version lanes grounds means padded before c f lane place forwarded is.entered enough))

    may_be : (f : EndedFrame) (is : IsNamed before gem extent among f) (lane place : ℕ) → IsForwarded padded before f lane place
        → MayBe grounds padded (shown before) f.number (Left gem extent f.number among.frame)
    may_be f is lane place forwarded =
        record { sent = sent_so f is; by = by_held f is lane place forwarded (is_enough f.extent f.bytes) refl }

    pub is_one_of : IsOneThatLeft padded before gem extent among → IsOneOf grounds padded (shown before) gem extent among
    is_one_of one =
        let f : EndedFrame = one.frame in (
          f.number,
          one.is_named.named,
          elim one.left [
            | inl few ↦ record { sent = sent_so f one.is_named; by = inl few }
            | inr lets ↦ may_be f one.is_named lets.0 lets.1 lets.2
          ],
        )
