-- Whether a frame was seen to end as entities mean it to, by its events.
use Rattle.std.proofs.Common.{◌≡◌, ℕ, Bool, List, Some, slice_get, ap, subst, sym, ◌∙◌}
use Rattle.std.specs.Prelude.{Decides}
use Rattle.mib_state.specs.Entities.{Entities}
use Rattle.frame_meaning.specs.Meaning.{meaning}
use Rattle.bench_history.specs.declared.event.Event.{Event}
use Rattle.bench_sight.specs.Sight.{IsSeenAs}
use Rattle.bench_judge.specs.Doubt.{LeavesSo}
use Rattle.bench_judge.specs.Frames.{IsSeenBy}
use Rattle.bench_judge.specs.declared.frame.Frame.{Frame}
use Rattle.bench_judge.proofs.Choices.{some_as}

pub seen_decides : (padded : Bool) (events : List Event) (frame : Frame) (e : Entities) (end : ℕ) (seen : Event) (result : Bool)
    → frame.ended ≡ Some end → slice_get events end ≡ Some seen
    → Decides result (LeavesSo padded events frame seen e) → Decides result (IsSeenBy padded events frame e)
seen_decides padded events frame e end seen result ended at decides = (
  λ yes.
      let l = decides.0 yes in
      record { port = l.port; extent = l.extent; bytes = l.bytes; entered = l.entered; end = end; ended = ended; seen = seen; at_end = at; shows = l.shows },
  λ is.
      let ends = some_as is.end end (sym is.ended ∙ ended) in
      let shown = some_as is.seen seen (sym is.at_end ∙ ap (slice_get events) ends ∙ at) in
      decides.1 (record {
        port = is.port;
        extent = is.extent;
        bytes = is.bytes;
        entered = is.entered;
        shows = subst (λ x. IsSeenAs padded (meaning e is.port is.bytes) is.extent x) shown is.shows;
      }),
)
