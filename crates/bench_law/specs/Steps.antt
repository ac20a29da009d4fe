-- What happens at a unit that is observed, step by step: an event of its machine, or a line that the observer writes.
use Rattle.std.specs.Prelude.{ℕ, List, Option, Some, None, count_by}
use Rattle.std.specs.List.{filter_map}
use Rattle.omci_msg.specs.declared.request.Request.{Request}
use Rattle.plan_publish.specs.World.{Event as MachineEvent}
use Rattle.plan_publish.specs.Interleavings.{requests_in}
use Rattle.bench_history.specs.declared.event.Event.{Event}

pub data Step : Type 0 where
  Happens : (event : MachineEvent) → Step
  Shows : (line : Event) → Step

abbrev pub happening : Step → Option MachineEvent
happening (Happens event) = Some event
happening (Shows line) = None

abbrev pub line_of : Step → Option Event
line_of (Happens event) = None
line_of (Shows line) = Some line

-- the events of the machine, in order
abbrev pub happened : List Step → List MachineEvent
happened steps = filter_map happening steps

-- the history: the lines that were written, in order
abbrev pub shown : List Step → List Event
shown steps = filter_map line_of steps

-- the requests that steps carry out
abbrev pub carried : List Step → List Request
carried steps = requests_in (happened steps)

-- how many of requests want an answer
abbrev pub wanting : List Request → ℕ
wanting requests = count_by (λ q. q.wants_answer) requests

-- the same of the requests that were carried out
abbrev pub answered_in : List Step → ℕ
answered_in steps = wanting (carried steps)
