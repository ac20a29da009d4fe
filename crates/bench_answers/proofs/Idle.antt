-- Events that are no message, no reply and no wait leave what is kept.
use Rattle.std.proofs.Common.{◌≡◌, ◌+◌, ℕ, List, Some, refl}
use Rattle.std.specs.List.{slice_get}
use Rattle.bench_history.specs.declared.event.Event.{Event}
use Rattle.bench_history.specs.declared.event.Event.TheVariants.{Sent, Replied, Excused, Entered, Left, LeftOneOf, Strayed, Dropped, Lost, Waited, Ended, Nothing}
use Rattle.bench_answers.specs.Ground.{Ground}
use Rattle.bench_answers.specs.Kept.{IsAnswersOf}
use Rattle.bench_answers.specs.declared.answers.Answers.{Answers}
use Rattle.bench_answers.proofs.Following.{idle_on}

-- an event that is none of these
abbrev pub IsIdle : Event → Type 0
IsIdle (Sent message) = ⊥
IsIdle (Replied reply) = ⊥
IsIdle (Excused reply) = ⊥
IsIdle (Waited replies) = ⊥
IsIdle event = Unit {0}

pub idle_stays : (grounds : Ground) (events : List Event) (place : ℕ) (event : Event) (answers : Answers) → slice_get events place ≡ Some event → IsIdle event
    → IsAnswersOf grounds events place answers → IsAnswersOf grounds events (place + 1) answers
idle_stays grounds events place (Sent message) answers at idle is = absurd idle
idle_stays grounds events place (Replied reply) answers at idle is = absurd idle
idle_stays grounds events place (Excused reply) answers at idle is = absurd idle
idle_stays grounds events place (Waited replies) answers at idle is = absurd idle
idle_stays grounds events place (Entered port extent frame) answers at idle is = idle_on grounds events place (Entered port extent frame) at answers is refl refl refl refl refl
idle_stays grounds events place (Left gem extent number frame) answers at idle is = idle_on grounds events place (Left gem extent number frame) at answers is refl refl refl refl refl
idle_stays grounds events place (LeftOneOf gem extent told) answers at idle is = idle_on grounds events place (LeftOneOf gem extent told) at answers is refl refl refl refl refl
idle_stays grounds events place (Strayed gem extent frame) answers at idle is = idle_on grounds events place (Strayed gem extent frame) at answers is refl refl refl refl refl
idle_stays grounds events place (Dropped number) answers at idle is = idle_on grounds events place (Dropped number) at answers is refl refl refl refl refl
idle_stays grounds events place (Lost number) answers at idle is = idle_on grounds events place (Lost number) at answers is refl refl refl refl refl
idle_stays grounds events place Ended answers at idle is = idle_on grounds events place Ended at answers is refl refl refl refl refl
idle_stays grounds events place Nothing answers at idle is = idle_on grounds events place Nothing at answers is refl refl refl refl refl
