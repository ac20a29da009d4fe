-- What an observation says of the machine, of messages, replies and waits, up to each step.
use Rattle.std.proofs.Common.{◌≡◌, ◌<◌, ℕ, List, length, take, Some, slice_get, sym, subst, arith, take-take}
use Rattle.plan_publish.specs.World.{IsRun, opening, Message}
use Rattle.bench_history.specs.declared.event.Event.{Event}
use Rattle.bench_history.specs.declared.event.Event.TheVariants.{Replied, Excused, Entered}
use Rattle.bench_history.specs.declared.extent.Extent.{Extent}
use Rattle.bench_answers.specs.Ground.{Ground}
use Rattle.bench_answers.specs.Asked.{base}
use Rattle.bench_answers.specs.declared.standing.Standing.{Standing}
use Rattle.bench_law.specs.Steps.{Step, Happens, Shows, happened, carried}
use Rattle.bench_law.specs.Observation.{HasLearnt, IsReply, awaits, seen_in}
use Rattle.bench_law.proofs.Fronts.{front_taken, in_front}
use Rattle.bench_law.proofs.Courses.{run_of}
use Rattle.bench_law.proofs.Carried.{AreCarriedInOrder, due}

pub record IsCourse (lanes : ℕ) (grounds : Ground) (means : List Standing) (steps : List Step) : Type 0 where
  pub run : IsRun lanes opening (happened steps)
  pub carried_out : AreCarriedInOrder grounds steps
  pub replied : (place : ℕ) (bytes : List ℕ) → slice_get steps place ≡ Some (Shows (Replied bytes)) → IsReply grounds means (take place steps) bytes
  pub unexcused : (place : ℕ) (bytes : List ℕ) → slice_get steps place ≡ Some (Shows (Excused bytes)) → ⊥
  pub waited : (place : ℕ) (line : Event) → slice_get steps place ≡ Some (Shows line) → 0 < awaits (seen_in means (take place steps)) line
      → (lane : ℕ) → lane < lanes → HasLearnt grounds.start (take place steps) (awaits (seen_in means (take place steps)) line) lane
  pub begun : (place port : ℕ) (extent : Extent) (frame : List ℕ) → slice_get steps place ≡ Some (Shows (Entered port extent frame))
      → 0 < base grounds → (lane : ℕ) → lane < lanes → HasLearnt grounds.start (take place steps) 0 lane

-- what holds of all steps holds of those up to a place
pub course_upto : (lanes : ℕ) (grounds : Ground) (means : List Standing) (steps : List Step) (k : ℕ) → IsCourse lanes grounds means steps
    → IsCourse lanes grounds means (take k steps)
course_upto lanes grounds means steps k c =
    record {
      run = run_of lanes (front_taken k steps) c.run;
      carried_out = λ place q at.
          let here = in_front k place steps (Happens (Message q)) at in
          subst (λ (l : List Step). slice_get (due grounds l) (length (carried l)) ≡ Some q)
          (sym (take-take place k steps (omega (arith, here.0)))) (c.carried_out place q here.1);
      replied = λ place bytes at.
          let here = in_front k place steps (Shows (Replied bytes)) at in
          subst (λ (l : List Step). IsReply grounds means l bytes) (sym (take-take place k steps (omega (arith, here.0)))) (c.replied place bytes here.1);
      unexcused = λ place bytes at. c.unexcused place bytes (in_front k place steps (Shows (Excused bytes)) at).1;
      waited = λ place line at.
          let here = in_front k place steps (Shows line) at in
          subst (λ (l : List Step). 0 < awaits (seen_in means l) line → (lane : ℕ) → lane < lanes → HasLearnt grounds.start l (awaits (seen_in means l) line) lane)
          (sym (take-take place k steps (omega (arith, here.0)))) (c.waited place line here.1);
      begun = λ place port extent frame at.
          let here = in_front k place steps (Shows (Entered port extent frame)) at in
          subst (λ (l : List Step). 0 < base grounds → (lane : ℕ) → lane < lanes → HasLearnt grounds.start l 0 lane)
          (sym (take-take place k steps (omega (arith, here.0)))) (c.begun place port extent frame here.1);
    }
