-- An answer of the machine is the model's, to the request of its number.
use Rattle.std.proofs.Common.{◌≡◌, ◌<◌, ◌+◌, ℕ, List, ◌∷◌, ◌++◌, take, Some, slice_get, sym, ap, ◌∙◌, arith, append_assoc}
use Rattle.std.proofs.lemmas.Grind.{flat_map-append}
use Rattle.omci_msg.specs.declared.request.Request.{Request}
use Rattle.omci_msg.specs.declared.reply.Reply.{Reply}
use Rattle.mib_upload.specs.Upload.{answered, start}
use Rattle.plan_publish.specs.World.{opening, IsRun, Event as MachineEvent, Message, Replied as Answered}
use Rattle.plan_publish.specs.Interleavings.{desk_after, request_in as carried_by, requests_in}
use Rattle.plan_publish.proofs.Interleavings.{replies_follow}
use Rattle.bench_reply.specs.Replies.{Wanted}
use Rattle.bench_answers.specs.Ground.{Ground}
use Rattle.bench_answers.specs.Asked.{asked, wanted, wanted_before, wanted_from}
use Rattle.bench_law.specs.Steps.{Step, happened, shown, carried, wanting, answered_in}
use Rattle.bench_law.specs.Observation.{IsAnswer}
use Rattle.bench_law.proofs.Fronts.{IsFront, before_end, behind_front}
use Rattle.bench_law.proofs.Courses.{event_at, run_at}
use Rattle.bench_law.proofs.Requests.{wanted_append, wanted_behind, wanted_count}
use Rattle.bench_law.proofs.Carried.{due}

module _ (lanes : ℕ) (grounds : Ground) (before : List Step) (run : IsRun lanes opening (happened before))
    (front : IsFront (carried before) (due grounds before)) (bytes : List ℕ) (a : IsAnswer grounds.modelled before bytes) where
  -- the request with its reply
  abbrev it : Wanted
  it = record { request = a.request; reply = a.reply }

  stands : slice_get (wanted_from start (due grounds before)) (answered_in (take a.place before)) ≡ Some it
  stands =
      let past : List MachineEvent = happened (take a.place before) in
      let qs : List Request = requests_in past in
      let event = event_at before a.place (Message a.request) a.carried_out in
      let all : due grounds before ≡ qs ++ a.request ∷ (requests_in event.0 ++ front.rest) =
      front.is
      ∙ ap (λ (es : List MachineEvent). requests_in es ++ front.rest) event.1
      ∙ ap (λ (l : List Request). l ++ front.rest) (flat_map-append carried_by past (Message a.request ∷ event.0))
      ∙ append_assoc qs (a.request ∷ requests_in event.0) front.rest in
      let at = run_at lanes before a.place (Message a.request) a.carried_out run in
      let same : Answered a.reply ≡ Answered (answered (desk_after qs) a.request).0 =
      sym a.answered ∙ replies_follow lanes past at.0 a.request at.1 in
      let reply : a.reply ≡ (answered (desk_after qs) a.request).0 = cc same in
      ap (λ (l : List Request). slice_get (wanted_from start l) (wanting qs)) all
      ∙ wanted_behind start qs a.request (requests_in event.0 ++ front.rest) a.wants_answer
      ∙ ap (λ (r : Reply). Some (record { request = a.request; reply = r })) (sym reply)

  parts : wanted_from start (due grounds before) ≡ wanted_before grounds ++ wanted grounds (shown before)
  parts = wanted_append start grounds.start (asked grounds.repeats (shown before))

  -- a request of the lines
  pub answers_line : (k : ℕ) → answered_in (take a.place before) ≡ wanting grounds.start + k
      → slice_get (wanted grounds (shown before)) k ≡ Some (record { request = a.request; reply = a.reply })
  answers_line k number =
      let count : ℕ = answered_in (take a.place before) in
      sym (behind_front (wanted_before grounds) (wanted grounds (shown before)) k count (omega (arith, number, wanted_count start grounds.start)))
      ∙ ap (λ (ws : List Wanted). slice_get ws count) (sym parts) ∙ stands

  -- a request of the script
  pub answers_script : (j : ℕ) → answered_in (take a.place before) ≡ j → j < wanting grounds.start
      → slice_get (wanted_before grounds) j ≡ Some (record { request = a.request; reply = a.reply })
  answers_script j number within =
      sym (before_end (wanted_before grounds) (wanted grounds (shown before)) j (omega (arith, within, wanted_count start grounds.start)))
      ∙ ap (λ (ws : List Wanted). slice_get ws j) (sym parts)
      ∙ ap (λ (n : ℕ). slice_get (wanted_from start (due grounds before)) n) (sym number) ∙ stands
