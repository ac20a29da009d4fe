-- What went well.
use Rattle.std.proofs.Common.{◌≡◌, ◌≤◌, ℕ, Bool, List, length, Option, Some, Result, Ok, Err, ap, sym, ◌∙◌, inl, inr}
use Rattle.std.specs.Result.{IfOk, result_ok}
use Rattle.std.specs.Prelude.{◌&&◌}
use Rattle.std.proofs.lemmas.Bool.Decides.{leb_tells}
use Rattle.omci_msg.specs.declared.fault.MsgFault.{MsgFault}
use Rattle.omci_msg.specs.declared.request.Request.{Request}
use Rattle.omci_msg.specs.Message.{request_of}
use Rattle.bench_reply.proofs.Lengths.{long_request}
use Rattle.bench_history.specs.declared.event.Event.{Event}
use Rattle.bench_answers.specs.Asked.{is_again, is_repeat, last_sent}

-- what holds where something went well, by what else does
pub ok_more : {A E : Type 0} (r : Result A E) (P Q : A → Type 0) → ((x : A) → P x → Q x) → IfOk r P → IfOk r Q
ok_more (Ok x) P Q by is = by x is
ok_more (Err e) P Q by is = is

pub ok_of : (r : Result Request MsgFault) (q : Request) → Some q ≡ result_ok r → r ≡ Ok q
ok_of (Ok x) q is = cc is
ok_of (Err fault) q is = cc is

-- a request has no more bytes than a message
short_request : (message : List ℕ) (q : Request) → Some q ≡ result_ok (request_of message) → length message ≤ 48
short_request message q read =
    elim (leb_tells (length message) 48) [
      | inl short ↦ short.1
      | inr long ↦ absurd (cc (read ∙ long_request message long.1))
    ]

-- whether it is a repeat, as it was looked up
pub repeat_as : (repeats kept result : Bool) (message : List ℕ) (last : Option (List ℕ)) (before : List Event) (q : Request) → kept ≡ repeats → last ≡ last_sent before
    → Some q ≡ result_ok (request_of message) → (length message ≤ 48 → result ≡ (kept && is_again last message)) → is_repeat repeats before message ≡ result
repeat_as repeats kept result message last before q same is read told =
    sym (told (short_request message q read) ∙ ap (λ b. b && is_again last message) same ∙ ap (λ (o : Option (List ℕ)). repeats && is_again o message) is)
