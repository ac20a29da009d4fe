-- A request that isn't accepted leaves the entities, and the latched table has no part in it.
use Rattle.std.proofs.Common.{◌≡◌, [], ◌∷◌, List, refl, true, false, cond, ap, sym, ◌∙◌, nat_eq, Result, Ok, Err, is_ok}
use Rattle.std.specs.Prelude.{◌&&◌, slice_index}
use mathlib.Core.Bool.{false≢true}
use Rattle.omci_msg.specs.declared.Request.{Request}
use Rattle.omci_msg.specs.declared.Action.{Action}
use Rattle.omci_msg.specs.declared.Action.TheVariants.{Create, Delete, Set, Get, GetNext, MibUpload, MibUploadNext, MibReset, Other}
use Rattle.managed_entity.specs.declared.refusal.Refusal.{Refusal}
use Rattle.managed_entity.specs.declared.refusal.Refusal.TheVariants.{ProcessingError, NotSupported, ParameterError, UnknownEntity, UnknownInstance, InstanceExists, AttributesFailed}
use Rattle.managed_entity.specs.Answer.{left_by, told, refused}
use Rattle.mib_state.specs.Entities.{Entities, State, nothing, unlatched}
use Rattle.mib_state.specs.Step.{create, delete, set, done, answered, left, step}
use Rattle.mib_state.specs.After.{may_change, is_accepted, after_from, accepted_from, state_from, AcceptedSuffice, LatchIsNoEntity}

changed_refused : {A : Type 0} (e : A) (r : Result A Refusal) → nat_eq (slice_index (told (done r)) 0) 0 ≡ false → left_by e r ≡ e
changed_refused e (Ok now) h = absurd (false≢true (sym h))
changed_refused e (Err refusal) h = refl

action_refused : (a : Action) (e : Entities) (q : Request)
    → (may_change a && nat_eq (slice_index (told (answered a (unlatched e) q)) 0) 0) ≡ false → left a e q ≡ e
action_refused Create e q h = changed_refused e (create e q) h
action_refused Delete e q h = changed_refused e (delete e q) h
action_refused Set e q h = changed_refused e (set e q) h
action_refused Get e q h = refl
action_refused GetNext e q h = refl
action_refused MibUpload e q h = refl
action_refused MibUploadNext e q h = refl
action_refused MibReset e q h = absurd (false≢true (sym h))
action_refused (Other code) e q h = refl

pub left_by_refused : (e : Entities) (q : Request) → is_accepted e q ≡ false → left q.action e q ≡ e
left_by_refused e q h = action_refused q.action e q h

-- ---- what the decision says

-- no refusal has the result of success
not_success : (refusal : Refusal) → nat_eq (slice_index (refused refusal) 0) 0 ≡ false
not_success ProcessingError = refl
not_success NotSupported = refl
not_success ParameterError = refl
not_success UnknownEntity = refl
not_success UnknownInstance = refl
not_success InstanceExists = refl
not_success (AttributesFailed optional execution) = refl

done_succeeds : {A : Type 0} (r : Result A Refusal) → nat_eq (slice_index (told (done r)) 0) 0 ≡ is_ok (done r)
done_succeeds (Ok new) = refl
done_succeeds (Err refusal) = not_success refusal

-- an action that isn't refused is accepted where it may change the entities
ok_accepted : (a : Action) (s : State) (q : Request) → is_ok (answered a s q) ≡ true
    → may_change a ≡ (may_change a && nat_eq (slice_index (told (answered a (unlatched s.entities) q)) 0) 0)
ok_accepted Create s q ok = sym (done_succeeds (create s.entities q) ∙ ok)
ok_accepted Delete s q ok = sym (done_succeeds (delete s.entities q) ∙ ok)
ok_accepted Set s q ok = sym (done_succeeds (set s.entities q) ∙ ok)
ok_accepted Get s q ok = refl
ok_accepted GetNext s q ok = refl
ok_accepted MibUpload s q ok = refl
ok_accepted MibUploadNext s q ok = refl
ok_accepted MibReset s q ok = refl
ok_accepted (Other code) s q ok = refl

-- one that is refused isn't
err_accepted : (a : Action) (s : State) (q : Request) → is_ok (answered a s q) ≡ false
    → false ≡ (may_change a && nat_eq (slice_index (told (answered a (unlatched s.entities) q)) 0) 0)
err_accepted Create s q isnt = sym (done_succeeds (create s.entities q) ∙ isnt)
err_accepted Delete s q isnt = sym (done_succeeds (delete s.entities q) ∙ isnt)
err_accepted Set s q isnt = sym (done_succeeds (set s.entities q) ∙ isnt)
err_accepted Get s q isnt = refl
err_accepted GetNext s q isnt = refl
err_accepted MibUpload s q isnt = refl
err_accepted MibUploadNext s q isnt = refl
err_accepted MibReset s q isnt = absurd (false≢true (sym isnt))
err_accepted (Other code) s q isnt = refl

pub accepted_by_ok : (s : State) (q : Request) → is_ok (answered q.action s q) ≡ true → may_change q.action ≡ is_accepted s.entities q
accepted_by_ok s q ok = ok_accepted q.action s q ok

pub accepted_by_err : (s : State) (q : Request) → is_ok (answered q.action s q) ≡ false → false ≡ is_accepted s.entities q
accepted_by_err s q isnt = err_accepted q.action s q isnt

-- an action that may not change the entities leaves them
pub unchanging : (a : Action) (e : Entities) (q : Request) → may_change a ≡ false → left a e q ≡ e
unchanging Create e q isnt = absurd (false≢true (sym isnt))
unchanging Delete e q isnt = absurd (false≢true (sym isnt))
unchanging Set e q isnt = absurd (false≢true (sym isnt))
unchanging Get e q isnt = refl
unchanging GetNext e q isnt = refl
unchanging MibUpload e q isnt = refl
unchanging MibUploadNext e q isnt = refl
unchanging MibReset e q isnt = absurd (false≢true (sym isnt))
unchanging (Other code) e q isnt = refl

-- ---- accepted requests alone

-- a request that isn't accepted can be left out anywhere
suffices : (e : Entities) (qs : List Request) → after_from e (accepted_from e qs) ≡ after_from e qs
suffices e [] = refl
suffices e (q ∷ qs) =
    let now : Entities = left q.action e q in
    let later = suffices now qs in
    elim (is_accepted e q) as (λ b. is_accepted e q ≡ b → after_from e (cond b (q ∷ accepted_from now qs) (accepted_from now qs)) ≡ after_from now qs) [
      | true ↦ λ h. later
      | false ↦ λ h. ap (λ x. after_from x (accepted_from now qs)) (sym (left_by_refused e q h)) ∙ later
    ] refl

pub accepted_suffice : AcceptedSuffice
accepted_suffice qs = suffices nothing qs

-- ---- the latched table

entities_left : (s : State) (qs : List Request) → (state_from s qs).entities ≡ after_from s.entities qs
entities_left s [] = refl
entities_left s (q ∷ qs) = entities_left (step s q).1 qs

action_succeeds : (a : Action) (s : State) (q : Request)
    → (may_change a && nat_eq (slice_index (told (answered a s q)) 0) 0) ≡ (may_change a && nat_eq (slice_index (told (answered a (unlatched s.entities) q)) 0) 0)
action_succeeds Create s q = refl
action_succeeds Delete s q = refl
action_succeeds Set s q = refl
action_succeeds Get s q = refl
action_succeeds GetNext s q = refl
action_succeeds MibUpload s q = refl
action_succeeds MibUploadNext s q = refl
action_succeeds MibReset s q = refl
action_succeeds (Other code) s q = refl

pub latch_is_no_entity : LatchIsNoEntity
latch_is_no_entity = record { left = entities_left; accepted = λ s q. action_succeeds q.action s q }
