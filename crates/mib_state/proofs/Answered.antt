-- What an action answers says whether it changes the state.
use Rattle.std.proofs.Common.{◌≡◌, ℕ, Bool, List, Option, Some, None, Result, Ok, Err, true, false, is_ok, refl, sym, ap}
use Rattle.std.specs.Prelude.{◌&&◌, ◌==◌, if◌then◌else◌}
use Rattle.std.proofs.lemmas.Bool.{eqb-true}
use mathlib.Core.Bool.{false≢true}
use Rattle.omci_msg.specs.declared.Request.{Request}
use Rattle.omci_msg.specs.declared.Action.{Action}
use Rattle.omci_msg.specs.declared.Action.TheVariants.{Create, Delete, Set, Get, GetNext, MibUpload, MibUploadNext, MibReset, Other}
use Rattle.managed_entity.specs.declared.attribute.Attribute.{Attribute}
use Rattle.managed_entity.specs.declared.refusal.Refusal.{Refusal}
use Rattle.managed_entity.specs.Answer.{outcome_of, left_by}
use Rattle.managed_entity.specs.Class.{vlan_layout}
use Rattle.managed_entity.specs.Instance.{Instance}
use Rattle.managed_entity.specs.Mask.{names, mask_of}
use Rattle.mib_state.specs.Entities.{Entities, Latched, State, find}
use Rattle.mib_state.specs.Step.{create, delete, set, get, get_found, latched, latched_of, done, answered, state_left}

pub done_outcome : {A : Type 0} (r : Result A Refusal) → done (outcome_of r) ≡ done r
done_outcome (Ok now) = refl
done_outcome (Err refusal) = refl

pub is_ok_done : {A : Type 0} (r : Result A Refusal) → is_ok (done r) ≡ is_ok r
is_ok_done (Ok now) = refl
is_ok_done (Err refusal) = refl

left_by_refused : {A : Type 0} (e : A) (r : Result A Refusal) → is_ok (done r) ≡ false → left_by e r ≡ e
left_by_refused e (Ok now) h = absurd (false≢true (sym h))
left_by_refused e (Err refusal) h = refl

-- a Get that is refused latches nothing
latch_found : (layout : List Attribute) (mask : ℕ) (latch : Option Latched) (found : Option Instance) → is_ok (get_found layout mask found) ≡ false → latched_of latch found ≡ latch
latch_found layout mask latch None h = refl
latch_found layout mask latch (Some i) h = absurd (false≢true (sym h))

both : (a b : Bool) → (a && b) ≡ true → a ≡ true
both true b e = refl
both false b e = absurd (false≢true e)

get_refused : (s : State) (q : Request) → is_ok (get s.entities q) ≡ false → latched s q ≡ s.latch
unfolding get
get_refused s q h =
    let found = find q.instance s.entities.vlans in
    elim (q.class == 171 && names (mask_of q.contents) 5) as (λ b. (q.class == 171 && names (mask_of q.contents) 5) ≡ b → (if b then latched_of s.latch found else s.latch) ≡ s.latch) [
      | true ↦ λ is. let class : q.class ≡ 171 = eqb-true _ _ (both (q.class == 171) _ is) in latch_found vlan_layout (mask_of q.contents) s.latch found (rw class at h)
      | false ↦ λ is. refl
    ] refl

with_entities : State → Entities → State
with_entities s e = record s { entities = e }

with_latch : State → Option Latched → State
with_latch s latch = record s { latch = latch }

-- an action that is refused leaves the state
pub left_refused : (a : Action) (s : State) (q : Request) → is_ok (answered a s q) ≡ false → state_left a s q ≡ s
unfolding with_entities with_latch
left_refused Create s q h = ap (with_entities s) (left_by_refused s.entities (create s.entities q) h)
left_refused Delete s q h = ap (with_entities s) (left_by_refused s.entities (delete s.entities q) h)
left_refused Set s q h = ap (with_entities s) (left_by_refused s.entities (set s.entities q) h)
left_refused Get s q h = ap (with_latch s) (get_refused s q h)
left_refused GetNext s q h = refl
left_refused MibUpload s q h = refl
left_refused MibUploadNext s q h = refl
left_refused MibReset s q h = absurd (false≢true (sym h))
left_refused (Other code) s q h = refl

pub ruleset answers = (done_outcome, is_ok_done)
