-- The entities after a list of requests.
use Rattle.std.specs.Prelude.{◌≡◌, ◌<◌, ◌≤◌, ℕ, Bool, true, false, ◌&&◌, ◌==◌, List, [], ◌∷◌, if◌then◌else◌, length, IfSome}
use Rattle.omci_msg.specs.declared.Request.{Request}
use Rattle.omci_msg.specs.declared.Action.{Action}
use Rattle.omci_msg.specs.declared.Action.TheVariants.{Create, Delete, Set, Get, GetNext, MibUpload, MibUploadNext, MibReset, Other}
use Rattle.managed_entity.specs.Answer.{success_code}
use Rattle.managed_entity.specs.Instance.{Instance}
use Rattle.mib_state.specs.Entities.{Entities, State, nothing, unlatched, instances_of, next, number_at, IsAscending, IsAt}
use Rattle.mib_state.specs.Step.{left, result_of, step}

-- the entities after each request in turn
abbrev pub after_from : Entities → List Request → Entities
after_from e [] = e
after_from e (q ∷ rest) = after_from (left q.action e q) rest

-- the same, from no instance and sync 0
abbrev pub after : List Request → Entities
after requests = after_from nothing requests

-- the actions that may change the entities
abbrev pub may_change : Action → Bool
may_change Create = true
may_change Delete = true
may_change Set = true
may_change Get = false
may_change GetNext = false
may_change MibUpload = false
may_change MibUploadNext = false
may_change MibReset = true
may_change (Other code) = false

-- a step succeeds where it may change the entities and its result is success
abbrev pub succeeds : State → Request → Bool
succeeds s q = may_change q.action && result_of (step s q).0 == success_code

-- a request is accepted where its step succeeds; whether it does is the same whatever is latched
abbrev pub is_accepted : Entities → Request → Bool
is_accepted e q = succeeds (unlatched e) q

-- the requests of a list that are accepted, each where it comes
abbrev pub accepted_from : Entities → List Request → List Request
accepted_from e [] = []
accepted_from e (q ∷ rest) =
    if is_accepted e q then q ∷ accepted_from (left q.action e q) rest else accepted_from (left q.action e q) rest

abbrev pub accepted : List Request → List Request
accepted requests = accepted_from nothing requests

-- ---- laws

-- the entities after a list of requests are those after its accepted requests alone
abbrev pub AcceptedSuffice : Type 0
AcceptedSuffice = (requests : List Request) → after (accepted requests) ≡ after requests

-- the state after each step in turn
abbrev pub state_from : State → List Request → State
state_from s [] = s
state_from s (q ∷ rest) = state_from (step s q).1 rest

-- the latched table is no entity: neither the entities that steps leave nor which requests are accepted depend on it
pub record LatchIsNoEntity : Type 0 where
  pub left : (s : State) (requests : List Request) → (state_from s requests).entities ≡ after_from s.entities requests
  pub accepted : (s : State) (q : Request) → succeeds s q ≡ is_accepted s.entities q

-- the instances of each class stand by ascending number
pub record AreAscending (e : Entities) : Type 0 where
  pub mappers : IsAscending e.mappers
  pub vlans : IsAscending e.vlans
  pub interworks : IsAscending e.interworks
  pub gem_ports : IsAscending e.gem_ports

-- so they do after every list of requests
abbrev pub ClassesAscend : Type 0
ClassesAscend = (requests : List Request) → AreAscending (after requests)

-- a number is the least, from one on, that an instance has
pub record IsLeastFrom (from : ℕ) (l : List Instance) (n : ℕ) : Type 0 where
  pub held : (place : ℕ) × IsAt l n place
  pub from_on : from ≤ n
  pub least : (place : ℕ) → place < length l → from ≤ number_at l place → n ≤ number_at l place

-- so after every list of requests the first number of a class that isn't under another is the least such
abbrev pub NextIsLeast : Type 0
NextIsLeast = (requests : List Request) (class from : ℕ)
    → IfSome (next from (instances_of (after requests) class)) (IsLeastFrom from (instances_of (after requests) class))
