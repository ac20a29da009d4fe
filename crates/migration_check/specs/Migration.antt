-- A migration from one configuration to another: requests that are accepted one after the other, lead there, and tear no frame on the way.
use Rattle.std.specs.Prelude.{◌≡◌, ◌<◌, ◌^◌, ℕ, Bool, true, ◌&&◌, List, [], ◌∷◌, length, take}
use Rattle.omci_msg.specs.declared.Request.{Request}
use Rattle.managed_entity.specs.Instance.{Instance}
use Rattle.mib_state.specs.Entities.{Entities, find}
use Rattle.mib_state.specs.Step.{left}
use Rattle.mib_state.specs.After.{after_from, is_accepted}
use Rattle.frame_rows.specs.Sight.{sight_of}
use Rattle.frame_classes.specs.Classes.{IsFrame}
use Rattle.frame_classes.specs.Differences.{IsTorn}
use Rattle.migration_check.specs.declared.aim.Aim.{Aim}
use Rattle.migration_check.specs.declared.aim.Aim.TheVariants.{Instances, Frames}

-- ---- the requests

-- each request is accepted where it comes
abbrev pub all_accepted : Entities → List Request → Bool
all_accepted e [] = true
all_accepted e (q ∷ rest) = is_accepted e q && all_accepted (left q.action e q) rest

-- the configuration after so many of them
abbrev pub version : Entities → List Request → ℕ → Entities
version e requests count = after_from e (take count requests)

-- ---- the end

-- two lists have the same instance, or none, under each number that a request can name
abbrev pub AreFoundAlike : List Instance → List Instance → Type 0
AreFoundAlike some others = (n : ℕ) → n < 2 ^ 16 → find n some ≡ find n others

-- two configurations have the same instances; the sync may be another
pub record HoldTheSame (e f : Entities) : Type 0 where
  pub mappers : AreFoundAlike e.mappers f.mappers
  pub vlans : AreFoundAlike e.vlans f.vlans
  pub interworks : AreFoundAlike e.interworks f.interworks
  pub gem_ports : AreFoundAlike e.gem_ports f.gem_ports

-- they see no frame otherwise that comes in at a port
pub record IsSeenAlikeAt (e f : Entities) (port : ℕ) : Type 0 where
  pub alike : (bytes : List ℕ) → IsFrame 0 bytes → (sight_of e port bytes ≡ sight_of f port bytes → ⊥) → ⊥

-- and at any port
abbrev pub IsSeenAlike : Entities → Entities → Type 0
IsSeenAlike e f = (port : ℕ) → IsSeenAlikeAt e f port

-- one configuration is another, as far as that is to be reached
abbrev pub Reaches : Aim → Entities → Entities → Type 0
Reaches Instances e f = HoldTheSame e f
Reaches Frames e f = IsSeenAlike e f

-- requests are each accepted in its turn, and lead there
pub record DoLead (aim : Aim) (e : Entities) (requests : List Request) (f : Entities) : Type 0 where
  pub accepted : all_accepted e requests ≡ true
  pub end : Reaches aim (after_from e requests) f

-- ---- the way

-- the configuration between, e before and g after, is torn for no frame that comes in at a port
pub record IsHitlessAt (e f g : Entities) (port : ℕ) : Type 0 where
  pub whole : (bytes : List ℕ) → IsFrame 0 bytes → IsTorn e f g port bytes → ⊥

-- none between is, where requests are carried out one after the other
abbrev pub AreHitlessAt : Entities → List Request → Entities → ℕ → Type 0
AreHitlessAt e requests g port = (count : ℕ) → 0 < count → count < length requests → IsHitlessAt e (version e requests count) g port

-- and at any port
abbrev pub AreHitless : Entities → List Request → Entities → Type 0
AreHitless e requests g = (port : ℕ) → AreHitlessAt e requests g port

-- ---- a migration

-- these requests are a migration from the entities e to the entities f
pub record IsMigration (aim : Aim) (e : Entities) (requests : List Request) (f : Entities) : Type 0 where
  -- each is accepted in its turn, and they lead to the other configuration
  pub lead : DoLead aim e requests f
  -- no configuration between is torn for any frame, at any port
  pub hitless : AreHitless e requests (after_from e requests)
