-- Which instances of the classes 130, 171, 266 and 268 a step touches.
use Rattle.std.specs.Prelude.{ℕ, ◌≡◌, ◌≢◌, List, is_ok, if◌then◌else◌, ◌==◌}
use Rattle.omci_msg.specs.declared.Request.{Request}
use Rattle.omci_msg.specs.declared.Action.{Action}
use Rattle.omci_msg.specs.declared.Action.TheVariants.{Create, Delete, Set, Get, GetNext, MibUpload, MibUploadNext, MibReset, Other}
use Rattle.managed_entity.specs.Instance.{Instance}
use Rattle.mib_state.specs.declared.touch.Touch.{Touch}
use Rattle.mib_state.specs.declared.touch.Touch.TheVariants.{Nothing, One, All}
use Rattle.mib_state.specs.Entities.{Entities, State, find}
use Rattle.mib_state.specs.Step.{answered}

-- what an action touches that isn't refused; ONU data, 2, is none of the four classes
abbrev pub touched_by : Action → Request → Touch
touched_by Create q = One q.class q.instance
touched_by Delete q = One q.class q.instance
touched_by Set q = if q.class == 2 then Nothing else One q.class q.instance
touched_by Get q = Nothing
touched_by GetNext q = Nothing
touched_by MibUpload q = Nothing
touched_by MibUploadNext q = Nothing
touched_by MibReset q = All
touched_by (Other code) q = Nothing

-- what a request touches; a refused one touches nothing
abbrev pub touched : State → Request → Touch
touched s q = if is_ok (answered q.action s q) then touched_by q.action q else Nothing

-- ---- what a touch says of the entities before and after

-- the instances of a class of its own number, where no other than instance n of a class is touched: those of another class
-- are the same, and whatever their class, each other number is found as before
pub record IsSameBut (own class n : ℕ) (old new : List Instance) : Type 0 where
  pub elsewhere : own ≢ class → new ≡ old
  pub others : (m : ℕ) → m ≢ n → find m new ≡ find m old

-- the instances of the four classes are the same
pub record AreSame (old new : Entities) : Type 0 where
  pub mappers : new.mappers ≡ old.mappers
  pub vlans : new.vlans ≡ old.vlans
  pub interworks : new.interworks ≡ old.interworks
  pub gem_ports : new.gem_ports ≡ old.gem_ports

-- they are, but for instance n of a class
pub record AreSameButOne (class n : ℕ) (old new : Entities) : Type 0 where
  pub mappers : IsSameBut 130 class n old.mappers new.mappers
  pub vlans : IsSameBut 171 class n old.vlans new.vlans
  pub interworks : IsSameBut 266 class n old.interworks new.interworks
  pub gem_ports : IsSameBut 268 class n old.gem_ports new.gem_ports

abbrev pub IsTouch : Entities → Entities → Touch → Type 0
IsTouch old new Nothing = AreSame old new
IsTouch old new (One class n) = AreSameButOne class n old new
IsTouch old new All = Unit {0}
