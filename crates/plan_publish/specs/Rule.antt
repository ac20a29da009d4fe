-- The rule over the copy that can be entered, and over what the seats know: the control's, and each lane's.
use Rattle.std.specs.Prelude.{◌≡◌, ◌⊎◌, ℕ, Bool, List, [], ◌∷◌, ◌++◌, Some, None, if◌then◌else◌}
use mathlib.Core.Option.{some}
use lib.ListN.{get_elem?}
use Rattle.omci_msg.specs.declared.Request.{Request}
use Rattle.plan_publish.specs.declared.edition.Edition.{Edition}
use Rattle.plan_publish.specs.declared.rule.View.{View}
use Rattle.plan_publish.specs.Requests.{StartsWithEach}
use Rattle.plan_publish.specs.History.{key_of}
use Rattle.plan_publish.specs.Edition.{IsAfter, HasTrail}

-- a seat that says which history it is of says the copy's
abbrev pub IsAtHome : View → Edition → Type 0
IsAtHome v e = (v.home ≡ None) ⊎ (v.home ≡ Some (key_of e.base.seen.book))

-- where these requests are published: a seat that says which requests are is the control's, and each list that a seat held
-- begins them
pub record Fits (published : List Request) (control : ℕ) (e : Edition) (seat : ℕ) (v : View) : Type 0 where
  pub says : (v.published ≡ []) ⊎ ((seat ≡ control) × (v.published ≡ published))
  pub held : StartsWithEach published v.held
  pub home : IsAtHome v e

-- some requests are published, and the copy is the one after them
pub record Kept (e : Edition) (views : List View) : Type 0 where
  pub published : List Request
  pub control : ℕ
  pub is_after : IsAfter e published
  pub trail : HasTrail e published
  pub each_seat : (seat : ℕ) (v : View) → get_elem? views seat ≡ some v → Fits published control e seat v

-- what a new seat knows
abbrev pub nothing_known : View
nothing_known = record { published = []; held = []; home = None }

-- what a lane knows as it enters: these requests are the held ones from now on, if the copy passes its test
abbrev pub entered : (Edition → Bool) → List Request → View → Edition → View
entered passes now v e = if passes e then record v { held = now ∷ v.held } else v

-- the copy that is entered is the one after requests that begin with all that was held
pub record Enters (passes : Edition → Bool) (v : View) (e : Edition) (w : View) : Type 0 where
  pub now : List Request
  pub view : w ≡ entered passes now v e
  pub is_after : IsAfter e now
  pub trail : HasTrail e now
  pub held : StartsWithEach now v.held
  pub home : IsAtHome v e

-- these requests more are published
abbrev pub Publishes : List Request → View → Edition → View → Type 0
Publishes pending v e w = w ≡ record { published = v.published ++ pending; held = v.held; home = Some (key_of e.base.seen.book) }

-- the control tells which history it is
abbrev pub note_of : View → View
note_of v = record { published = []; held = []; home = v.home }

abbrev pub informed : View → View → View
informed v w = record v { home = w.home }
