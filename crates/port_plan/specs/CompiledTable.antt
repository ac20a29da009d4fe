-- What is kept of a table, so that it gives a frame its tags without a look at each entry.
use Rattle.std.specs.Prelude.{◌≡◌, ◌<◌, ◌≤◌, ℕ, Bool, true, false, List, Option, Some, length, slice_get, slice_index}
use Rattle.vlan_rule.specs.declared.settings.TableSettings.{TableSettings}
use Rattle.vlan_rule.specs.Choice.{entry_at}
use Rattle.vlan_rule.specs.Meaning.{filter_of, treatment_of}
use Rattle.vlan_rule.specs.Table.{table_max_size}
use Rattle.rule_index.specs.Filters.{tags_in}
use Rattle.rule_index.specs.Order.{order_of}
use Rattle.treatment.specs.Compiled.{Compiled, Treats, asks_dscp}
use Rattle.treatment.specs.Treatment.{dscp_priority}
use Rattle.port_plan.specs.Plan.{IsDscp, dscp_place}

-- what a list has at a place is the treatment of an entry, compiled for frames with as many tags as the entry's kind asks
pub record IsTreatIn (settings : TableSettings) (treats : List (Option Compiled)) (place : ℕ) (entry : List ℕ) : Type 0 where
  pub treat : Option Compiled
  pub held : slice_get treats place ≡ Some treat
  pub right : Treats (treatment_of entry) settings (tags_in (filter_of entry)) treat

-- a list has the treatments of entries, in their order of rank and place
pub record AreTreats (settings : TableSettings) (entries : List (List ℕ)) (treats : List (Option Compiled)) : Type 0 where
  pub few : length treats ≤ table_max_size
  pub no_more : length treats ≤ length (order_of entries)
  pub each : (number place : ℕ) → slice_get (order_of entries) number ≡ Some place → IsTreatIn settings treats number (entry_at entries place)

-- no tag gets the priority of a DSCP
abbrev pub NoneAsks : List (Option Compiled) → Type 0
NoneAsks treats = (place : ℕ) (treat : Compiled) → slice_get treats place ≡ Some (Some treat) → asks_dscp treat ≡ false

-- some tag gets it
abbrev pub SomeAsks : List (Option Compiled) → Type 0
SomeAsks treats = (place : ℕ) × (treat : Compiled) × (slice_get treats place ≡ Some (Some treat)) × (asks_dscp treat ≡ true)

-- where it was right of old treatments that none asks, it is of new ones
abbrev pub KeepsNone : Bool → Bool → List (Option Compiled) → List (Option Compiled) → Type 0
KeepsNone asked asks old new = (asked ≡ false → NoneAsks old) → asks ≡ false → NoneAsks new

-- and where it was right that some asks
abbrev pub KeepsSome : Bool → Bool → List (Option Compiled) → List (Option Compiled) → Type 0
KeepsSome asked asks old new = (asked ≡ true → SomeAsks old) → asks ≡ true → SomeAsks new

-- the priorities that a mapping has for each DSCP and, behind them, without one
pub record AreMarkings (map : List ℕ) (markings : List ℕ) : Type 0 where
  pub value : (dscp : Option ℕ) → IsDscp dscp → slice_index markings (dscp_place dscp) ≡ dscp_priority map dscp
  pub bound : (place : ℕ) → slice_index markings place < 8
