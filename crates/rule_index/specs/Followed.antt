-- What an index tells of a table that it follows, which has new entries in place of old ones.
use Rattle.std.specs.Prelude.{◌≡◌, ◌≢◌, ◌<◌, ◌≤◌, ◌+◌, ℕ, List, Some, length, map, slice_get, slice_set, take}
use Rattle.std.specs.List.{insert, remove}
use Rattle.vlan_rule.specs.Choice.{entry_at}
use Rattle.vlan_rule.specs.Table.{table_max_size}
use Rattle.rule_index.specs.declared.followed.Followed.{Followed}
use Rattle.rule_index.specs.declared.followed.Followed.TheVariants.{Unchanged, Treatment, Added, Deleted, Rebuilt}
use Rattle.rule_index.specs.Order.{order_of}

-- the order stays, and of the entries only that of a number in it may differ
pub record IsTreated (old new : List (List ℕ)) (number : ℕ) : Type 0 where
  pub order : order_of new ≡ order_of old
  pub there : (place : ℕ) × (slice_get (order_of new) number ≡ Some place)
  pub others : (k place : ℕ) → k ≢ number → slice_get (order_of new) k ≡ Some place → entry_at new place ≡ entry_at old place

-- the entries in the order of rank and place
abbrev pub ranked : List (List ℕ) → List (List ℕ)
ranked entries = map (λ place. entry_at entries place) (order_of entries)

-- one table has an entry more than another: it stands at a place, and has a number in the order, and all others keep their order
pub record IsOneMore (fewer more : List (List ℕ)) (place number : ℕ) : Type 0 where
  pub entry : List ℕ
  pub entries : more ≡ insert fewer place entry
  pub there : slice_get (order_of more) number ≡ Some place
  pub within : number ≤ length (ranked fewer)
  pub others : ranked more ≡ insert (ranked fewer) number entry

abbrev pub IsFollowed : List (List ℕ) → List (List ℕ) → Followed → Type 0
IsFollowed old new Unchanged = new ≡ old
IsFollowed old new (Treatment number) = IsTreated old new number
IsFollowed old new (Added number) = IsOneMore old new (length old) number
IsFollowed old new (Deleted number) = (place : ℕ) × IsOneMore new old place number
IsFollowed old new Rebuilt = Unit {0}

-- the first place at which entries and those of a table differ, or at which one of both ends
pub record IsFirstOther (entries table : List (List ℕ)) (place : ℕ) : Type 0 where
  pub within : (place ≤ length entries) × (place ≤ length table)
  pub same : (k : ℕ) → k < place → entry_at entries k ≡ entry_at table k
  pub differ : place < length entries → place < length table → entry_at entries place ≢ entry_at table place

-- there the entry is set to that of the table, which has a number in the order
pub record IsSet (old new table : List (List ℕ)) (number : ℕ) : Type 0 where
  pub place : ℕ
  pub first : IsFirstOther old table place
  pub within : (place < length old) × (place < length table)
  pub there : slice_get (order_of new) number ≡ Some place
  pub entries : new ≡ slice_set old place (entry_at table place)

-- a step from old entries to new ones, towards those of a table
abbrev pub IsStep : List (List ℕ) → List (List ℕ) → List (List ℕ) → Followed → Type 0
IsStep old new table Unchanged = new ≡ table
IsStep old new table (Treatment number) = IsSet old new table number
IsStep old new table (Added number) = (length old < length table) × (length old < table_max_size) × (new ≡ take (length old + 1) table)
IsStep old new table (Deleted number) = (place : ℕ) × IsFirstOther old table place × (new ≡ remove old place)
IsStep old new table Rebuilt = new ≡ table

-- the entry of a number in the order is that which a table has at the same place
abbrev pub IsTaken : List (List ℕ) → List (List ℕ) → ℕ → Type 0
IsTaken entries table number = (place : ℕ) → slice_get (order_of entries) number ≡ Some place → (place < length table) × (entry_at entries place ≡ entry_at table place)
