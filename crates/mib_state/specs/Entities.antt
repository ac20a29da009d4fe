-- The managed entities as one value, and the table that is latched beside them.
use Rattle.std.specs.Prelude.{ℕ, ◌+◌, ◌<◌, ◌≤◌, ◌≡◌, ◌==◌, nat_lt, nat_le, List, [], ◌∷◌, Option, Some, None, if◌then◌else◌, length, slice_index, slice_index_or}
use Rattle.std.specs.Option.{option_map}
use Rattle.managed_entity.specs.Instance.{Instance}

-- the MIB data sync, and the instances of each class by ascending number; together they are the map from class and
-- instance to attributes
pub record Entities : Type 0 where
  pub sync : ℕ
  pub mappers : List Instance
  pub vlans : List Instance
  pub interworks : List Instance
  pub gem_ports : List Instance

-- no instance, and sync 0
abbrev pub nothing : Entities
nothing = record { sync = 0; mappers = []; vlans = []; interworks = []; gem_ports = [] }

-- the table that a Get latched: the number of its instance of class 171, and its entries of that moment, one after another
-- as bytes
pub record Latched : Type 0 where
  pub instance : ℕ
  pub bytes : List ℕ

-- the managed entities and, beside them, the latched table, which is no entity
pub record State : Type 0 where
  pub entities : Entities
  pub latch : Option Latched

-- entities beside which no table is latched
abbrev pub unlatched : Entities → State
unlatched e = record { entities = e; latch = None }

-- ONU data has one instance, number 0, whose one attribute is the sync
abbrev pub onu_data : ℕ → Instance
onu_data sync = record { number = 0; values = (sync ∷ []) ∷ []; entries = [] }

-- the instances of a class
abbrev pub instances_of : Entities → ℕ → List Instance
instances_of e class =
    if class == 2 then onu_data e.sync ∷ []
    else (if class == 130 then e.mappers
    else (if class == 171 then e.vlans
    else (if class == 266 then e.interworks
    else (if class == 268 then e.gem_ports else []))))

-- the sync that the instances of ONU data hold: the byte of the first one's first attribute
abbrev pub sync_of : List Instance → ℕ
sync_of [] = 0
sync_of (i ∷ rest) = slice_index (slice_index_or i.values 0 []) 0

-- the entities with other instances of a class
abbrev pub with_instances : Entities → ℕ → List Instance → Entities
with_instances e class instances =
    if class == 2 then record e { sync = sync_of instances }
    else (if class == 130 then record e { mappers = instances }
    else (if class == 171 then record e { vlans = instances }
    else (if class == 266 then record e { interworks = instances }
    else (if class == 268 then record e { gem_ports = instances } else e))))

-- ---- the instances of one class

-- the instance of a number
abbrev pub find : ℕ → List Instance → Option Instance
find n [] = None
find n (i ∷ rest) = if i.number == n then Some i else find n rest

-- the place where the instance of a number stands
abbrev pub place_in : ℕ → List Instance → Option ℕ
place_in n [] = None
place_in n (i ∷ rest) = if i.number == n then Some 0 else option_map (λ (place : ℕ). place + 1) (place_in n rest)

-- the least number that isn't under another: the first, for the numbers rise
abbrev pub next : ℕ → List Instance → Option ℕ
next from [] = None
next from (i ∷ rest) = if nat_le from i.number then Some i.number else next from rest

-- with a new instance, before those of greater numbers
abbrev pub insert : Instance → List Instance → List Instance
insert new [] = new ∷ []
insert new (i ∷ rest) = if nat_lt new.number i.number then new ∷ i ∷ rest else i ∷ insert new rest

-- without the instance of a number
abbrev pub remove : ℕ → List Instance → List Instance
remove n [] = []
remove n (i ∷ rest) = if i.number == n then rest else i ∷ remove n rest

-- with another in the place of that of its number
abbrev pub replace : Instance → List Instance → List Instance
replace new [] = []
replace new (i ∷ rest) = if i.number == new.number then new ∷ rest else i ∷ replace new rest

abbrev pub blank : Instance
blank = record { number = 0; values = []; entries = [] }

-- the number of the instance at a place
abbrev pub number_at : List Instance → ℕ → ℕ
number_at l i = let instance = slice_index_or l i blank in instance.number

-- the numbers rise
abbrev pub IsAscending : List Instance → Type 0
IsAscending l = (i j : ℕ) → i < j → j < length l → number_at l i < number_at l j

-- the instance at place i has the number
pub record IsAt (l : List Instance) (n i : ℕ) : Type 0 where
  pub in_range : i < length l
  pub has_number : number_at l i ≡ n

-- the number would go at place i: smaller numbers before it, and greater ones from it on
pub record IsGapFor (l : List Instance) (n i : ℕ) : Type 0 where
  pub in_range : i ≤ length l
  pub smaller_before : (j : ℕ) → j < i → number_at l j < n
  pub greater_after : (j : ℕ) → i ≤ j → j < length l → n < number_at l j
