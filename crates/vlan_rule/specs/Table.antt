-- The received frame VLAN tagging operation table (ITU-T G.988, 9.3.13) as the list of its entries,
-- each the list of its 16 bytes.
use Rattle.std.specs.Prelude.{ℕ, Bool, true, false, List, [], ◌∷◌, ◌++◌, Option, Some, None, Result, Ok, Err, if◌then◌else◌, ◌==◌, nat_le, length, map}
use Rattle.std.specs.List.{list_any}
use Rattle.byteorder.specs.Endian.{big_from}
use Rattle.vlan_rule.specs.declared.fault.RuleFault.{RuleFault}
use Rattle.vlan_rule.specs.declared.fault.TableFault.{TableFault}
use Rattle.vlan_rule.specs.declared.fault.TableFault.TheVariants.{Bad, Full}
use Rattle.vlan_rule.specs.declared.put.Put.{Put}
use Rattle.vlan_rule.specs.declared.put.Put.TheVariants.{Added, Replaced, Deleted, Absent}
use Rattle.vlan_rule.specs.Entry.{entry_of, key_of, refusal_of}

-- the most entries that a table holds, the predefined ones among them: a choice of this project
abbrev pub table_max_size : ℕ
table_max_size = 128

-- whether an entry deletes the entry of its key: its last eight bytes are all 0xFF
unfoldable pub is_deletion : List ℕ → Bool
is_deletion entry = big_from 8 8 entry == 0xFFFFFFFFFFFFFFFF

-- the keys of the entries of a new table, in their order
abbrev pub predefined_keys : List ℕ
predefined_keys = 0xF0000000F0000000 ∷ 0xF0000000E0000000 ∷ 0xE0000000E0000000 ∷ []

-- the entries of a new table, by which every frame is forwarded unchanged
abbrev pub predefined : List (List ℕ)
predefined = map (λ key. entry_of key 0x000F0000000F0000) predefined_keys

-- whether a key is that of one of them
abbrev pub is_predefined : ℕ → Bool
is_predefined key = list_any (λ k. k == key) predefined_keys

-- whether an entry of the key is held
abbrev pub holds : ℕ → List (List ℕ) → Bool
holds key [] = false
holds key (e ∷ rest) = if key_of e == key then true else holds key rest

-- the entries without that of the key
abbrev pub without : ℕ → List (List ℕ) → List (List ℕ)
without key [] = []
without key (e ∷ rest) = if key_of e == key then rest else e ∷ without key rest

-- the entries with another in the place of that of its key
abbrev pub overwritten : List ℕ → List (List ℕ) → List (List ℕ)
overwritten new [] = []
overwritten new (e ∷ rest) = if key_of e == key_of new then new ∷ rest else e ∷ overwritten new rest

-- what a put did, and the entries that it leaves
pub record Change : Type 0 where
  pub told : Put
  pub entries : List (List ℕ)

abbrev pub changed : Put → List (List ℕ) → Result Change TableFault
changed told entries = Ok (record { told = told; entries = entries })

-- a deletion of a key
abbrev pub delete : ℕ → List (List ℕ) → Result Change TableFault
delete key entries = if holds key entries then changed Deleted (without key entries) else changed Absent entries

-- an entry that is no deletion, by why it is refused
abbrev pub write : Option RuleFault → List ℕ → List (List ℕ) → Result Change TableFault
write (Some fault) new entries = Err (Bad fault)
write None new entries =
    if holds (key_of new) entries then changed Replaced (overwritten new entries)
    else (if nat_le table_max_size (length entries) then Err Full
    else changed Added (entries ++ new ∷ []))

-- what a put does: it deletes, overwrites in place or appends, or is refused and changes nothing
unfoldable pub put : List (List ℕ) → List ℕ → Result Change TableFault
put entries new = if is_deletion new then delete (key_of new) entries else write (refusal_of new) new entries

-- what a put answers
abbrev pub told_by : Result Change TableFault → Result Put TableFault
told_by (Ok change) = Ok change.told
told_by (Err fault) = Err fault

-- the entries that a put leaves
abbrev pub left_by : List (List ℕ) → Result Change TableFault → List (List ℕ)
left_by old (Ok change) = change.entries
left_by old (Err fault) = old

-- the number of a table's refusal
abbrev pub table_fault_code : TableFault → ℕ
table_fault_code (Bad fault) = 1
table_fault_code Full = 2
