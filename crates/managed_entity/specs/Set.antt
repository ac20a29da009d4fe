-- What a Set leaves of an instance, or why it is refused (ITU-T G.988, annex A).
use Rattle.std.specs.Prelude.{ℕ, suc, ◌+◌, not, ◌&&◌, List, [], ◌∷◌, Option, Some, None, option_map, if◌then◌else◌, ◌==◌, nat_lt, length, take, drop, Result, Ok, Err}
use Rattle.managed_entity.specs.declared.attribute.Attribute.{Attribute}
use Rattle.managed_entity.specs.declared.refusal.Refusal.{Refusal}
use Rattle.managed_entity.specs.declared.refusal.Refusal.TheVariants.{ProcessingError, NotSupported, ParameterError, AttributesFailed}
use Rattle.vlan_rule.specs.declared.fault.TableFault.{TableFault}
use Rattle.vlan_rule.specs.declared.fault.TableFault.TheVariants.{Bad, Full}
use Rattle.vlan_rule.specs.Table.{Change, put}
use Rattle.managed_entity.specs.Class.{is_table, has_table}
use Rattle.managed_entity.specs.Instance.{Instance}
use Rattle.managed_entity.specs.Mask.{names, unknown_of, unwritable_of, named_width}
use Rattle.managed_entity.specs.Write.{written}

-- where the entry of the table stands among the bytes, if a mask names the table
abbrev pub entry_at : ℕ → ℕ → List Attribute → Option ℕ
entry_at mask place [] = None
entry_at mask place (a ∷ rest) =
    if names mask place then (if is_table a.access then Some 0 else option_map (λ at. a.width + at) (entry_at mask (suc place) rest))
    else entry_at mask (suc place) rest

-- why an entry isn't taken
abbrev pub refusal_of : TableFault → Refusal
refusal_of (Bad fault) = ParameterError
refusal_of Full = ProcessingError

-- the entries that a put leaves
abbrev pub entries_by : Result Change TableFault → Result (List (List ℕ)) Refusal
entries_by (Ok change) = Ok change.entries
entries_by (Err fault) = Err (refusal_of fault)

-- the entries of a class after one is put; a class without a table takes none
abbrev pub entries_with : List Attribute → List (List ℕ) → List ℕ → Result (List (List ℕ)) Refusal
entries_with layout entries entry = if has_table layout then entries_by (put entries entry) else Err NotSupported

-- the entries after that which stands at a place among the bytes, if there is one
abbrev pub entries_after : Option ℕ → List ℕ → List (List ℕ) → Result (List (List ℕ)) Refusal
entries_after None bytes entries = Ok entries
entries_after (Some at) bytes entries = entries_by (put entries (take 16 (drop at bytes)))

-- the instance with these entries, and the other attributes that a mask names taken from the bytes
abbrev pub with_entries : ℕ → List Attribute → List ℕ → Instance → Result (List (List ℕ)) Refusal → Result Instance Refusal
with_entries mask layout bytes i (Ok entries) = Ok (record { number = i.number; values = written mask 0 layout bytes i.values; entries = entries })
with_entries mask layout bytes i (Err refusal) = Err refusal

-- an instance after Set, by the mask and the 30 bytes behind it
unfoldable pub set_instance : List Attribute → ℕ → List ℕ → Instance → Result Instance Refusal
set_instance layout mask bytes i =
    let unknown = unknown_of mask (length layout) in
    let unwritable = unwritable_of mask 0 layout in
    if not (unknown == 0 && unwritable == 0) then Err (AttributesFailed unknown unwritable)
    else (if nat_lt 30 (named_width mask 0 layout) then Err ParameterError
    else with_entries mask layout bytes i (entries_after (entry_at mask 0 layout) bytes i.entries))
