-- What a table does with an entry, by places.
use Rattle.std.specs.Prelude.{◌≡◌, ◌<◌, ℕ, List, [], ◌∷◌, ◌++◌, length, slice_set, ⊤}
use Rattle.std.specs.List.{remove}
use Rattle.vlan_rule.specs.declared.edit.Edit.{Edit}
use Rattle.vlan_rule.specs.declared.edit.Edit.TheVariants as edit
use Rattle.vlan_rule.specs.declared.put.Put.{Put}
use Rattle.vlan_rule.specs.declared.put.Put.TheVariants.{Added, Replaced, Deleted, Absent}
use Rattle.vlan_rule.specs.Rule.{IsRuleOf}
use Rattle.vlan_rule.specs.Table.{changed, put, table_max_size}

-- what is told of an edit
abbrev pub told_of : Edit → Put
told_of (edit.Add rule) = Added
told_of (edit.Replace at rule) = Replaced
told_of (edit.Delete at) = Deleted
told_of edit.Absent = Absent

-- the entries after an edit
abbrev pub edited : Edit → List ℕ → List (List ℕ) → List (List ℕ)
edited (edit.Add rule) new entries = entries ++ new ∷ []
edited (edit.Replace at rule) new entries = slice_set entries at new
edited (edit.Delete at) new entries = remove entries at
edited edit.Absent new entries = entries

-- the edit can be done, and what it keeps is the entry's rule
abbrev pub IsPossible : Edit → List ℕ → List (List ℕ) → Type 0
IsPossible (edit.Add rule) new entries = (length entries < table_max_size) × IsRuleOf new rule
IsPossible (edit.Replace at rule) new entries = (at < length entries) × IsRuleOf new rule
IsPossible (edit.Delete at) new entries = at < length entries
IsPossible edit.Absent new entries = ⊤

-- the edit can be done, and is what a put does
pub record IsEditFor (entries : List (List ℕ)) (new : List ℕ) (e : Edit) : Type 0 where
  pub possible : IsPossible e new entries
  pub change : put entries new ≡ changed (told_of e) (edited e new entries)
