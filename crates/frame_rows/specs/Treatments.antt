-- The treatments of a table's entries.
use Rattle.std.specs.Prelude.{◌≡◌, ℕ, true, All, List}
use Rattle.vlan_rule.specs.Choice.{entry_at}
use Rattle.vlan_rule.specs.Meaning.{treatment_fits, treatment_of}
use Rattle.explain.specs.Order.{tried_order}

-- what the entry at a place adds can stand in a tag
abbrev pub Fits : List (List ℕ) → ℕ → Type 0
Fits entries place = treatment_fits (treatment_of (entry_at entries place)) ≡ true

-- and so for each that is tried
abbrev pub TreatmentsFit : List (List ℕ) → Type 0
TreatmentsFit entries = All (Fits entries) (tried_order entries)
