-- Masks over rows.
use Rattle.std.specs.Prelude.{◌≡◌, ◌≤◌, ℕ, List, length, map}
use Rattle.vlan_rule.specs.Table.{table_max_size}
use Rattle.rule_index.specs.declared.row.Row.{Row}
use Rattle.rule_index.specs.declared.masks.Masks.{Masks}
use Rattle.rule_index.specs.Filters.{inner_in, outer_in}
use Rattle.rule_index.specs.Order.{rows_of}
use Rattle.rule_index.specs.Kinds.{AreKinds, AreTags, AreTypes}
use Rattle.rule_index.specs.TagMasks.{IsTagGrouping, IsTagIndex}

-- while they are built
pub record IsGrouping (masks : Masks) (rows : List Row) : Type 0 where
  pub tags : AreTags masks.kinds.tags rows
  pub types : AreTypes masks.kinds.types rows
  pub outer : IsTagGrouping masks.outer (map (λ (row : Row). outer_in row.filter) rows)
  pub inner : IsTagGrouping masks.inner (map (λ (row : Row). inner_in row.filter) rows)

-- and then
pub record IsBuilt (masks : Masks) (rows : List Row) : Type 0 where
  pub tags : AreTags masks.kinds.tags rows
  pub types : AreTypes masks.kinds.types rows
  pub kinds : AreKinds masks.kinds.joined rows
  pub outer : IsTagIndex masks.outer (map (λ (row : Row). outer_in row.filter) rows)
  pub inner : IsTagIndex masks.inner (map (λ (row : Row). inner_in row.filter) rows)

-- rows and masks are those of some entries
pub record IsIndexOf (entries : List (List ℕ)) (rows : List Row) (masks : Masks) : Type 0 where
  pub in_order : rows ≡ rows_of entries
  pub few : length rows ≤ table_max_size
  pub built : IsBuilt masks rows
