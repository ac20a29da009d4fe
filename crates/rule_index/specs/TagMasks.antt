-- Masks by the fields of a tag.
use Rattle.std.specs.Prelude.{List, map}
use Rattle.vlan_rule.specs.declared.filter.TagFilter.{TagFilter}
use Rattle.rule_index.specs.declared.tag_masks.TagMasks.{TagMasks}
use Rattle.rule_index.specs.CodeMasks.{IsCodeGrouping}
use Rattle.rule_index.specs.Codes.{AreCodes}
use Rattle.rule_index.specs.Vids.{AreVids, IsVidGrouping}

-- while they are built
pub record IsTagGrouping (masks : TagMasks) (filters : List TagFilter) : Type 0 where
  pub codes : IsCodeGrouping masks.codes filters
  pub vids : IsVidGrouping masks.vids.class.items masks.vids.masks.items masks.vids.any (map (λ f. f.vid) filters)

-- and then
pub record IsTagIndex (masks : TagMasks) (filters : List TagFilter) : Type 0 where
  pub keys : IsCodeGrouping masks.codes filters
  pub codes : AreCodes masks.codes.codes filters
  pub vids : AreVids masks.vids.class.items masks.vids.masks.items (map (λ f. f.vid) filters)
