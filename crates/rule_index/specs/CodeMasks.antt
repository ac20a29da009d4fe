-- Masks by the keys of tag filters.
use Rattle.std.specs.Prelude.{List}
use Rattle.vlan_rule.specs.declared.filter.TagFilter.{TagFilter}
use Rattle.rule_index.specs.declared.code_masks.CodeMasks.{CodeMasks}
use Rattle.rule_index.specs.Masks.{AreGroups}
use Rattle.rule_index.specs.Filters.{priority_key, tpid_key}

pub record IsCodeGrouping (masks : CodeMasks) (filters : List TagFilter) : Type 0 where
  pub priorities : AreGroups (λ f. priority_key f.priority) masks.priorities filters
  pub tpids : AreGroups (λ f. tpid_key f.tpid) masks.tpids filters
