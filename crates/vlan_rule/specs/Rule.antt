-- A rule, by the entry that it is read from, and by its parts.
use Rattle.std.specs.Prelude.{◌≡◌, ℕ, List}
use Rattle.vlan_rule.specs.declared.filter.EthertypeFilter.{EthertypeFilter}
use Rattle.vlan_rule.specs.declared.filter.Filter.{Filter}
use Rattle.vlan_rule.specs.declared.rank.Rank.{Rank}
use Rattle.vlan_rule.specs.declared.rule.Rule.{Rule}
use Rattle.vlan_rule.specs.declared.treatment.Treatment.{Treatment}
use Rattle.vlan_rule.specs.Meaning.{Means}
use Rattle.vlan_rule.specs.Spelling.{filter_rank}

-- the entry isn't refused, and means this rule
abbrev pub IsRuleOf : List ℕ → Rule → Type 0
IsRuleOf entry rule = Means entry rule.filter rule.ethertype rule.treatment rule.rank

-- the rule has these parts, and the rank of an entry whose key isn't a predefined one
pub record IsRuleBy (f : Filter) (type : EthertypeFilter) (treats : Treatment) (rule : Rule) : Type 0 where
  pub filter : rule.filter ≡ f
  pub ethertype : rule.ethertype ≡ type
  pub treatment : rule.treatment ≡ treats
  pub rank : rule.rank ≡ filter_rank f

-- no entry means a rule of these parts, whatever its rank
abbrev pub NoEntrySays : Filter → EthertypeFilter → Treatment → Type 0
NoEntrySays f type treats = (entry : List ℕ) (rank : Rank) → ¬ Means entry f type treats rank
