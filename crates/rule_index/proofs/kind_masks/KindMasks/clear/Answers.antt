use Rattle.std.proofs.Common.{refl}
use Rattle.rule_index.specs.declared.row.Row.{Row}
use Rattle.rule_index.specs.Filters.{tags_in, type_key}
use Rattle.rule_index.proofs.Coding.{groups-none}
use Rattle.rule_index.proofs.kind_masks.KindMasks.clear.Goals as goal

pub returns-clause-tags : goal.returns-clause-tags
returns-clause-tags c = groups-none (λ (row : Row). tags_in row.filter) 3 _ refl refl

pub returns-clause-types : goal.returns-clause-types
returns-clause-types c = groups-none (λ (row : Row). type_key row.ethertype) 6 _ refl refl
