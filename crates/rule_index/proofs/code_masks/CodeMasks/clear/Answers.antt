use Rattle.std.proofs.Common.{refl}
use Rattle.rule_index.specs.Filters.{priority_key, tpid_key}
use Rattle.rule_index.proofs.Coding.{groups-none}
use Rattle.rule_index.proofs.code_masks.CodeMasks.clear.Goals as goal

pub returns : goal.returns
returns c = record { priorities = groups-none (λ f. priority_key f.priority) 10 _ refl refl; tpids = groups-none (λ f. tpid_key f.tpid) 5 _ refl refl }
