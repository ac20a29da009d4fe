use Rattle.std.proofs.Common.{arith}
use Rattle.vlan_rule.specs.declared.filter.TagFilter.{TagFilter}
use Rattle.rule_index.specs.Filters.{priority_key, tpid_key}
use Rattle.rule_index.proofs.Moving.{groups-insert}
use Rattle.rule_index.proofs.code_masks.CodeMasks.insert.Goals as goal

pub returns : goal.returns
returns c = λ before after between is. record {
  priorities = groups-insert (λ (f : TagFilter). priority_key f.priority) c.args.self.now.priorities c.insert_bits.new.masks before c.args.filter after c.args.place c.priority_key-priority.result
      between c.priority_key-priority.ensures.value c.insert_bits.ensures.len (λ k h. c.insert_bits.ensures.each k (omega arith)) is.priorities;
  tpids = groups-insert (λ (f : TagFilter). tpid_key f.tpid) c.args.self.now.tpids c.insert_bits-2.new.masks before c.args.filter after c.args.place c.tpid_key.result
      between c.tpid_key.ensures.value c.insert_bits-2.ensures.len (λ k h. c.insert_bits-2.ensures.each k (omega arith)) is.tpids;
}
