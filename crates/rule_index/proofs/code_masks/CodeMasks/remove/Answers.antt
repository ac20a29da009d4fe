use Rattle.std.proofs.Common.{arith}
use Rattle.vlan_rule.specs.declared.filter.TagFilter.{TagFilter}
use Rattle.rule_index.specs.Filters.{priority_key, tpid_key}
use Rattle.rule_index.proofs.Moving.{groups-remove}
use Rattle.rule_index.proofs.code_masks.CodeMasks.remove.Goals as goal

pub returns : goal.returns
returns c = λ before after filter at is. record {
  priorities = groups-remove (λ (f : TagFilter). priority_key f.priority) c.args.self.now.priorities c.remove_bits.new.masks before filter after c.args.place
      at c.remove_bits.ensures.len (λ k h. c.remove_bits.ensures.each k (omega arith)) is.priorities;
  tpids = groups-remove (λ (f : TagFilter). tpid_key f.tpid) c.args.self.now.tpids c.remove_bits-2.new.masks before filter after c.args.place
      at c.remove_bits-2.ensures.len (λ k h. c.remove_bits-2.ensures.each k (omega arith)) is.tpids;
}
