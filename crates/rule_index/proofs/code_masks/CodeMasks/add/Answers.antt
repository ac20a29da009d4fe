use Rattle.std.proofs.Common.{arith}
use Rattle.rule_index.specs.Filters.{priority_key, tpid_key}
use Rattle.rule_index.proofs.MaskLaws.{groups-grow}
use Rattle.rule_index.proofs.code_masks.CodeMasks.add.Goals as goal

pub returns : goal.returns
returns c = λ filters long is. record {
  priorities = groups-grow (λ f. priority_key f.priority) c.args.self.now.priorities c.set_bit.new.masks filters c.args.filter c.priority_key.result c.args.place
      c.priority_key.ensures.value (omega (arith, c.priority_key.ensures.bound)) long c.set_bit.ensures is.priorities;
  tpids = groups-grow (λ f. tpid_key f.tpid) c.args.self.now.tpids c.set_bit-2.new.masks filters c.args.filter c.tpid_key.result c.args.place
      c.tpid_key.ensures.value (omega (arith, c.tpid_key.ensures.bound)) long c.set_bit-2.ensures is.tpids;
}
