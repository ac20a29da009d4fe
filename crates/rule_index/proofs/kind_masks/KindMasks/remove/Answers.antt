use Rattle.std.proofs.Common.{arith}
use Rattle.rule_index.specs.declared.row.Row.{Row}
use Rattle.rule_index.specs.Filters.{tags_in, type_key}
use Rattle.rule_index.proofs.Moving.{groups-remove}
use Rattle.rule_index.proofs.kind_masks.KindMasks.remove.Goals as goal

pub returns-clause-tags : goal.returns-clause-tags
returns-clause-tags c = λ before after row at is.
    groups-remove (λ (row : Row). tags_in row.filter) c.args.self.now.tags c.remove_bits.new.masks before row after c.args.place
    at c.remove_bits.ensures.len (λ k h. c.remove_bits.ensures.each k (omega arith)) is

pub returns-clause-types : goal.returns-clause-types
returns-clause-types c = λ before after row at is.
    groups-remove (λ (row : Row). type_key row.ethertype) c.args.self.now.types c.remove_bits-2.new.masks before row after c.args.place
    at c.remove_bits-2.ensures.len (λ k h. c.remove_bits-2.ensures.each k (omega arith)) is
