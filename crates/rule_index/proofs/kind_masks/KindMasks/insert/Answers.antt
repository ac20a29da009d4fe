use Rattle.std.proofs.Common.{arith}
use Rattle.rule_index.specs.declared.row.Row.{Row}
use Rattle.rule_index.specs.Filters.{tags_in, type_key}
use Rattle.rule_index.proofs.Moving.{groups-insert}
use Rattle.rule_index.proofs.kind_masks.KindMasks.insert.Goals as goal

pub returns-clause-tags : goal.returns-clause-tags
returns-clause-tags c = λ before after between is.
    groups-insert (λ (row : Row). tags_in row.filter) c.args.self.now.tags c.insert_bits.new.masks before c.args.row.now after c.args.place c.tags.result
    between c.tags.ensures c.insert_bits.ensures.len (λ k h. c.insert_bits.ensures.each k (omega arith)) is

pub returns-clause-types : goal.returns-clause-types
returns-clause-types c = λ before after between is.
    groups-insert (λ (row : Row). type_key row.ethertype) c.args.self.now.types c.insert_bits-2.new.masks before c.args.row.now after c.args.place c.type_key.result
    between c.type_key.ensures c.insert_bits-2.ensures.len (λ k h. c.insert_bits-2.ensures.each k (omega arith)) is
