use Rattle.std.proofs.Common.{arith}
use Rattle.rule_index.specs.declared.row.Row.{Row}
use Rattle.rule_index.specs.Filters.{tags_in, type_key}
use Rattle.rule_index.proofs.MaskLaws.{groups-grow}
use Rattle.rule_index.proofs.Joined.{tags-below, types-below}
use Rattle.rule_index.proofs.kind_masks.KindMasks.add.Goals as goal

pub returns-clause-tags : goal.returns-clause-tags
returns-clause-tags c = λ rows long is.
    groups-grow (λ (row : Row). tags_in row.filter) c.args.self.now.tags c.set_bit.new.masks rows c.args.row.now c.tags.result c.args.place
    c.tags.ensures (omega (arith, c.tags.ensures, tags-below c.args.row.now.filter)) long c.set_bit.ensures is

pub returns-clause-types : goal.returns-clause-types
returns-clause-types c = λ rows long is.
    groups-grow (λ (row : Row). type_key row.ethertype) c.args.self.now.types c.set_bit-2.new.masks rows c.args.row.now c.type_key.result c.args.place
    c.type_key.ensures (omega (arith, c.type_key.ensures, types-below c.args.row.now.ethertype)) long c.set_bit-2.ensures is
