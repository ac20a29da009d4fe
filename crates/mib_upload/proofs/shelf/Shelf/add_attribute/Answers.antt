use Rattle.std.proofs.Common.{◌-◌, arith}
use Rattle.std.proofs.Math.Pow.{pow_pos}
use Rattle.mib_upload.proofs.Reading.{bit_before}
use Rattle.mib_upload.proofs.shelf.Shelf.add_attribute.Goals as goal
use Rattle.mib_upload.proofs.shelf.Shelf.add_attribute.Goals.{then-not-has_room_for, else-not-has_room_for}

pub add-requires-clause-behind : goal.add-requires-clause-behind
add-requires-clause-behind c =
    elim c.if-not-has_room_for.branch [
      | then-not-has_room_for w ↦ rw (w.row-is, w.replace.ensures.after, w.begin-next.ensures) (omega (arith, c.requires.behind, bit_before c.args.n c.requires.last, pow_pos (16 - c.args.n)))
      | else-not-has_room_for w ↦ rw w.row-is (omega (arith, c.requires.behind, bit_before c.args.n c.requires.last, pow_pos (16 - c.args.n)))
    ]

pub returns-clause-mask : goal.returns-clause-mask
returns-clause-mask c =
    rw c.add.ensures (elim c.if-not-has_room_for.branch [
      | then-not-has_room_for w ↦ rw (w.row-is, w.replace.ensures.after, w.begin-next.ensures) (omega (arith, c.requires.behind, bit_before c.args.n c.requires.last))
      | else-not-has_room_for w ↦ rw w.row-is (omega (arith, c.requires.behind, bit_before c.args.n c.requires.last))
    ])
