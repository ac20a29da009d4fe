use Rattle.std.proofs.Common.{arith}
use Rattle.frame_rows.proofs.Written.{fitting}
use Rattle.frame_classes.proofs.sides.are_tags_apart.Goals as goal

pub leaving-tags-requires-clause-two : goal.leaving-tags-requires-clause-two
leaving-tags-requires-clause-two c =
    let one = (fitting c.args.one.now.settings.input_tpid c.args.row.now c.requires.fits).few in
    let other = (fitting c.args.other.now.settings.input_tpid c.args.beside.now c.requires.beside_fits).few in
    let most = c.max-count.ensures in
    omega (arith, one, other, most)

pub leaving-others-requires-clause-two : goal.leaving-others-requires-clause-two
leaving-others-requires-clause-two c =
    let one = (fitting c.args.one.now.settings.input_tpid c.args.row.now c.requires.fits).few in
    let other = (fitting c.args.other.now.settings.input_tpid c.args.beside.now c.requires.beside_fits).few in
    let most = c.max-count.ensures in
    omega (arith, one, other, most)
