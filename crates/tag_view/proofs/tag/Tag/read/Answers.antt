-- The tag of a word is that of its bytes.
use Rattle.std.proofs.Common.{ℕ, ◌<◌, slice_index, arith}
use Rattle.tag_view.proofs.Words.{read_word}
use Rattle.tag_view.proofs.tag.Tag.read.Goals as goal

pub returns : goal.returns
returns c =
    let fits : (i : ℕ) → slice_index c.args.bytes.now i < 256 = λ i. omega (arith, c.type_inv.bytes i) in
    rw (c.of_word.ensures, c.read_u32.ensures) (read_word 0 c.args.bytes.now c.requires fits)
