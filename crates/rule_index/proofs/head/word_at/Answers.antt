-- Four bytes are read as the tag of their number.
use Rattle.std.proofs.Common.{ℕ, ◌<◌, slice_index, arith}
use Rattle.std.proofs.lemmas.List.{take_rest}
use Rattle.tag_view.proofs.Words.{read_word}
use Rattle.rule_index.proofs.head.word_at.Goals as goal

pub returns : goal.returns
returns c =
    let fits : (i : ℕ) → slice_index c.args.bytes.now i < 256 = λ i. omega (arith, c.type_inv.bytes i) in
    rw (c.read_u32.ensures, take_rest) (read_word c.args.place c.args.bytes.now c.requires fits)
