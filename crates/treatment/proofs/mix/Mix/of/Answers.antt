-- Each part is the word of its mask.
use Rattle.std.proofs.Common.{refl}
use Rattle.treatment.specs.Mix.{mix_of}
use Rattle.treatment.proofs.mix.Mix.of.Goals as goal

pub returns : goal.returns
unfolding mix_of
returns c =
    rw (c.word.ensures.value, c.word-2.ensures.value, c.word-3.ensures.value, c.word-4.ensures.value, c.fixed.ensures, c.of_outer.ensures, c.of_inner.ensures, c.of_dscp.ensures) refl
