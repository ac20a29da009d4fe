-- Four times a mix is put behind the others, if there is one.
use Rattle.std.proofs.Common.{refl, append_assoc}
use Rattle.std.proofs.lemmas.List.{map-append}
use Rattle.treatment.specs.Compiled.{outgoing}
use Rattle.treatment.proofs.compiled.Treat.of_retag.Goals as goal

pub returns : goal.returns
unfolding outgoing
returns c =
    simp (c.append-4.ensures.items, c.append-3.ensures.items, c.append-2.ensures.items, c.append.ensures.items, c.first.ensures.value, c.second.ensures.value, map-append, append_assoc) refl
