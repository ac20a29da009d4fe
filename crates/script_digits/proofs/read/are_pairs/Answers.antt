use Rattle.std.proofs.Common.{◌∙◌}
use Rattle.std.proofs.lemmas.Bool.{ne_eqb}
use Rattle.script_digits.proofs.Digits.{spells, spells_nothing}
use Rattle.script_digits.proofs.read.are_pairs.Goals as goal

pub returns-then-characters-eq0 : goal.returns-then-characters-eq0
returns-then-characters-eq0 c = c.are_digits.ensures ∙ spells c.args.characters.now c.if-characters-eq0.true

pub returns-else-characters-eq0 : goal.returns-else-characters-eq0
returns-else-characters-eq0 c = ne_eqb _ 0 c.if-characters-eq0.false ∙ spells_nothing c.args.characters.now c.if-characters-eq0.false
