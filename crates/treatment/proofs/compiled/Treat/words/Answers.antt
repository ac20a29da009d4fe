-- The words of the mixes are those of the tags that a treatment gives.
use Rattle.treatment.proofs.Sources.{words-treat, words-treat_entry}
use Rattle.treatment.proofs.compiled.Treat.words.Goals as goal

pub returns-clause-treated : goal.returns-clause-treated
returns-clause-treated c =
    rw (c.words.ensures, ← c.self.view_is)
    (words-treat (record { mixes = c.self.inside.mixes; count = c.self.inside.count }) c.args.first c.args.last c.args.priority)

pub returns-clause-of_entry : goal.returns-clause-of_entry
returns-clause-of_entry c =
    rw (c.words.ensures, ← c.self.view_is)
    (words-treat_entry (record { mixes = c.self.inside.mixes; count = c.self.inside.count }) c.args.first c.args.last c.args.priority)
