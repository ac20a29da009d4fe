use Rattle.std.proofs.Common.{ℕ, inr, sym}
use Rattle.std.proofs.lemmas.List.Folds.{Any-from_list_any}
use Rattle.frame_classes.specs.Choices.{are_alike}
use Rattle.frame_classes.proofs.choices.Case.put.Goals as goal

pub returns-else-not-has_alike-clause-stands : goal.returns-else-not-has_alike-clause-stands
returns-else-not-has_alike-clause-stands c =
    let is =
    Any-from_list_any
    (λ (v : ℕ). are_alike c.args.self.now.rows.now c.args.self.now.left.now c.args.self.now.values.now c.args.field v c.args.value)
    c.args.choices.now.items (sym c.if-not-has_alike.ensures) in
    (is.0, is.1, is.2, is.3, inr is.4)
