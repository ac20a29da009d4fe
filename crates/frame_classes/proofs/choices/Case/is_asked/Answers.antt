use Rattle.std.proofs.Common.{ℕ, List, false, rules, tests}
use Rattle.std.proofs.lemmas.Iterator.Consumers.{YieldsList-from_first}
use Rattle.std.proofs.lemmas.Iterator.Search.{any_from_yields_List}
use Rattle.frame_rows.specs.Row.{ask_at, named_by}
use Rattle.frame_classes.specs.Choices.{is_some_value, test_at}
use Rattle.frame_classes.proofs.choices.Case.is_asked.Goals as goal

pub returns : goal.returns
returns c =
    any_from_yields_List
    (test_at (λ row. is_some_value (named_by (ask_at row c.args.field))) false c.args.self.now.rows.now) _ _
    c.any.result c.any.ensures.ran (YieldsList-from_first (λ (place : ℕ). place) (λ (places : List ℕ). places) c.args.self.now.left.now c.iter.ensures.places)
    (λ x b q k. search (rules, tests))
