use Rattle.std.proofs.Common.{ℕ, List, rules, tests, true}
use Rattle.std.proofs.lemmas.Iterator.Consumers.{YieldsList-from_first}
use Rattle.std.proofs.lemmas.Iterator.Search.{all_from_yields_List}
use Rattle.frame_rows.specs.Alike.{is_alike}
use Rattle.frame_classes.specs.Choices.{test_at}
use Rattle.frame_classes.proofs.choices.Case.are_alike.Goals as goal

pub returns : goal.returns
returns c =
    all_from_yields_List
    (test_at (is_alike c.args.self.now.values.now c.args.field c.args.one c.args.other) true c.args.self.now.rows.now) _ _
    c.all.result c.all.ensures.ran (YieldsList-from_first (λ (place : ℕ). place) (λ (places : List ℕ). places) c.args.self.now.left.now c.iter.ensures.places)
    (λ x b q k. search (rules, tests))
