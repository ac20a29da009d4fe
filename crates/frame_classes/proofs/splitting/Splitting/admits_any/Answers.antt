use Rattle.std.proofs.Common.{ℕ, List, false, rules, tests}
use Rattle.std.proofs.lemmas.Iterator.Consumers.{YieldsList-from_first}
use Rattle.std.proofs.lemmas.Iterator.Search.{any_from_yields_List}
use Rattle.frame_rows.specs.Row.{row_admits}
use Rattle.frame_classes.specs.Choices.{test_at}
use Rattle.frame_classes.proofs.splitting.Splitting.admits_any.Goals as goal

pub returns : goal.returns
returns c =
    any_from_yields_List
    (test_at (λ row. row_admits row c.args.field c.args.value) false c.args.self.now.sides.now.rows.now) _ _
    c.any.result c.any.ensures.ran (YieldsList-from_first (λ (place : ℕ). place) (λ (places : List ℕ). places) c.args.places.now c.iter.ensures.places)
    (λ x b q k. search (rules, tests))
