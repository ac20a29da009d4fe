use Rattle.std.proofs.Common.{rules, tests, sym, ◌∙◌}
use Rattle.std.proofs.lemmas.Iterator.{YieldsList-from_slice}
use Rattle.std.proofs.lemmas.Iterator.Search.{any_from_yields_List}
use Rattle.tag_view.specs.Tag.{is_tag_type}
use Rattle.frame_rows.specs.declared.rows.Rows.{Rows}
use Rattle.frame_classes.proofs.Types.{begins_by_rows}
use Rattle.frame_classes.proofs.choices.Case.begins_tag.Goals as goal

pub returns : goal.returns
returns c =
    let sides = c.args.self.now.sides.now.sides.now in
    any_from_yields_List (λ (rows : Rows). is_tag_type rows.settings.input_tpid c.args.ethertype) _ _ c.any.result c.any.ensures.ran
    (YieldsList-from_slice sides (cc)) (λ x b q k. search (rules, tests))
    ∙ sym (begins_by_rows sides c.args.ethertype)
