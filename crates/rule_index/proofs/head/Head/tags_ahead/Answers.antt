-- Each return has the number of tags, or 128.
use Rattle.std.proofs.Common.{◌+◌, ap, ap₂, sym, ◌∙◌}
use Rattle.tag_view.specs.Tag.{is_tag_type}
use Rattle.rule_index.proofs.Heads.{counted_ahead}
use Rattle.rule_index.proofs.head.Head.tags_ahead.Goals as goal

pub returns : goal.returns
returns c =
    let input = c.args.input_tpid in
    ap₂ (λ a b. a + b) c.from.ensures c.from-2.ensures
    ∙ counted_ahead input c.args.bytes.now c.is_tag_type-first.result c.is_tag_type.result c.if-bytes-lt22.false
    (sym (c.is_tag_type-first.ensures ∙ ap (is_tag_type input) c.type_at.ensures))
    (sym (c.is_tag_type.ensures ∙ ap (is_tag_type input) c.type_at-2.ensures))
