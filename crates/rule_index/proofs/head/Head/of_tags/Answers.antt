-- Each return has the head of a frame with so many tags.
use Rattle.std.proofs.Common.{◌≡◌, arith, refl, Ok, Result, ap, sym, ◌∙◌}
use Rattle.tag_view.specs.declared.fault.FrameFault.{FrameFault}
use Rattle.tag_view.specs.Tag.{is_tag_type}
use Rattle.rule_index.specs.Head.{FrameHead}
use Rattle.rule_index.proofs.Heads.{none_ahead, one_ahead, one_tag, two_ahead, two_tags, untagged}
use Rattle.rule_index.proofs.head.Head.of_tags.Goals as goal

pub returns-in-0-clause-read : goal.returns-in-0-clause-read
returns-in-0-clause-read c = λ input is.
    let ok : FrameHead → Result FrameHead FrameFault = λ head. Ok head in
    let bytes = c.args.bytes.now in
    untagged input c.type_at.result bytes (omega (arith, c.requires.whole)) c.type_at.ensures
    (ap (is_tag_type input) c.type_at.ensures ∙ none_ahead input bytes c.requires.whole (sym c.in-0.is ∙ is))
    ∙ sym (ap ok c.untagged.ensures)

pub returns-in-1-clause-read : goal.returns-in-1-clause-read
returns-in-1-clause-read c = λ input is.
    let ok : FrameHead → Result FrameHead FrameFault = λ head. Ok head in
    let bytes = c.args.bytes.now in
    let types = one_ahead input bytes c.requires.whole (sym c.in-1.is ∙ is) in
    one_tag input _ c.type_at-in-1.result c.word_at.result bytes (omega (arith, c.requires.whole)) refl types.first c.word_at.ensures c.type_at-in-1.ensures
    (ap (is_tag_type input) c.type_at-in-1.ensures ∙ types.second)
    ∙ sym (ap ok c.one_tag.ensures)

pub returns-in_default-clause-read : goal.returns-in_default-clause-read
returns-in_default-clause-read c = λ input is.
    let ok : FrameHead → Result FrameHead FrameFault = λ head. Ok head in
    let bytes = c.args.bytes.now in
    let two : c.args.tags ≡ 2 = omega (arith, c.requires.two, c.in_default) in
    let types = two_ahead input bytes c.requires.whole (sym two ∙ is) in
    two_tags input _ _ c.word_at-in_default.result c.word_at-in_default-2.result c.type_at-in_default.result bytes c.requires.whole refl types.first
    c.word_at-in_default.ensures refl types.second c.word_at-in_default-2.ensures c.type_at-in_default.ensures
    ∙ sym (ap ok c.two_tags.ensures)
