-- Each return has the head or the fault of the frame.
use Rattle.std.proofs.Common.{Ok, Result, ap, sym, ◌∙◌}
use Rattle.tag_view.specs.declared.fault.FrameFault.{FrameFault}
use Rattle.rule_index.specs.Head.{FrameHead}
use Rattle.rule_index.proofs.Heads.{runt, untagged, cut_one, one_tag, cut_two, two_tags}
use Rattle.rule_index.proofs.head.Head.read.Goals as goal

pub returns-then-bytes-lt14 : goal.returns-then-bytes-lt14
returns-then-bytes-lt14 c = sym (runt c.args.input_tpid c.args.bytes.now c.if-bytes-lt14.true)

pub returns-then-not-is_tag_type : goal.returns-then-not-is_tag_type
returns-then-not-is_tag_type c =
    let ok : FrameHead → Result FrameHead FrameFault = λ head. Ok head in
    ap ok c.untagged.ensures
    ∙ sym (untagged c.args.input_tpid c.type_at-first.result c.args.bytes.now c.if-bytes-lt14.false c.type_at-first.ensures
    (sym c.is_tag_type.ensures ∙ c.if-not-is_tag_type.true))

pub returns-then-bytes-lt18 : goal.returns-then-bytes-lt18
returns-then-bytes-lt18 c =
    sym (cut_one c.args.input_tpid c.type_at-first.result c.args.bytes.now c.if-bytes-lt14.false c.type_at-first.ensures
    (sym c.is_tag_type.ensures ∙ c.if-not-is_tag_type.false) c.if-bytes-lt18.true)

pub returns-then-not-is_tag_type-2 : goal.returns-then-not-is_tag_type-2
returns-then-not-is_tag_type-2 c =
    let ok : FrameHead → Result FrameHead FrameFault = λ head. Ok head in
    ap ok c.one_tag.ensures
    ∙ sym (one_tag c.args.input_tpid c.type_at-first.result c.type_at-second.result c.word_at-outer.result c.args.bytes.now c.if-bytes-lt18.false
    c.type_at-first.ensures (sym c.is_tag_type.ensures ∙ c.if-not-is_tag_type.false) c.word_at-outer.ensures
    c.type_at-second.ensures (sym c.is_tag_type-2.ensures ∙ c.if-not-is_tag_type-2.true))

pub returns-then-bytes-lt22 : goal.returns-then-bytes-lt22
returns-then-bytes-lt22 c =
    sym (cut_two c.args.input_tpid c.type_at-first.result c.type_at-second.result c.args.bytes.now c.if-bytes-lt18.false c.type_at-first.ensures
    (sym c.is_tag_type.ensures ∙ c.if-not-is_tag_type.false) c.type_at-second.ensures (sym c.is_tag_type-2.ensures ∙ c.if-not-is_tag_type-2.false) c.if-bytes-lt22.true)

pub returns : goal.returns
returns c =
    let ok : FrameHead → Result FrameHead FrameFault = λ head. Ok head in
    ap ok c.two_tags.ensures
    ∙ sym (two_tags c.args.input_tpid c.type_at-first.result c.type_at-second.result c.word_at-outer.result c.word_at-inner.result c.type_at.result c.args.bytes.now
    c.if-bytes-lt22.false c.type_at-first.ensures (sym c.is_tag_type.ensures ∙ c.if-not-is_tag_type.false) c.word_at-outer.ensures
    c.type_at-second.ensures (sym c.is_tag_type-2.ensures ∙ c.if-not-is_tag_type-2.false) c.word_at-inner.ensures c.type_at.ensures)
