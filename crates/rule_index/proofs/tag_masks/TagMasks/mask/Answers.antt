use Rattle.std.proofs.Common.{◌<◌, ◌∙◌, ap₂, bit_and, arith}
use Rattle.tag_view.specs.Word.{tag_of}
use Rattle.rule_index.proofs.Joined.{tag-mask}
use Rattle.rule_index.proofs.tag_masks.TagMasks.mask.Goals as goal

pub returns : goal.returns
returns c = λ filters is.
    let self = c.args.self.now in
    let tag = tag_of c.args.tag in
    let pcp : tag.pcp < 8 = omega arith in
    let vid : tag.vid < 4096 = omega arith in
    ap₂ bit_and c.mask.ensures c.mask-2.ensures
    ∙ tag-mask self.codes.codes self.vids.class.items self.vids.masks.items filters c.args.input_tpid tag pcp vid is.codes is.vids
