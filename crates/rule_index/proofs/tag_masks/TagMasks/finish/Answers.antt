use Rattle.rule_index.proofs.tag_masks.TagMasks.finish.Goals as goal

pub returns : goal.returns
returns c = λ filters is. record {
  keys = c.finish.ensures.keys filters is.codes;
  codes = c.finish.ensures.codes filters is.codes;
  vids = c.finish-2.ensures _ is.vids;
}
