-- At its end the loop has passed all the tags that are left.
use Rattle.std.proofs.Common.{◌≡◌, List}
use Rattle.std.proofs.lemmas.List.{take_all}
use Rattle.tag_view.specs.Tag.{TagFields}
use Rattle.treatment.specs.Treatment.{left_of}
use Rattle.frame_expectation.proofs.wanted.WantedRetag.tags.Goals as goal

pub returns : goal.returns
returns c =
    let all = take_all c.loop-tag.tag-index c.split_at.result.1.now c.loop-tag-test.false in
    let left : c.split_at.result.1.now ≡ left_of c.args.self.now.remove c.args.frame.now.tags =
    rw (c.split_at.ensures.back, c.min.ensures, c.from.ensures, c.tags-received.ensures.value) in
    rw (all, left, c.added-tags.ensures.items) at c.loop-tag.invariant
