-- At its end the loop has passed all the tags that are left.
use Rattle.std.proofs.Common.{◌≡◌, List, Some, ap}
use Rattle.std.proofs.lemmas.List.{take_all}
use Rattle.tag_view.specs.Tag.{TagFields}
use Rattle.treatment.specs.Treatment.{left_of, treated_by}
use Rattle.treatment.proofs.treating.retagged.Goals as goal

pub returns-clause-value : goal.returns-clause-value
unfolding treated_by
returns-clause-value c =
    let all = take_all c.loop-tag.tag-index c.split_at.result.1.now c.loop-tag-test.false in
    let left : c.split_at.result.1.now ≡ left_of c.args.retag.now.remove c.args.frame.now.tags =
    rw (c.split_at.ensures.back, c.min.ensures, c.from.ensures, c.tags-received.ensures.value) in
    let items = rw (all, left, c.added-tags.ensures.items) at c.loop-tag.invariant in
    ap (λ (tags : List TagFields). Some tags) items
