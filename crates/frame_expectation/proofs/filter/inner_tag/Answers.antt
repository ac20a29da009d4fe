use Rattle.std.proofs.Common.{Some, ap, ◌∙◌}
use Rattle.std.specs.Prelude.{Option}
use Rattle.tag_view.specs.Tag.{TagFields}
use Rattle.frame_expectation.proofs.Leaving.{last_is_inner}
use Rattle.frame_expectation.proofs.filter.inner_tag.Goals as goal

pub returns-in-len1-up : goal.returns-in-len1-up
returns-in-len1-up c =
    ap (λ (tag : TagFields). Some tag) c.last-item.is ∙ last_is_inner c.args.tags.now c.last-item.result c.in-len1-up.len_at_least
