use Rattle.std.proofs.Common.{◌≡◌, ℕ, ◌≤◌, List, [], ◌∷◌, length, arith, refl, ap, ◌∙◌}
use Rattle.tag_view.specs.Tag.{TagFields}
use Rattle.vlan_rule.specs.declared.filter.TagFilter.{TagFilter}
use Rattle.treatment.specs.Treatment.{inner_of}
use Rattle.treatment.proofs.Tags.{last_is_inner}
use Rattle.explain.specs.Mismatch.{inner_mismatch, tag_mismatch}
use Rattle.explain.proofs.mismatch.inner_mismatch.Goals as goal

-- of a frame with a tag it is that of the inner one
of_inner : (input : ℕ) (f : TagFilter) (tags : List TagFields) → 1 ≤ length tags → tag_mismatch input f (inner_of tags) ≡ inner_mismatch input f tags
of_inner input f [] some = absurd (omega arith)
of_inner input f (tag ∷ rest) some = refl

pub returns-in-len1-up : goal.returns-in-len1-up
returns-in-len1-up c =
    let tags = c.args.tags.now in
    let last = c.last-item.is ∙ last_is_inner tags c.last-item.result c.in-len1-up.len_at_least in
    c.tag_mismatch.ensures
    ∙ ap (λ (f : TagFilter). tag_mismatch c.args.input_tpid f c.last-item.result) c.inner_filter.ensures
    ∙ ap (tag_mismatch c.args.input_tpid _) last
    ∙ of_inner c.args.input_tpid _ tags c.in-len1-up.len_at_least
