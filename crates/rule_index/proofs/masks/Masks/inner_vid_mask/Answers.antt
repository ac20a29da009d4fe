use Rattle.std.proofs.Common.{◌∙◌, map}
use Rattle.vlan_rule.specs.declared.filter.TagFilter.{TagFilter}
use Rattle.rule_index.specs.declared.row.Row.{Row}
use Rattle.rule_index.specs.Filters.{admits_vid, inner_in}
use Rattle.rule_index.proofs.MaskLaws.{mask-map}
use Rattle.rule_index.proofs.masks.Masks.inner_vid_mask.Goals as goal

pub returns : goal.returns
returns c = λ rows is.
    c.vid_mask.ensures ∙ is.inner.vids.admits.each c.args.vid c.requires
    ∙ mask-map (λ f. admits_vid c.args.vid f) (λ (f : TagFilter). f.vid) (map (λ (row : Row). inner_in row.filter) rows)
    ∙ mask-map (λ (f : TagFilter). admits_vid c.args.vid f.vid) (λ (row : Row). inner_in row.filter) rows
