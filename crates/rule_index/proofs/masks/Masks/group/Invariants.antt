use Rattle.std.proofs.Common.{◌≤◌, take, map}
use Rattle.rule_index.specs.declared.row.Row.{Row}
use Rattle.rule_index.specs.Filters.{inner_in, outer_in}
use Rattle.rule_index.specs.Kinds.{AreTags, AreTypes}
use Rattle.rule_index.specs.TagMasks.{IsTagGrouping}
use Rattle.rule_index.proofs.masks.Masks.group.Given as goal

abbrev pub invariant-loop-place : goal.invariant-loop-place
invariant-loop-place l = record {
  tags : AreTags l.self.kinds.tags (take l.place l.rows);
  types : AreTypes l.self.kinds.types (take l.place l.rows);
  outer : IsTagGrouping l.self.outer (map (λ (row : Row). outer_in row.filter) (take l.place l.rows));
  inner : IsTagGrouping l.self.inner (map (λ (row : Row). inner_in row.filter) (take l.place l.rows));
  few_outer : l.self.outer.vids.named ≤ l.place;
  few_inner : l.self.inner.vids.named ≤ l.place;
}
