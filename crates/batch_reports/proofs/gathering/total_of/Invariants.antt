use Rattle.std.proofs.Common.{◌≡◌, take}
use Rattle.std.specs.List.{sum_by}
use Rattle.frame_stats.specs.Figures.{Figure, counted}
use Rattle.batch_reports.proofs.gathering.total_of.Given as goal

abbrev pub invariant-loop-item : goal.invariant-loop-item
invariant-loop-item g l = record {
  counts : (f : Figure) → counted l.total f ≡ sum_by (λ x. counted (g.T.Numbered.counts_of x) f) (take l.item-index l.items);
}
