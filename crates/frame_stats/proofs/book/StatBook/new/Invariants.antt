use Rattle.std.proofs.Common.{◌≡◌, ◌≤◌, vec_len, vec_capacity, All}
use Rattle.std.specs.List.{sum_by}
use Rattle.frame_stats.specs.Figures.{Figure, counted}
use Rattle.frame_stats.specs.Books.{IsZero}
use Rattle.frame_stats.proofs.book.StatBook.new.Given as goal

abbrev pub invariant-loop-lane : goal.invariant-loop-lane
invariant-loop-lane l = record {
  room : l.lanes ≤ vec_capacity l.parts;
  len : vec_len l.parts ≡ l._lane;
  zero : All IsZero l.parts.items;
  sum : (f : Figure) → sum_by (λ part. counted part f) l.parts.items ≡ 0;
}
