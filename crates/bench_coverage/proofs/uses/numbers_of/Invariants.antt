use Rattle.std.proofs.Common.{◌≡◌, ◌<◌, ◌≤◌, ℕ, length, slice_index}
use Rattle.std.specs.Prelude.{Some}
use Rattle.arrayvec.specs.ArrayVec.{array_vec_len}
use Rattle.explain.specs.Order.{number_of}
use Rattle.bench_coverage.proofs.uses.numbers_of.Given as goal

abbrev pub invariant-loop-place : goal.invariant-loop-place
invariant-loop-place l = record {
  within : l.place ≤ length l.table;
  count : array_vec_len l.numbers ≡ l.place;
  len : length l.numbers.items ≡ l.place;
  number : (place : ℕ) → place < l.place → number_of l.table place ≡ Some (slice_index l.numbers.items place);
}
