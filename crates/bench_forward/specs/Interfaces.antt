-- How the numbers of interfaces are found.
use Rattle.std.specs.Prelude.{◌≡◌, ◌<◌, ℕ, List, length, slice_index}
use Rattle.frame_stats.specs.Figures.{gem_ports}

-- at the place of each GEM port that has an interface stands the number of that
pub record AreNumbersOf (gems numbers : List ℕ) : Type 0 where
  pub every : length numbers ≡ gem_ports
  pub few : (k : ℕ) → k < length gems → slice_index gems k < gem_ports
  pub found : (k : ℕ) → k < length gems → slice_index numbers (slice_index gems k) ≡ k
