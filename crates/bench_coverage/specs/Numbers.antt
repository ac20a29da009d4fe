-- The numbers of a table's entries, in the order in which they are tried.
use Rattle.std.specs.Prelude.{◌≡◌, ◌<◌, ℕ, List, Some, length, slice_index}
use Rattle.explain.specs.Order.{number_of}

-- the numbers of entries, by their places, in the order in which they are tried
pub record AreNumbered (entries : List (List ℕ)) (numbers : List ℕ) : Type 0 where
  pub count : length numbers ≡ length entries
  pub number : (place : ℕ) → place < length entries → number_of entries place ≡ Some (slice_index numbers place)
