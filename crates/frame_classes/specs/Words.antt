-- Places as bits of words: bit k % 64 of word k / 64 is that of place k.
use Rattle.std.specs.Prelude.{ℕ, ◌+◌, ◌/◌, ◌%◌, ◌<◌, ◌≤◌, Bool, ◌==◌, List, [], ◌∷◌, ⊤, filter, slice_index_or}
use Rattle.std.specs.Int.{bit_at}
use Rattle.std.specs.List.{list_any, range_with_len}

-- the bit of a place is set
abbrev pub stands : List ℕ → ℕ → Bool
stands words place = bit_at (slice_index_or words (place / 64) 0) (place % 64) == 1

-- the places under an end whose bits are set, in order
unfoldable pub places_under : ℕ → List ℕ → List ℕ
places_under end words = filter (stands words) (range_with_len 0 end)

-- places ascend from the least on, all under an end
abbrev pub AreInOrder : ℕ → ℕ → List ℕ → Type 0
AreInOrder least end [] = ⊤
AreInOrder least end (place ∷ rest) = (least ≤ place) × ((place < end) × AreInOrder (place + 1) end rest)

-- a list has a place
abbrev pub has : List ℕ → ℕ → Bool
has places place = list_any (λ other. other == place) places
