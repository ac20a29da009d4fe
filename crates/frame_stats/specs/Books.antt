-- A book of counts: a part for each lane.
use Rattle.std.specs.Prelude.{◌≡◌, ◌≢◌, ◌<◌, ◌≤◌, ◌^◌, ℕ, ◌+◌, List, slice_get, IsSomeAnd}
use Rattle.std.specs.List.{sum_by}
use Rattle.frame_stats.specs.declared.counts.Counts.{Counts}
use Rattle.frame_stats.specs.Figures.{Figure, counted}

-- nothing is counted
abbrev pub IsZero : Counts → Type 0
IsZero c = (f : Figure) → counted c f ≡ 0

-- the total is the sum of the parts, figure by figure and port by port
abbrev pub IsTotalOf : List Counts → Counts → Type 0
IsTotalOf parts total = (f : Figure) → counted total f ≡ sum_by (λ part. counted part f) parts

-- each figure has 64 bits
abbrev pub Fits : Counts → Type 0
Fits c = (f : Figure) → counted c f < 2 ^ 64

-- these counts are some others with more added
abbrev pub IsMore : Counts → Counts → Counts → Type 0
IsMore old added new = (f : Figure) → counted new f ≡ counted old f + counted added f

-- counts are added to one lane's part, and every other lane's stays
pub record AddsTo (lane : ℕ) (added : Counts) (old new : List Counts) : Type 0 where
  pub part : IsSomeAnd (slice_get old lane) (λ before. IsSomeAnd (slice_get new lane) (λ after. IsMore before added after))
  pub others : (other : ℕ) → other ≢ lane → slice_get new other ≡ slice_get old other

-- a book may have so many lanes
abbrev pub MayHave : ℕ → Type 0
MayHave lanes = (0 < lanes) × (lanes ≤ 16)
