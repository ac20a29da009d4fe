-- What is known of the lanes' tallies once each lane has shown what it held.
use Rattle.std.specs.Prelude.{◌≡◌, ◌<◌, ℕ, ◌-◌, ◌^◌, List, map, Some, Ok, IfSome, IsErrOf, slice_get, length}
use Rattle.std.specs.List.{Contains, sum_by}
use Rattle.std.specs.declared.vec.Vec.{Vec}
use Rattle.std.specs.declared.alloc.Global.{Global}
use Rattle.omci_msg.specs.declared.Request.{Request}
use Rattle.plan_publish.specs.Requests.{StartsWith}
use Rattle.plan_publish.specs.History.{Home}
use Rattle.plan_publish.specs.declared.lane.Lane.{Lane}
use Rattle.plan_publish.specs.Lane.{number_of, held_by, learnt_by, home_of, HeldPrefixes, IsNew}
use Rattle.batch_reports.specs.declared.batch.Tally.{Tally}
use Rattle.batch_reports.specs.Gathering.{AreInOrder, SumPasses}
use Rattle.frame_stats.specs.Figures.{Figure, counted}
use Rattle.run_lanes.specs.declared.fault.LaneFault.TheVariants.{CountFull}
use Rattle.run_lanes.specs.declared.settling.Done.{Done}
use Rattle.run_lanes.specs.declared.settling.Settled.{Settled}

-- so many new lanes, with the numbers from 0
abbrev pub AreNew : ℕ → Home → List Lane → Type 0
AreNew lanes home all = (length all ≡ lanes) × ((k : ℕ) → k < lanes → IfSome (slice_get all k) (λ l. IsNew l k home))

-- the tally is one of the lane at this place
pub record IsFrom (all_done : List Done) (t : Tally) : Type 0 where
  pub place : ℕ
  pub done : Done
  pub tallies : Vec Tally Global
  pub at_place : slice_get all_done place ≡ Some done
  pub tallies_are : done.tallies ≡ Ok tallies
  pub is_in : Contains tallies.items t

-- these are the tallies of the lanes, each of which held beginnings of these requests
pub record Collected (accepted : List Request) (all_done : List Done) (all : List Tally) : Type 0 where
  pub began : (n : ℕ) (d : Done) → slice_get all_done n ≡ Some d → HeldPrefixes accepted d.lane
  pub from : (t : Tally) → Contains all t → IsFrom all_done t

-- the same lane, which has learnt these requests
pub record HasLearnt (requests : List Request) (before now : Lane) : Type 0 where
  pub number_is : number_of now ≡ number_of before
  pub held : held_by now ≡ held_by before
  pub home_is : home_of now ≡ home_of before
  pub learnt : StartsWith (learnt_by now) requests

-- these are the tallies of all batches, in order
pub record AreOrdered (accepted : List Request) (all_done : List Done) (count : ℕ) (out : List Tally) : Type 0 where
  pub all : List Tally
  pub collected : Collected accepted all_done all
  pub in_order : AreInOrder (λ (t : Tally). t.batch) count all out
  pub small : length accepted < 2 ^ 64 - 1

-- the tallies of all batches in order: their versions, and the sums of their counts
pub record IsSettled (accepted : List Request) (all_done : List Done) (count : ℕ) (settled : Settled) : Type 0 where
  pub out : List Tally
  pub ordered : AreOrdered accepted all_done count out
  pub versions : settled.versions.items ≡ map (λ (t : Tally). t.version) out
  pub sums : (f : Figure) → counted settled.counts f ≡ sum_by (λ t. counted t.counts f) out
  pub accepted_is : settled.accepted ≡ length accepted

-- a lane that held beginnings of these requests was stopped by a full count
pub record SomeLaneIsFull (accepted : List Request) (all_done : List Done) : Type 0 where
  pub place : ℕ
  pub done : Done
  pub at_place : slice_get all_done place ≡ Some done
  pub is_full : IsErrOf done.tallies CountFull
  pub began : HeldPrefixes accepted done.lane

-- a sum of the counts of all batches passes 64 bits
pub record AllAreFull (accepted : List Request) (all_done : List Done) (count : ℕ) : Type 0 where
  pub out : List Tally
  pub ordered : AreOrdered accepted all_done count out
  pub passes : SumPasses (λ (t : Tally). t.counts) out
