use Rattle.std.proofs.Common.{◌≡◌, ◌+◌, ◌++◌, ℕ, List, Some, length, map, vec_len, vec_capacity}
use Rattle.std.specs.Prelude.{slice_get}
use Rattle.std.specs.Borrow.{Bor}
use Rattle.mib_state.specs.Entities.{Entities}
use Rattle.frame_meaning.specs.Meaning.{meaning}
use Rattle.port_plan.specs.Leaving.{IsForeseen, IsPlanOf}
use Rattle.port_plan.proofs.port_plan.PortPlan.push_all.Given as goal

-- the verdicts so far and those of the frames that are left are all, the next frame's tags are known, and nothing took the room away
abbrev pub invariant-loop-left : goal.invariant-loop-left
invariant-loop-left l = record {
  len : vec_len l.verdicts + length l.left ≡ vec_len l.initial.verdicts + length l.frames;
  room : vec_capacity l.verdicts ≡ vec_capacity l.initial.verdicts;
  foreseen : (frame : Bor (List ℕ)) → slice_get l.left 0 ≡ Some frame → IsForeseen l.self frame.now l.tags;
  so_far : (e : Entities) (port : ℕ) → IsPlanOf e port l.self
      → l.verdicts.items ++ map (λ frame. meaning e port frame.now) l.left
      ≡ l.initial.verdicts.items ++ map (λ frame. meaning e port frame.now) l.frames;
}

abbrev pub decreases-loop-left : goal.decreases-loop-left
decreases-loop-left l = length l.left
