use Rattle.std.proofs.Common.{◌≡◌, ◌<◌, ℕ, false, Some}
use Rattle.std.specs.Prelude.{slice_get}
use Rattle.treatment.specs.Compiled.{Compiled, asks_dscp}
use Rattle.port_plan.proofs.treats.any_asks.Given as goal

abbrev pub invariant-loop-treat : goal.invariant-loop-treat
invariant-loop-treat l = (place : ℕ) (treat : Compiled) → place < l.treat-index → slice_get l.treats place ≡ Some (Some treat) → asks_dscp treat ≡ false
