-- The greatest versions of the ports' frames under a number.
use Rattle.std.specs.Prelude.{◌≡◌, ◌⊎◌, ◌<◌, ◌≤◌, ℕ, List, length, slice_index}
use Rattle.forward_plan.specs.Ports.{port_count}
use Rattle.bench_judge.specs.Bounds.{HasEndedAt}
use Rattle.bench_judge.specs.declared.frame.Frame.{Frame}

-- a frame under a number has a version
pub record IsHadAt (frames : List Frame) (versions : ℕ → ℕ) (at_port number version : ℕ) : Type 0 where
  pub n : ℕ
  pub under : n < number
  pub ended : HasEndedAt frames at_port n
  pub has : versions n ≡ version

-- by port, the greatest version of the ended frames under a number, or 0
pub record AreGreatest (frames : List Frame) (versions : ℕ → ℕ) (number : ℕ) (greatest : List ℕ) : Type 0 where
  pub ports : length greatest ≡ port_count
  pub over : (port n : ℕ) → port < port_count → n < number → HasEndedAt frames port n → versions n ≤ slice_index greatest port
  pub had : (port : ℕ) → port < port_count → (slice_index greatest port ≡ 0) ⊎ IsHadAt frames versions port number (slice_index greatest port)
