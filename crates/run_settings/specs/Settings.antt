-- Which settings a run may have.
use Rattle.std.specs.Prelude.{◌≤◌, ◌&&◌, nat_le, ℕ, Bool}
use Rattle.run_settings.specs.declared.settings.RunSettings.{RunSettings}

-- the most lanes of a run
abbrev pub lane_limit : ℕ
lane_limit = 16

-- the most frames of a batch
abbrev pub batch_limit : ℕ
batch_limit = 65536

-- the lanes of a run that says none
abbrev pub default_lanes : ℕ
default_lanes = 4

-- the frames of a batch of a run that says none
abbrev pub default_batch : ℕ
default_batch = 1024

-- lanes and batches are in their ranges
abbrev pub can_run : RunSettings → Bool
can_run s = (nat_le 1 s.lanes && nat_le s.lanes lane_limit) && (nat_le 1 s.batch && nat_le s.batch batch_limit)

-- the same, as a statement of the lanes and of the frames of a batch
abbrev pub AreInLimits : ℕ → ℕ → Type 0
AreInLimits lanes batch = (1 ≤ lanes) × (lanes ≤ lane_limit) × (1 ≤ batch) × (batch ≤ batch_limit)

abbrev pub CanRun : RunSettings → Type 0
CanRun s = AreInLimits s.lanes s.batch
