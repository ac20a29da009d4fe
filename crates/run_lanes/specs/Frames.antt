-- Which frames a run has.
use Rattle.std.specs.Prelude.{◌≡◌, ℕ, List, map}
use Rattle.run_lanes.specs.declared.frames.RunFrames.{RunFrames}
use Rattle.run_lanes.specs.declared.frames.RunFrames.TheVariants.{Listed, Cut}

-- the frames, in order
abbrev pub frames_in : RunFrames → List (List ℕ)
frames_in (Listed list) = map (λ frame. frame.now) list.now
frames_in (Cut batches) = batches.now.frames

-- the size of the batches of a cut capture, or else this one
abbrev pub size_in : ℕ → RunFrames → ℕ
size_in size (Listed list) = size
size_in size (Cut batches) = batches.now.size

-- where they are those of a cut capture, its batches have this size
abbrev pub IsCutFor : ℕ → RunFrames → Type 0
IsCutFor size frames = size_in size frames ≡ size
