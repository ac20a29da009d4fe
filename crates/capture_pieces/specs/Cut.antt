-- Frames that are cut, in order, into batches of a size.
use Rattle.std.specs.Prelude.{ℕ, ◌*◌, List, take, drop}

-- the frames and the size
pub record Cut : Type 0 where
  pub frames : List (List ℕ)
  pub size : ℕ

-- the frames of a batch
abbrev pub batch_of : {A : Type 0} → ℕ → ℕ → List A → List A
batch_of size k frames = take size (drop (k * size) frames)
