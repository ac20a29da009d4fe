-- What frames of one port mean, and how many a batch has.
use Rattle.std.specs.Prelude.{ℕ, List, map}
use Rattle.std.specs.Borrow.{Bor}
use Rattle.mib_state.specs.Entities.{Entities}
use Rattle.frame_meaning.specs.declared.verdict.Verdict.{Verdict}
use Rattle.frame_meaning.specs.Meaning.{meaning}

-- what becomes of each frame that comes in at a port, in order
abbrev pub meanings : Entities → ℕ → List (Bor (List ℕ)) → List Verdict
meanings e port frames = map (λ frame. meaning e port frame.now) frames

-- how many frames a batch has at most
abbrev pub most_frames : ℕ
most_frames = 65536
