use Rattle.frame_stats.specs.Figures.{DropsFor, FramesTo}
use Rattle.frame_stats.proofs.counts.Counts.recount.Goals as goal

pub note_all-requires-clause-no_drops : goal.note_all-requires-clause-no_drops
note_all-requires-clause-no_drops c = λ reason. c.clear.ensures.zero (DropsFor reason)

pub note_all-requires-clause-no_frames : goal.note_all-requires-clause-no_frames
note_all-requires-clause-no_frames c = λ port. c.clear.ensures.zero (FramesTo port)
