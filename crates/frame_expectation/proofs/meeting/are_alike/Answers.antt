use Rattle.frame_expectation.proofs.Leaving.{not_as_many}
use Rattle.frame_expectation.proofs.meeting.are_alike.Goals as goal

pub returns-then-tags-others : goal.returns-then-tags-others
returns-then-tags-others c = not_as_many c.args.tags.now c.args.others.now c.if-tags-others.true
