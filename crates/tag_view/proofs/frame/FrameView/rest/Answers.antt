-- What stands behind the tags is taken to its end.
use Rattle.std.proofs.Common.{ℕ, ◌+◌, ◌*◌, drop, ap, rules}
use Rattle.std.proofs.lemmas.List.{take_rest}
use Rattle.tag_view.proofs.frame.FrameView.rest.Goals as goal

-- Bounded, so that a wrong body is refused at once.
pub returns-clause-len : goal.returns-clause-len
returns-clause-len c = search rules fits 30

pub returns-clause-value : goal.returns-clause-value
returns-clause-value c = rw (← c.self.view_is, take_rest) (ap (λ (n : ℕ). drop (12 + 4 * n) c.self.inside.bytes.now) c.len.ensures.value)
