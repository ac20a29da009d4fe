use Rattle.std.proofs.Common.{rules}
use Rattle.frame_classes.proofs.alike.are_seen_alike.Goals as goal

pub returns-then-eq : goal.returns-then-eq
returns-then-eq c =
    λ h. record { settings = search rules; ends = c.are_ended_alike.ensures h; tags = search rules; retag = search rules }
