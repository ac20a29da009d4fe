use Rattle.std.proofs.Common.{sym, subst}
use Rattle.plan_publish.specs.Publisher.{Lists}
use Rattle.plan_publish.specs.Control.{Progress}
use Rattle.plan_publish.specs.World.{Publish, happens}
use Rattle.plan_publish.specs.Shown.{Shows}
use Rattle.plan_publish.proofs.Shown.{shown_publish}
use Rattle.plan_publish.proofs.control.Control.publish.Goals as goal

pub returns-clause-event : goal.returns-clause-event
returns-clause-event g c w s =
    let shown : Lists → Progress = λ l. record { desk = c.self.inside.desk; published = l.published; pending = l.pending; home = l.home } in
    subst (λ (l : Lists). Shows (shown l) (happens w Publish)) (sym c.publish.ensures.published)
    (shown_publish (shown c.self.inside.publisher) w (subst (λ (p : Progress). Shows p w) (sym c.self.view_is) s))
