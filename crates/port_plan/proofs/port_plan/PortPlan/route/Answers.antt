use Rattle.std.proofs.Common.{◌∙◌}
use Rattle.std.proofs.Common.{ap}
use Rattle.frame_meaning.specs.Meaning.{mapper_at}
use Rattle.port_plan.specs.Plan.{route_of}
use Rattle.port_plan.specs.Leaving.{words_made}
use Rattle.port_plan.proofs.Planned.{gem_made}
use Rattle.port_plan.proofs.port_plan.PortPlan.route.Goals as goal

pub returns-clause-gem : goal.returns-clause-gem
returns-clause-gem c = λ e port dscp planned place.
    c.route.ensures e (mapper_at e port) planned.routes
    ∙ ap (λ p. route_of e (mapper_at e port) p) (c.priority.ensures.value e port dscp planned place)
    ∙ gem_made e port dscp c.args.tagging.now.treat.now.count (words_made c.args.tagging.now) c.priority.ensures.four
