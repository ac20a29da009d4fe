use Rattle.std.proofs.Common.{eq-eqb, sym, ◌∙◌}
use mathlib.Core.Bool.{false≢true}
use Rattle.port_plan.proofs.Routing.{of_some}
use Rattle.port_plan.proofs.routes.Routes.of.Goals as goal

pub returns : goal.returns
returns c = λ n.
    of_some c.args.mib.now.entities n c.args.mapper.now _ (c.by_priority.ensures n) c.untagged.ensures.value
    (λ unused option. false≢true (sym unused ∙ eq-eqb c.args.mapper.now.unmarked_frame_option 0 option))
