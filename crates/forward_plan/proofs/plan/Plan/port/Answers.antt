use Rattle.std.proofs.Common.{◌≡◌, ◌∙◌, ◌≤◌, List, ap, arith, length}
use Rattle.port_plan.specs.declared.routes.Routes.{Routes}
use Rattle.port_plan.specs.Plan.{TablePlan}
use Rattle.forward_plan.specs.declared.attached.Attached.{Attached}
use Rattle.forward_plan.specs.declared.part.Part.{Part}
use Rattle.forward_plan.specs.Attachment.{attached_at}
use Rattle.forward_plan.proofs.Kept.{compiled_at, port_planned}
use Rattle.forward_plan.proofs.plan.Plan.port.Goals as goal

pub returns : goal.returns
returns c e compiled =
    let plan = c.args.self.now in
    let port = c.args.port in
    let tables = plan.tables.items in
    let mappers = plan.mappers.items in
    let at : c.at-attached.result ≡ attached_at e port = c.at-attached.ensures e compiled.of_ports.attached in
    let few : length tables ≤ 255 = omega (arith, plan.for_tables) in
    let few_mappers : length mappers ≤ 255 = omega (arith, plan.for_mappers) in
    port_planned e port tables mappers plan.bare plan.unmapped c.new.result compiled.of_tables compiled.of_mappers few few_mappers plan.none
    (c.new.ensures.table ∙ c.at_or.ensures ∙ ap (λ (l : List (Part TablePlan)). compiled_at l c.at-attached.result.table plan.bare) c.deref.ensures.value
    ∙ ap (λ (a : Attached). compiled_at tables a.table plan.bare) at)
    (c.new.ensures.routes ∙ c.at_or-2.ensures ∙ ap (λ (l : List (Part Routes)). compiled_at l c.at-attached.result.mapper plan.unmapped) c.deref-2.ensures.value
    ∙ ap (λ (a : Attached). compiled_at mappers a.mapper plan.unmapped) at)
