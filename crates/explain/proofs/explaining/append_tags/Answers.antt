use Rattle.std.proofs.Common.{[], ◌∷◌, List, ap, ◌∙◌}
use Rattle.tag_view.specs.Frame.{Reading}
use Rattle.tag_view.specs.Tag.{TagFields}
use Rattle.managed_entity.specs.Shown.{mapper_instance}
use Rattle.frame_meaning.specs.declared.reason.Reason.TheVariants.{NoMapper}
use Rattle.explain.specs.declared.step.Step.TheVariants as step
use Rattle.explain.specs.Steps.{dropped, from_mapper, from_tags}
use Rattle.explain.proofs.Appended.{appended_on_ok}
use Rattle.explain.proofs.Stages.{tags_drop, tags_lead}
use Rattle.explain.proofs.explaining.append_tags.Goals as goal

pub returns-in-Some : goal.returns-in-Some
returns-in-Some c =
    let e = c.args.mib.now.entities in
    let frame = c.args.frame.now in
    let leaving = c.new-leaving.result in
    let mapper = mapper_instance c.in-Some.number c.in-Some.mapper.now in
    let with_tags : List TagFields → Reading = λ tags. record frame { tags = tags } in
    appended_on_ok c.append_mapper.result c.args.steps.now.items c.push.new.self.items (step.Tags c.args.tags ∷ [])
    (from_mapper e leaving c.dscp.result mapper) (from_tags e c.args.port frame c.args.tags.items) c.append_mapper.new.steps.items
    c.in_ok-push.ensures.items
    (tags_lead e c.args.port frame leaving c.args.tags.items c.dscp.result mapper (c.new-leaving.ensures ∙ ap with_tags c.plain.ensures)
    c.dscp.ensures.value c.in-Some.ensures) c.append_mapper.ensures

pub returns-in-None : goal.returns-in-None
returns-in-None c =
    let e = c.args.mib.now.entities in
    let frame = c.args.frame.now in
    appended_on_ok c.append_drop.result c.args.steps.now.items c.push.new.self.items (step.Tags c.args.tags ∷ [])
    (dropped NoMapper) (from_tags e c.args.port frame c.args.tags.items) c.append_drop.new.steps.items
    c.in_ok-push.ensures.items (tags_drop e c.args.port frame c.args.tags.items c.in-None.ensures) c.append_drop.ensures
