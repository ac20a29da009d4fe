use Rattle.std.proofs.Common.{[], ◌∷◌, List, refl, ap, ◌∙◌}
use Rattle.tag_view.specs.Tag.{TagFields}
use Rattle.pmapper.specs.Mapper.{priority_of, unmarked_of}
use Rattle.managed_entity.specs.Shown.{mapper_instance}
use Rattle.frame_meaning.specs.declared.reason.Reason.TheVariants.{NullPointer}
use Rattle.explain.specs.declared.step.Step.TheVariants as step
use Rattle.explain.specs.Priority.{priority_origin}
use Rattle.explain.specs.Steps.{dropped, from_mapper, from_pointer}
use Rattle.explain.proofs.Appended.{appended_on_ok}
use Rattle.explain.proofs.Stages.{mapper_drops, mapper_leads}
use Rattle.explain.proofs.explaining.append_mapper.Goals as goal

pub returns-in-Some : goal.returns-in-Some
returns-in-Some c =
    let e = c.args.mib.now.entities in
    let m = c.args.mapper.now in
    let priority = c.priority-priority.result in
    let origin = c.priority_origin-origin.result in
    let behind = from_pointer e c.args.leaving c.in-Some.pointer in
    let is_priority = c.priority-priority.ensures.value ∙ ap (λ (tags : List TagFields). priority_of (unmarked_of m) tags c.args.dscp) c.tags-2.ensures.value in
    let is_origin = c.priority_origin-origin.ensures ∙ ap (λ (tags : List TagFields). priority_origin (unmarked_of m) tags c.args.dscp) c.tags.ensures.value in
    appended_on_ok c.append_pointer.result c.args.steps.now.items c.push.new.self.items (step.Mapper c.args.number ∷ [])
    (step.Priority priority origin ∷ behind) (from_mapper e c.args.leaving c.args.dscp (mapper_instance c.args.number m)) c.append_pointer.new.steps.items
    c.in_ok-push.ensures.items
    (mapper_leads e c.args.leaving c.args.dscp c.args.number m priority origin c.in-Some.pointer is_priority is_origin (c.in-Some.ensures c.args.number))
    (appended_on_ok c.append_pointer.result c.push.new.self.items c.push-2.new.self.items (step.Priority priority origin ∷ [])
    behind (step.Priority priority origin ∷ behind) c.append_pointer.new.steps.items c.in_ok-push-2.ensures.items refl c.append_pointer.ensures)

pub returns-in-None : goal.returns-in-None
returns-in-None c =
    let e = c.args.mib.now.entities in
    let m = c.args.mapper.now in
    let priority = c.priority-priority.result in
    let origin = c.priority_origin-origin.result in
    let behind = dropped NullPointer in
    let is_priority = c.priority-priority.ensures.value ∙ ap (λ (tags : List TagFields). priority_of (unmarked_of m) tags c.args.dscp) c.tags-2.ensures.value in
    let is_origin = c.priority_origin-origin.ensures ∙ ap (λ (tags : List TagFields). priority_origin (unmarked_of m) tags c.args.dscp) c.tags.ensures.value in
    appended_on_ok c.append_drop.result c.args.steps.now.items c.push.new.self.items (step.Mapper c.args.number ∷ [])
    (step.Priority priority origin ∷ behind) (from_mapper e c.args.leaving c.args.dscp (mapper_instance c.args.number m)) c.append_drop.new.steps.items
    c.in_ok-push.ensures.items
    (mapper_drops e c.args.leaving c.args.dscp c.args.number m priority origin is_priority is_origin (c.in-None.ensures c.args.number))
    (appended_on_ok c.append_drop.result c.push.new.self.items c.push-2.new.self.items (step.Priority priority origin ∷ [])
    behind (step.Priority priority origin ∷ behind) c.append_drop.new.steps.items c.in_ok-push-2.ensures.items refl c.append_drop.ensures)
