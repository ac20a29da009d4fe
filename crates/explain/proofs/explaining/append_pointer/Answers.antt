use Rattle.std.proofs.Common.{[], ◌∷◌}
use Rattle.managed_entity.specs.Shown.{interwork_instance}
use Rattle.frame_meaning.specs.declared.reason.Reason.TheVariants.{NoInterwork}
use Rattle.explain.specs.declared.step.Step.TheVariants as step
use Rattle.explain.specs.Steps.{dropped, from_interwork, from_pointer}
use Rattle.explain.proofs.Appended.{appended_on_ok}
use Rattle.explain.proofs.Stages.{pointer_drops, pointer_leads}
use Rattle.explain.proofs.explaining.append_pointer.Goals as goal

pub returns-in-Some : goal.returns-in-Some
returns-in-Some c =
    let e = c.args.mib.now.entities in
    let pointer = c.args.pointer in
    let point = interwork_instance pointer c.in-Some.point.now in
    appended_on_ok c.append_interwork.result c.args.steps.now.items c.push.new.self.items (step.Pointer pointer ∷ [])
    (from_interwork e c.args.leaving point) (from_pointer e c.args.leaving pointer) c.append_interwork.new.steps.items
    c.in_ok-push.ensures.items (pointer_leads e c.args.leaving pointer point c.in-Some.ensures) c.append_interwork.ensures

pub returns-in-None : goal.returns-in-None
returns-in-None c =
    let e = c.args.mib.now.entities in
    let pointer = c.args.pointer in
    appended_on_ok c.append_drop.result c.args.steps.now.items c.push.new.self.items (step.Pointer pointer ∷ [])
    (dropped NoInterwork) (from_pointer e c.args.leaving pointer) c.append_drop.new.steps.items
    c.in_ok-push.ensures.items (pointer_drops e c.args.leaving pointer c.in-None.ensures) c.append_drop.ensures
