use Rattle.std.proofs.Common.{arith, [], ◌∷◌}
use Rattle.managed_entity.specs.Shown.{gem_port_instance, interwork_instance}
use Rattle.frame_meaning.specs.declared.reason.Reason.TheVariants.{NoGem}
use Rattle.explain.specs.declared.step.Step.TheVariants as step
use Rattle.explain.specs.Steps.{dropped, from_gem_port, from_interwork}
use Rattle.explain.proofs.Appended.{appended_on_ok}
use Rattle.explain.proofs.Stages.{interwork_drops, interwork_leads}
use Rattle.explain.proofs.explaining.append_interwork.Goals as goal

pub returns-in-Some : goal.returns-in-Some
returns-in-Some c =
    let e = c.args.mib.now.entities in
    let n = c.args.instance in
    let point = c.args.point.now in
    let gem = gem_port_instance point.gem_port_pointer c.in-Some.gem.now in
    appended_on_ok c.append_gem_port.result c.args.steps.now.items c.push.new.self.items (step.Interwork n point.gem_port_pointer ∷ [])
    (from_gem_port c.args.leaving gem) (from_interwork e c.args.leaving (interwork_instance n point)) c.append_gem_port.new.steps.items
    c.in_ok-push.ensures.items (interwork_leads e c.args.leaving n point gem (omega arith) c.in-Some.ensures) c.append_gem_port.ensures

pub returns-in-None : goal.returns-in-None
returns-in-None c =
    let e = c.args.mib.now.entities in
    let n = c.args.instance in
    let point = c.args.point.now in
    appended_on_ok c.append_drop.result c.args.steps.now.items c.push.new.self.items (step.Interwork n point.gem_port_pointer ∷ [])
    (dropped NoGem) (from_interwork e c.args.leaving (interwork_instance n point)) c.append_drop.new.steps.items
    c.in_ok-push.ensures.items (interwork_drops e c.args.leaving n point (omega arith) c.in-None.ensures) c.append_drop.ensures
