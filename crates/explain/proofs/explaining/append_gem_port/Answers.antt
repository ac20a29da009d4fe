use Rattle.std.proofs.Common.{arith, [], ◌∷◌, ◌∙◌}
use Rattle.managed_entity.specs.Shown.{gem_port_instance}
use Rattle.frame_meaning.specs.declared.verdict.Verdict.TheVariants.{Forward}
use Rattle.explain.specs.declared.step.Step.TheVariants as step
use Rattle.explain.specs.Steps.{dropped, from_gem_port}
use Rattle.explain.proofs.Appended.{appended, appended_on_ok}
use Rattle.explain.proofs.Stages.{gem_port_carries, gem_port_drops}
use Rattle.explain.proofs.explaining.append_gem_port.Goals as goal

pub returns-in_ok-push-in-Ok : goal.returns-in_ok-push-in-Ok
returns-in_ok-push-in-Ok c =
    let n = c.args.instance in
    let gem = c.args.gem.now in
    c.in_ok-push-in-Ok.ensures.items
    ∙ appended c.args.steps.now.items c.push.new.self.items (step.GemPort n gem.port_id gem.direction ∷ [])
    (step.Verdict (Forward c.in-Ok.gem c.args.leaving) ∷ []) (from_gem_port c.args.leaving (gem_port_instance n gem)) c.in_ok-push.ensures.items
    (gem_port_carries c.args.leaving n gem c.in-Ok.gem (omega arith) (c.in-Ok.ensures n))

pub returns-in-Err : goal.returns-in-Err
returns-in-Err c =
    let n = c.args.instance in
    let gem = c.args.gem.now in
    appended_on_ok c.append_drop.result c.args.steps.now.items c.push.new.self.items (step.GemPort n gem.port_id gem.direction ∷ [])
    (dropped c.in-Err.reason) (from_gem_port c.args.leaving (gem_port_instance n gem)) c.append_drop.new.steps.items c.in_ok-push.ensures.items
    (gem_port_drops c.args.leaving n gem c.in-Err.reason (omega arith) (c.in-Err.ensures n)) c.append_drop.ensures
