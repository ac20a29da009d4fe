use Rattle.std.proofs.Common.{[], ◌∷◌, ◌++◌, ap, sym, ◌∙◌}
use Rattle.tag_view.specs.Frame.{Reading}
use Rattle.explain.specs.declared.step.Step.TheVariants as step
use Rattle.explain.specs.Steps.{from_read, from_table, from_tags}
use Rattle.explain.proofs.Appended.{appended_on_ok}
use Rattle.explain.proofs.Cloned.{same_reading}
use Rattle.explain.proofs.Stages.{read_by_table, read_plainly}
use Rattle.explain.proofs.explaining.append_read.Goals as goal

pub returns-in-Some : goal.returns-in-Some
returns-in-Some c =
    let e = c.args.mib.now.entities in
    let frame = c.args.frame in
    let (old, new, old_is, new_is, parts) = c.in_ok-clone.ensures.cases in
    let same = sym new_is ∙ same_reading old.bytes new.bytes old.tags.items new.tags.items _ parts.0 parts.1 (λ x y is. is) ∙ old_is in
    appended_on_ok c.append_table.result c.args.steps.now.items c.push.new.self.items (step.Read frame ∷ [])
    (from_table e c.args.port c.in-Some.table frame) (from_read e c.args.port c.args.table.now frame) c.append_table.new.steps.items
    (c.in_ok-push.ensures.items ∙ ap (λ (f : Reading). c.args.steps.now.items ++ step.Read f ∷ []) same)
    (read_by_table e c.args.port c.args.table.now c.in-Some.table frame c.in-Some.is) c.append_table.ensures

pub returns-in-None : goal.returns-in-None
returns-in-None c =
    let e = c.args.mib.now.entities in
    let frame = c.args.frame in
    let (old, new, old_is, new_is, parts) = c.in_ok-clone.ensures.cases in
    let same = sym new_is ∙ same_reading old.bytes new.bytes old.tags.items new.tags.items _ parts.0 parts.1 (λ x y is. is) ∙ old_is in
    appended_on_ok c.append_tags.result c.args.steps.now.items c.push.new.self.items (step.Read frame ∷ [])
    (from_tags e c.args.port frame c.received.result.items) (from_read e c.args.port c.args.table.now frame) c.append_tags.new.steps.items
    (c.in_ok-push.ensures.items ∙ ap (λ (f : Reading). c.args.steps.now.items ++ step.Read f ∷ []) same)
    (read_plainly e c.args.port c.args.table.now frame c.received.result.items c.in-None.is c.received.ensures) c.append_tags.ensures
