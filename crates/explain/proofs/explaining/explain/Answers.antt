use Rattle.std.proofs.Common.{[], ◌∷◌, ◌++◌, List, ap, sym, subst, ◌∙◌}
use Rattle.frame_meaning.specs.Meaning.{meaning}
use Rattle.explain.specs.declared.step.Step.{Step}
use Rattle.explain.specs.declared.step.Step.TheVariants as step
use Rattle.explain.specs.Ends.{EndsWith}
use Rattle.explain.specs.Steps.{dropped, explained, from_read}
use Rattle.explain.proofs.Appended.{appended}
use Rattle.explain.proofs.Ends.{explained_ends}
use Rattle.explain.proofs.Stages.{explained_drop, explained_read}
use Rattle.explain.proofs.explaining.explain.Goals as goal
use Rattle.explain.proofs.explaining.explain.Goals.{in-Ok+in_ok-append_read-in-Ok, in-Err+in_ok-append_drop-in-Err}

pub returns-clause-steps : goal.returns-clause-steps
returns-clause-steps c =
    let e = c.args.mib.now.entities in
    let port = c.args.port in
    let bytes = c.args.bytes.now in
    let force = c.table_in_force.result in
    let table = c.at-table.result in
    elim c.match-view.branch [
      | in-Ok+in_ok-append_read-in-Ok w ↦ ap (λ (v : _). v.items) w.steps-is ∙ w.in_ok-append_read-in-Ok.ensures
          ∙ appended c.new-steps.result.items c.push.new.self.items (step.Table force ∷ []) (from_read e port table w.in-Ok.frame) (explained e port bytes)
          c.in_ok-push.ensures.items
          (explained_read e port bytes table force c.input_tpid.result w.in-Ok.frame c.at-table.ensures c.table_in_force.ensures.value c.input_tpid.ensures w.in-Ok.ensures.value)
          ∙ ap (λ (l : List Step). l ++ explained e port bytes) c.new-steps.ensures.items
      | in-Err+in_ok-append_drop-in-Err w ↦ ap (λ (v : _). v.items) w.steps-is ∙ w.in_ok-append_drop-in-Err.ensures
          ∙ appended c.new-steps.result.items c.push.new.self.items (step.Table force ∷ []) (dropped w.from.result) (explained e port bytes)
          c.in_ok-push.ensures.items
          (explained_drop e port bytes table force c.input_tpid.result w.in-Err.fault w.from.result c.at-table.ensures c.table_in_force.ensures.value c.input_tpid.ensures w.in-Err.ensures.value w.from.ensures)
          ∙ ap (λ (l : List Step). l ++ explained e port bytes) c.new-steps.ensures.items
    ]

pub returns-clause-last : goal.returns-clause-last
returns-clause-last c =
    let e = c.args.mib.now.entities in
    subst (EndsWith (meaning e c.args.port c.args.bytes.now)) (sym (returns-clause-steps c)) (explained_ends e c.args.port c.args.bytes.now)
