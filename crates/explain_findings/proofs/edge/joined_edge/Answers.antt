use Rattle.std.proofs.Common.{◌≡◌, ◌∙◌, true, false, ap, sym}
use Rattle.std.specs.Prelude.{is_none}
use Rattle.managed_entity.specs.Shown.{mapper_instance}
use Rattle.mib_state.specs.Entities.{find}
use Rattle.explain_findings.specs.Graph.{begins_with}
use Rattle.explain_findings.proofs.Edges.{edge_is, no_edge}
use Rattle.explain_findings.proofs.Growing.{is_none-found}
use Rattle.explain_findings.proofs.edge.joined_edge.Goals as goal

pub returns-then-not-begins_with : goal.returns-then-not-begins_with
returns-then-not-begins_with c =
    let first : begins_with c.args.priority c.priorities_to-priorities.result.items ≡ false =
    ap (begins_with c.args.priority) (sym c.as_slice.ensures.value) ∙ sym c.begins_with.ensures ∙ c.if-not-begins_with.true in
    no_edge c.args.mib.now.entities (mapper_instance c.args.number c.args.mapper.now) c.args.priority c.args.pointer c.priorities_to-priorities.result.items
    (c.priorities_to-priorities.ensures c.args.number) first

pub returns : goal.returns
returns c =
    let e = c.args.mib.now.entities in
    let first : begins_with c.args.priority c.priorities_to-priorities.result.items ≡ true =
    ap (begins_with c.args.priority) (sym c.as_slice.ensures.value) ∙ sym c.begins_with.ensures ∙ c.if-not-begins_with.false in
    let missing : c.is_none.result ≡ is_none (find c.args.pointer e.interworks) = is_none-found _ c.interwork.result (find c.args.pointer e.interworks) c.is_none.result c.is_none.ensures c.interwork.ensures in
    rw (c.node.ensures, c.node-2.ensures)
    (edge_is e (mapper_instance c.args.number c.args.mapper.now) c.args.priority c.args.pointer c.priorities_to-priorities.result.items c.is_none.result
    (c.priorities_to-priorities.ensures c.args.number) first missing)
