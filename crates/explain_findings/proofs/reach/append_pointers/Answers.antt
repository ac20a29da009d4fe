use Rattle.std.proofs.Common.{◌∙◌, ◌++◌, List, ℕ, ap}
use Rattle.std.proofs.lemmas.Result.{on_ok_weaker}
use Rattle.managed_entity.specs.Shown.{mapper_instance}
use Rattle.explain_findings.proofs.Growing.{pointers_there}
use Rattle.explain_findings.proofs.reach.append_pointers.Goals as goal

pub returns-in-Some : goal.returns-in-Some
returns-in-Some c =
    let mapper = mapper_instance c.args.number c.in-Some.mapper.now in
    let are = pointers_there c.args.mib.now.entities c.args.number mapper c.pointers.result c.in-Some.ensures (c.pointers.ensures c.args.number) in
    on_ok_weaker c.append_all.result (λ is. is ∙ ap (λ (ns : List ℕ). c.args.list.now.items ++ ns) are) c.append_all.ensures
