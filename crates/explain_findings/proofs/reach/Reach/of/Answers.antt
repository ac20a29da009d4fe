use Rattle.std.proofs.Common.{◌∙◌, ap}
use Rattle.std.proofs.lemmas.Result.{IfOk-weaker}
use Rattle.explain_findings.specs.Reach.{reach_from}
use Rattle.explain_findings.proofs.Growing.{reached_is}
use Rattle.explain_findings.proofs.reach.Reach.of.Goals as goal

pub returns : goal.returns
returns c =
    let e = c.args.mib.now.entities in
    IfOk-weaker c.from_ports.result _ _ (λ reach is. is ∙ ap (reach_from e) (c.deref.ensures.value ∙ c.in_ok-ports.ensures) ∙ reached_is e) c.from_ports.ensures
