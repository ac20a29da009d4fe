use Rattle.std.proofs.Common.{◌++◌, ◌∙◌, List, ap, sym}
use Rattle.std.proofs.lemmas.Result.{on_ok_weaker}
use Rattle.managed_entity.specs.declared.class.Class.{Class}
use Rattle.managed_entity.specs.declared.class.Class.TheVariants as class
use Rattle.managed_entity.specs.Shown.{gem_port_instance, mapper_instance}
use Rattle.explain_findings.specs.declared.finding.Finding.{Finding}
use Rattle.explain_findings.specs.Findings.{instance_findings}
use Rattle.explain_findings.proofs.Growing.{instance_is}
use Rattle.explain_findings.proofs.gathering.append_instance.Goals as goal

pub returns-in-Some : goal.returns-in-Some
returns-in-Some c =
    let i = mapper_instance c.args.number c.in-Some.mapper.now in
    let are = instance_is c.args.mib.now.entities class.Mapper c.args.number i c.in-Some.ensures ∙ ap (λ (k : Class). instance_findings c.args.mib.now.entities k c.args.number) (sym c.in-Mapper.is) in
    on_ok_weaker c.append_mapper.result (λ is. is ∙ ap (λ (fs : List Finding). c.args.findings.now.items ++ fs) are) c.append_mapper.ensures

pub returns-in-Some-gem_port : goal.returns-in-Some-gem_port
returns-in-Some-gem_port c =
    let i = gem_port_instance c.args.number c.in-Some-gem_port.gem.now in
    let are = instance_is c.args.mib.now.entities class.GemPort c.args.number i c.in-Some-gem_port.ensures ∙ ap (λ (k : Class). instance_findings c.args.mib.now.entities k c.args.number) (sym c.in-GemPort.is) in
    on_ok_weaker c.append_gem_port.result (λ is. is ∙ ap (λ (fs : List Finding). c.args.findings.now.items ++ fs) are) c.append_gem_port.ensures
