use Rattle.std.proofs.Common.{◌≡◌, ◌∙◌, ap}
use Rattle.managed_entity.specs.Shown.{gem_port_instance}
use Rattle.explain_findings.specs.Reach.{Reached, numbers, reached}
use Rattle.explain_findings.proofs.Growing.{shared_is}
use Rattle.explain_findings.proofs.gem_port.shared_port_id.Goals as goal

pub returns-in_err-first : goal.returns-in_err-first
unfolding reached
returns-in_err-first c =
    let gem = gem_port_instance c.args.number c.args.gem.now in
    let all : c.deref.result.now ≡ numbers c.args.mib.now.entities.gem_ports = c.deref.ensures.value ∙ ap (λ (r : Reached). r.all_gem_ports) (c.reach.view_is ∙ c.requires) in
    c.from_residual.ensures ∙ shared_is c.args.mib.now.entities gem c.id_of-port_id.result c.deref.result.now c.first_of_port_id.result _
    (c.id_of-port_id.ensures c.args.number) all c.first_of_port_id.ensures c.in_err-first.ensures

pub returns : goal.returns
unfolding reached
returns c =
    let gem = gem_port_instance c.args.number c.args.gem.now in
    let all : c.deref.result.now ≡ numbers c.args.mib.now.entities.gem_ports = c.deref.ensures.value ∙ ap (λ (r : Reached). r.all_gem_ports) (c.reach.view_is ∙ c.requires) in
    shared_is c.args.mib.now.entities gem c.id_of-port_id.result c.deref.result.now c.first_of_port_id.result _
    (c.id_of-port_id.ensures c.args.number) all c.first_of_port_id.ensures c.in_ok-first.ensures
