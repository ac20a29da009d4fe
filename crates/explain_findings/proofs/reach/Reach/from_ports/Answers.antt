use Rattle.std.proofs.Common.{◌∙◌, ap}
use Rattle.std.specs.List.{filter_map, flat_map}
use Rattle.explain_findings.specs.Reach.{gem_port_pointer, pointers_of}
use Rattle.explain_findings.proofs.Growing.{from_ports_is}
use Rattle.explain_findings.proofs.reach.Reach.from_ports.Goals as goal

pub returns : goal.returns
returns c =
    let e = c.args.mib.now.entities in
    from_ports_is e c.args.ports.now _ _ _ _ _ c.in_ok-tables.ensures c.in_ok-mappers.ensures
    (c.in_ok-points.ensures ∙ ap (flat_map (pointers_of e)) c.deref.ensures.value)
    (c.in_ok-gem_ports.ensures ∙ ap (filter_map (gem_port_pointer e)) c.deref-2.ensures.value)
    c.in_ok-all_gem_ports.ensures
