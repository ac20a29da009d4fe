use Rattle.std.proofs.Common.{subst, sym}
use Rattle.tag_view.specs.Dscp.{dscp_of}
use Rattle.port_plan.specs.Leaving.{IsPlaceFor, tags_made}
use Rattle.port_plan.proofs.Planned.{leaves, dropped_by_route, dropped_by_table}
use Rattle.port_plan.proofs.port_plan.PortPlan.decide.Goals as goal

pub returns-in-Ok-route-clause-leaves : goal.returns-in-Ok-route-clause-leaves
returns-in-Ok-route-clause-leaves c = λ e port frame planned of.
    let place = subst (λ rest. IsPlaceFor c.args.self.now (dscp_of rest) c.dscp_place-place.result) (sym of.behind) c.dscp_place-place.ensures.place in
    leaves e port c.in-Ok-route.gem frame (tags_made c.in-Ok.tagging) (c.in-Ok.ensures.tags e port frame planned of.ahead place)
    (c.in-Ok-route.ensures.gem e port (dscp_of frame.rest) planned place)

pub returns-in-Err-route-clause-dropped : goal.returns-in-Err-route-clause-dropped
returns-in-Err-route-clause-dropped c = λ e port frame planned of.
    let place = subst (λ rest. IsPlaceFor c.args.self.now (dscp_of rest) c.dscp_place-place.result) (sym of.behind) c.dscp_place-place.ensures.place in
    dropped_by_route e port frame (tags_made c.in-Ok.tagging) c.in-Err-route.reason (c.in-Ok.ensures.tags e port frame planned of.ahead place)
    (c.in-Err-route.ensures.gem e port (dscp_of frame.rest) planned place)

pub returns-in-Err-clause-dropped : goal.returns-in-Err-clause-dropped
returns-in-Err-clause-dropped c = λ e port frame planned of.
    dropped_by_table e port frame c.in-Err.reason (c.in-Err.ensures.reason e port frame planned of.ahead)
