use Rattle.std.proofs.Common.{◌∙◌, ap}
use Rattle.std.specs.Prelude.{is_some, slice_get}
use Rattle.std.specs.Option.{option_and_then}
use Rattle.mib_state.proofs.Place.{place_found}
use Rattle.mib_state.proofs.instances.Instances.place_of.Goals as goal

pub returns-clause-instance : goal.returns-clause-instance
returns-clause-instance g c =
    let l = c.args.self.now in
    let found = c.search.ensures in
    ap (option_and_then (slice_get l)) c.ok.ensures.value ∙ (place_found l c.args.number c.search.result found.found found.absent found.instance).instance

pub returns-clause-held : goal.returns-clause-held
returns-clause-held g c =
    let l = c.args.self.now in
    let found = c.search.ensures in
    ap is_some c.ok.ensures.value ∙ (place_found l c.args.number c.search.result found.found found.absent found.instance).held

pub returns-clause-place : goal.returns-clause-place
returns-clause-place g c = c.ok.ensures.value ∙ c.search.ensures.place
