use Rattle.std.proofs.Common.{◌≡◌, ◌∙◌, List, Some, ap, length, map, refl, sym}
use Rattle.std.specs.Prelude.{slice_get}
use Rattle.std.specs.Option.{option_map}
use Rattle.std.proofs.lemmas.Bool.{ltb-true}
use Rattle.std.proofs.lemmas.Option.{slice_get-map, slice_get_read}
use Rattle.mib_state.specs.declared.instances.Row.{Row}
use Rattle.managed_entity.specs.Instance.{Instance, shown_as}
use Rattle.mib_state.proofs.Place.{found_at}
use Rattle.mib_state.proofs.instances.Instances.at.Goals as goal

pub returns-clause-found : goal.returns-clause-found
returns-clause-found g c =
    let shown : Row g.row.E.Denot → Instance = λ row. shown_as row.number (g.E.ManagedEntity.values row.entity) (g.E.ManagedEntity.entries row.entity) in
    let rows = c.self.inside.rows.items in
    let place = c.args.place in
    let row = c.in_ok-row.row.now in
    let read = c.in_ok-row.ensures.lookup in
    let seen = c.deref.result.now in
    let held : slice_get rows place ≡ Some row = ap (λ (l : List (Row g.row.E.Denot)). slice_get l place) (sym c.deref.ensures.value) ∙ slice_get_read seen (length seen) place row refl (ltb-true _ _ (sym read.0)) read.1 in
    let there : slice_get (map shown rows) place ≡ Some (shown row) = slice_get-map shown rows place ∙ ap (λ o. option_map shown o) held in
    rw (← c.self.view_is) (found_at (map shown rows) place (shown row) c.self.invariant.0 there ∙ sym there)
