use Rattle.std.proofs.Common.{ℕ, List, true, ◌≤◌, arith, length, slice_index, subst}
use Rattle.std.specs.Prelude.{All}
use Rattle.std.proofs.lemmas.Grind.{common_steps}
use Rattle.std.proofs.lemmas.List.{take_all}
use Rattle.std.proofs.lemmas.List.Elements.{All-more}
use Rattle.migration_check.specs.Migration.{AreHitlessAt}
use Rattle.migration_check.specs.Telling.{Tells}
use Rattle.migration_check.proofs.Told.{yes}
use Rattle.migration_check.proofs.migration.are_hitless_at_all.Goals as goal

pub loop-place-preserved : goal.loop-place-preserved
loop-place-preserved c =
    let e = c.args.before.now.entities in
    let g = c.args.end.now.entities in
    let port = slice_index c.args.ports.now c.loop-place.place in
    All-more (AreHitlessAt e c.args.requests.now g) c.args.ports.now c.loop-place.place 0 (omega arith) c.loop-place.invariant
    (yes c.in_ok-are_hitless.are_hitless (AreHitlessAt e c.args.requests.now g port) c.if-not-are_hitless.false c.in_ok-are_hitless.ensures)

pub returns : goal.returns
returns c =
    let past : length c.args.ports.now ≤ c.loop-place.place = grind (arith, common_steps) in
    subst (λ (ports : List ℕ). Tells true (All (AreHitlessAt c.args.before.now.entities c.args.requests.now c.args.end.now.entities) ports))
    (take_all c.loop-place.place c.args.ports.now past) c.loop-place.invariant
