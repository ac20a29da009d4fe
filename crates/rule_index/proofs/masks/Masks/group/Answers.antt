use Rattle.std.proofs.Common.{◌≡◌, List, take, subst}
use Rattle.std.proofs.lemmas.List.{take_all}
use Rattle.rule_index.specs.declared.row.Row.{Row}
use Rattle.rule_index.specs.Built.{IsGrouping}
use Rattle.rule_index.proofs.masks.Masks.group.Goals as goal

pub returns : goal.returns
returns c =
    let all : take c.loop-place.place c.args.rows.now ≡ c.args.rows.now = take_all c.loop-place.place c.args.rows.now c.loop-place-test.false in
    let P : List Row → Type 0 = λ rows. IsGrouping c.loop-place.self rows in
    let is = c.loop-place.invariant in
    subst P all (record { tags = is.tags; types = is.types; outer = is.outer; inner = is.inner })
