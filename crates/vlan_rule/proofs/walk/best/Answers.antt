use Rattle.std.proofs.Common.{◌≡◌, ◌+◌, ℕ, List, [], Option, ap, map, subst, sym, ◌∙◌}
use Rattle.std.proofs.lemmas.List.{get_or-map}
use Rattle.vlan_rule.specs.Best.{IsBest}
use Rattle.vlan_rule.specs.Choice.{entry_at, matches, rank_at}
use Rattle.vlan_rule.specs.Meaning.{rank_number, rank_of}
use Rattle.vlan_rule.specs.declared.table.Row.{Row}
use Rattle.vlan_rule.proofs.Chosen.{step}
use Rattle.vlan_rule.proofs.walk.best.Goals as goal

pub loop-place-preserved : goal.loop-place-preserved
loop-place-preserved c =
    let row = c.index-rows-place.result in
    let place = c.loop-place.place in
    let shown : Row → List ℕ = λ row. row.entry.0 in
    let entries = map shown c.args.rows.now in
    let test = matches c.args.input_tpid c.args.tags.now c.args.ethertype in
    let here : entry_at entries place ≡ row.entry.0 = get_or-map shown c.args.rows.now place row [] c.loop-place-test.true ∙ ap shown (sym c.index-rows-place.is) in
    let passes : test (entry_at entries place) ≡ c.matches-matches.result =
    ap test here ∙ sym (c.matches-matches.ensures.of_entry row.entry.0 row.read) in
    let rank : rank_at entries place ≡ c.rank.result =
    ap (λ (e : List ℕ). rank_number (rank_of e)) here ∙ sym c.rank.ensures in
    let IsBestThen : Option (ℕ × ℕ) → Type 0 = λ best. IsBest test entries (place + 1) best in
    subst IsBestThen (sym c.better-best.ensures) (step test entries place c.loop-place.best c.matches-matches.result c.rank.result c.loop-place.invariant passes rank)
