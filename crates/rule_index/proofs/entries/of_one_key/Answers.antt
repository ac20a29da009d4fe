use Rattle.std.proofs.Common.{◌<◌, ℕ, List, [], length, sym, subst, arith, refl}
use Rattle.std.proofs.lemmas.List.{get_or-map}
use Rattle.vlan_rule.specs.declared.entry.Entry.{Entry}
use Rattle.rule_index.specs.Order.{IsAlike}
use Rattle.rule_index.proofs.entries.of_one_key.Goals as goal

pub returns-then-have_one_key : goal.returns-then-have_one_key
returns-then-have_one_key c =
    let bytes : Entry → List ℕ = λ entry. entry.0 in
    let place = c.args.place in
    let within : place < length c.args.entries.now = omega (arith, c.if-entries-place.false) in
    let P : List ℕ → Type 0 = λ e. IsAlike e c.in_ok-entry.entry.0 in (
      within,
      subst P (sym (get_or-map bytes c.args.entries.now place (record { 0 = [] }) [] within)) (c.if-have_one_key.ensures refl),
      sym c.in_ok-entry.ensures,
    )
