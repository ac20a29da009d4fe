use Rattle.std.proofs.Common.{◌≡◌, [], List, length, map, refl, ap, sym, ◌∙◌, arith, subst}
use Rattle.vlan_rule.specs.declared.entry.Entry.{Entry}
use Rattle.rule_index.specs.declared.row.Row.{Row}
use Rattle.rule_index.specs.Built.{IsBuilt}
use Rattle.rule_index.specs.Order.{rows_from, rows_of}
use Rattle.rule_index.proofs.index.Index.new.Goals as goal

no-rows : rows_of [] ≡ []
unfolding rows_of rows_from
no-rows = refl

pub invariant_of-result : goal.invariant_of-result
invariant_of-result c =
    let none = c.in_ok-with_capacity-2.ensures.items in
    let P : List Row → Type 0 = λ rows. IsBuilt c.rebuild.new.self rows in (
      omega (arith, c.in_ok-with_capacity.ensures.exact),
      omega (arith, c.in_ok-with_capacity-2.ensures.exact),
      record {
        in_order = none ∙ sym (ap (λ (entries : List Entry). rows_of (map (λ entry. entry.0) entries)) c.in_ok-with_capacity.ensures.items ∙ no-rows);
        few = omega (arith, ap (λ (rows : List Row). length rows) none);
        built = subst P (sym none) c.rebuild.ensures;
      },
    )
