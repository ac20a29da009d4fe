use Rattle.std.proofs.Common.{◌≡◌, ℕ, List, map, ap, sym, ◌∙◌, arith}
use Rattle.std.proofs.lemmas.List.{length-map}
use Rattle.vlan_rule.specs.declared.entry.Entry.{Entry}
use Rattle.rule_index.proofs.Following.{same-table}
use Rattle.rule_index.proofs.index.Index.other_place.Goals as goal

pub returns-then-place-len-2 : goal.returns-then-place-len-2
returns-then-place-len-2 c =
    let bytes : Entry → List ℕ = λ entry. entry.0 in
    let here = c.deref.result.now in
    let is : map bytes here ≡ c.args.self.now = ap (map bytes) c.deref.ensures.value ∙ c.self.view_is in
    sym is ∙ same-table (map bytes here) c.args.table.now c.first_other-place.result
    (omega (arith, length-map here bytes, c.deref.ensures.len, c.len.ensures, c.if-place-len.true))
    (omega (arith, c.if-place-len-2.true, c.len-then-place-len.ensures.value)) c.first_other-place.ensures.same
