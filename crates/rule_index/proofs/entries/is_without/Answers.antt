use Rattle.std.proofs.Common.{◌≡◌, ◌+◌, ℕ, [], List, length, map, drop, ap, sym, ◌∙◌, arith}
use Rattle.std.proofs.lemmas.Bool.{eqb-true}
use Rattle.std.proofs.lemmas.List.{drop-map, get_or-drop, length-map, take_rest}
use Rattle.vlan_rule.specs.declared.entry.Entry.{Entry}
use Rattle.vlan_rule.specs.Choice.{entry_at}
use Rattle.rule_index.proofs.Indexed.{without-alone}
use Rattle.rule_index.proofs.entries.is_without.Goals as goal

next-entry : (entries : List Entry) (k : ℕ) → entry_at (map (λ (entry : Entry). entry.0) (drop 1 entries)) k ≡ entry_at (map (λ (entry : Entry). entry.0) entries) (k + 1)
next-entry entries k =
    let bytes : Entry → List ℕ = λ entry. entry.0 in
    let next : 1 + k ≡ k + 1 = omega arith in
    ap (λ es. entry_at es k) (sym (drop-map bytes 1 entries)) ∙ get_or-drop 1 (map bytes entries) k [] ∙ ap (λ n. entry_at (map bytes entries) n) next

pub returns : goal.returns
returns c = λ same.
    let bytes : Entry → List ℕ = λ entry. entry.0 in
    let entries = c.args.entries.now in
    let table = c.args.table.now in
    let long = length-map entries bytes in
    let ends : c.first_other.result ≡ length table = eqb-true _ _ same ∙ c.len-2.ensures.value in
    let more : length entries ≡ length table + 1 = omega (arith, c.if-entries-len.false, c.len.ensures.value) in (
      omega (arith, more, c.requires.within),
      without-alone (map bytes entries) table c.args.place (long ∙ more) c.requires.within c.requires.same
          (λ k h l. sym (next-entry entries k) ∙ ap (λ (es : List Entry). entry_at (map bytes es) k) (sym (take_rest entries 1)) ∙ c.first_other.ensures.same k h (omega (arith, l, ends))),
    )
