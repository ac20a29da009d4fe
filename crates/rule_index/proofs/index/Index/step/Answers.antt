use Rattle.std.proofs.Common.{◌≡◌, ◌<◌, ℕ, List, [], length, map, ap, sym, ◌∙◌, arith}
use Rattle.std.specs.Prelude.{slice_set}
use Rattle.std.proofs.lemmas.List.{length-map}
use Rattle.std.proofs.lemmas.Option.{get_or_from_slice_get, slice_get_within}
use Rattle.vlan_rule.specs.declared.entry.Entry.{Entry}
use Rattle.rule_index.proofs.index.Index.step.Goals as goal

pub returns-in-Some : goal.returns-in-Some
returns-in-Some c =
    let bytes : Entry → List ℕ = λ entry. entry.0 in
    let old = c.args.self.now in
    let table = c.args.table.now in
    let place = c.args.place in
    let entry = c.in-Some.entry.0 in
    let set = c.in_ok-set_entry.ensures in
    let held = c.in-Some.ensures.2 in
    let is : map bytes c.deref.result.now ≡ old = ap (map bytes) c.deref.ensures.value ∙ c.self.view_is in
    let within : place < length old =
    omega (arith, c.in-Some.ensures.0, length-map c.deref.result.now bytes, ap (λ (es : List (List ℕ)). length es) is) in (
      set.2,
      record {
        place = place;
        first = c.requires;
        within = (within, slice_get_within table place entry held);
        there = set.1;
        entries = set.0 ∙ ap (λ (e : List ℕ). slice_set old place e) (sym (get_or_from_slice_get table place entry [] held));
      },
    )
