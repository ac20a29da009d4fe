use Rattle.std.proofs.Common.{◌≡◌, ◌<◌, ℕ, List, Some, length, map, sym, ap, subst, ◌∙◌}
use Rattle.std.specs.Prelude.{slice_get, slice_set}
use Rattle.std.proofs.lemmas.List.{map-set}
use Rattle.vlan_rule.specs.declared.entry.Entry.{Entry}
use Rattle.vlan_rule.specs.Choice.{entry_at}
use Rattle.rule_index.specs.Order.{order_of, rows_of, IsAlike}
use Rattle.rule_index.specs.Followed.{IsTreated}
use Rattle.rule_index.proofs.Following.{numbered-at, set-rows, treated}
use Rattle.rule_index.proofs.index.Index.set_entry.Goals as goal

bytes : Entry → List ℕ
bytes entry = entry.0

pub invariant_of-self : goal.invariant_of-self
unfolding bytes
invariant_of-self c =
    let entries = c.self.inside.entries.items in
    let place = c.args.place in
    let P : List (List ℕ) → Type 0 = λ es. (place < length es) × IsAlike (entry_at es place) c.args.entry.0 in
    let known : P (map bytes entries) = subst P (sym c.self.view_is) (c.requires.within, c.requires.alike) in (
      c.self.invariant.0,
      c.self.invariant.1,
      record {
        in_order = c.self.invariant.2.in_order ∙ sym (set-rows (map bytes entries) place c.args.entry.0 known.0 known.1)
            ∙ ap rows_of (sym (map-set bytes entries place c.args.entry));
        few = c.self.invariant.2.few;
        built = c.self.invariant.2.built;
      },
    )

pub returns : goal.returns
unfolding bytes
returns c =
    let entries = c.self.inside.entries.items in
    let old = c.args.self.now in
    let place = c.args.place in
    let entry = c.args.entry in
    let number = c.in_ok-number.number in
    let set : map bytes (slice_set entries place entry) ≡ slice_set old place entry.0 =
    map-set bytes entries place entry ∙ ap (λ es. slice_set es place entry.0) c.self.view_is in
    let at : slice_get (order_of old) number ≡ Some place =
    numbered-at old c.deref.result.now place number (c.deref.ensures.value ∙ c.self.invariant.2.in_order ∙ ap rows_of c.self.view_is) c.in_ok-number.ensures in
    let is : IsTreated old (map bytes (slice_set entries place entry)) number =
    treated old (map bytes (slice_set entries place entry)) place number entry.0 c.requires.within c.requires.alike set at in
    (set, ap (λ (order : List ℕ). slice_get order number) is.order ∙ at, is)
