use Rattle.std.proofs.Common.{◌≡◌, ◌<◌, ℕ, List, Some, length, map, ap, sym, subst, ◌∙◌, arith}
use Rattle.std.specs.Prelude.{slice_get}
use Rattle.std.specs.List.{remove}
use Rattle.std.proofs.lemmas.List.{length-map}
use Rattle.vlan_rule.specs.declared.entry.Entry.{Entry}
use Rattle.vlan_rule.specs.Choice.{entry_at}
use Rattle.vlan_rule.proofs.Places.{map-remove}
use Rattle.rule_index.specs.declared.row.Row.{Row}
use Rattle.rule_index.specs.Built.{IsIndexOf}
use Rattle.rule_index.specs.Followed.{IsOneMore}
use Rattle.rule_index.specs.Order.{lowered, order_of}
use Rattle.rule_index.proofs.Following.{numbered-at}
use Rattle.rule_index.proofs.Indexed.{deleted-index}
use Rattle.rule_index.proofs.Inserted.{deleted, one-more}
use Rattle.rule_index.proofs.Moving.{written}
use Rattle.rule_index.proofs.index.Index.delete_at.Goals as goal

bytes : Entry → List ℕ
bytes entry = entry.0

pub invariant_of-self : goal.invariant_of-self
unfolding bytes
invariant_of-self c =
    let entries = c.self.inside.entries.items in
    let kept = map bytes entries in
    let rows = c.self.inside.rows.items in
    let place = c.args.place in
    let n = c.in_ok-number.number in
    let inside : place < length kept = subst (λ (es : List (List ℕ)). place < length es) (sym c.self.view_is) c.requires in
    let at : slice_get (order_of kept) n ≡ Some place = numbered-at kept c.deref.result.now place n (c.deref.ensures.value ∙ c.self.invariant.2.in_order) c.in_ok-number.ensures in
    let less : map bytes c.remove.new.self.items ≡ remove kept place = ap (map bytes) c.remove.ensures.items ∙ map-remove bytes entries place in
    let new = c.close_gap.new.rows in
    let gap : new ≡ map (λ row. lowered place row) (remove rows n) =
    c.close_gap.ensures ∙ ap (map (λ (row : Row). lowered place row)) (c.deref_mut.ensures.value ∙ c.remove-2.ensures.items ∙ ap (λ k. remove rows k) c.from.ensures) in
    let same : length new ≡ c.remove-2.new.self.len = omega (arith, ap (λ (rs : List Row). length rs) c.close_gap.ensures, length-map c.deref_mut.result.now (λ (row : Row). lowered place row), c.deref_mut.ensures.len) in
    let P : List (List ℕ) → Type 0 = λ es. IsIndexOf es new c.remove-3.new.self in (
      omega (arith, c.remove.ensures.capacity, c.self.invariant.0),
      omega (arith, c.remove-2.ensures.capacity, c.self.invariant.1),
      rw (written new c.remove-2.new.self.items c.remove-2.new.self.len same) (subst P (sym less)
          (deleted-index kept rows new c.self.inside.masks c.remove-3.new.self place n c.self.invariant.2 inside at gap
          (λ before after row long. c.remove-3.ensures before after row (long ∙ sym c.from-2.ensures)))),
    )

pub returns : goal.returns
unfolding bytes
returns c =
    let entries = c.self.inside.entries.items in
    let kept = map bytes entries in
    let place = c.args.place in
    let n = c.in_ok-number.number in
    let inside : place < length kept = subst (λ (es : List (List ℕ)). place < length es) (sym c.self.view_is) c.requires in
    let at : slice_get (order_of kept) n ≡ Some place = numbered-at kept c.deref.result.now place n (c.deref.ensures.value ∙ c.self.invariant.2.in_order) c.in_ok-number.ensures in
    let less : map bytes c.remove.new.self.items ≡ remove kept place = ap (map bytes) c.remove.ensures.items ∙ map-remove bytes entries place in
    let more : IsOneMore (remove kept place) kept place n = one-more (remove kept place) kept place n (entry_at kept place) (deleted kept place n inside at) in
    let S : List (List ℕ) → Type 0 = λ es. IsOneMore (remove kept place) es place n in
    let V : List (List ℕ) → Type 0 = λ es. IsOneMore es c.args.self.now place n in
    (less ∙ ap (λ es. remove es place) c.self.view_is, subst V (sym less) (subst S c.self.view_is more))
