use Rattle.std.proofs.Common.{◌≡◌, ◌<◌, ◌+◌, ◌++◌, ◌∷◌, take, [], ℕ, List, Bool, true, cond, length, map, ap, sym, subst, ◌∙◌, refl, arith}
use Rattle.std.specs.List.{insert}
use Rattle.std.specs.Result.{is_ok}
use Rattle.std.proofs.lemmas.List.{length-map, map-append}
use Rattle.vlan_rule.specs.declared.entry.Entry.{Entry}
use Rattle.vlan_rule.specs.Choice.{entry_at}
use Rattle.vlan_rule.specs.Meaning.{rank_number, rank_of}
use Rattle.rule_index.specs.declared.row.Row.{Row}
use Rattle.rule_index.specs.Built.{IsIndexOf}
use Rattle.rule_index.specs.Followed.{IsOneMore}
use Rattle.rule_index.specs.Order.{up_to_rank}
use Rattle.rule_index.proofs.Found.{no_more_rows}
use Rattle.rule_index.proofs.Indexed.{added-index, last, number-is, row-is, IsLast}
use Rattle.rule_index.proofs.Inserted.{added, one-more, IsRowMore}
use Rattle.rule_index.proofs.index.Index.take_next.Goals as goal

bytes : Entry → List ℕ
bytes entry = entry.0

Agrees : List (List ℕ) → List (List ℕ) → Type 0
Agrees table entries = (k : ℕ) → k < length entries → entry_at entries k ≡ entry_at table k

pub insert-requires : goal.insert-requires
unfolding bytes Agrees
insert-requires c =
    let kept = map bytes c.self.inside.entries.items in
    let table = c.args.table.now in
    let e = c.in_ok-entry.entry.0 in
    let long : length kept ≡ c.len-place.result = omega (arith, length-map c.self.inside.entries.items bytes, c.len-place.ensures) in
    let is : IsLast kept table c.len-place.result e = last kept table c.len-place.result e long (omega (arith, c.if-len-place.false, c.len.ensures.value))
    (subst (Agrees table) (sym c.self.view_is) c.requires) c.in_ok-entry.ensures in
    let number : c.count_up_to-number.result ≡ up_to_rank (rank_number (rank_of e)) kept =
    number-is kept table c.len-place.result c.count_up_to-number.result c.number.result e c.in_ok-rule.rule.now.rank is c.count_up_to-number.ensures.value c.number.ensures c.in_ok-rule.ensures.1.rank in
    omega (arith, number, (added kept e).within, ap (λ (rows : List Row). length rows) c.self.invariant.2.in_order)

pub invariant_of-self : goal.invariant_of-self
unfolding bytes Agrees
invariant_of-self c =
    let entries = c.self.inside.entries.items in
    let kept = map bytes entries in
    let rows = c.self.inside.rows.items in
    let table = c.args.table.now in
    let e = c.in_ok-entry.entry.0 in
    let n = c.count_up_to-number.result in
    let row : Row = record { place = c.len-place.result; filter = c.in_ok-rule.rule.now.filter; ethertype = c.in_ok-rule.rule.now.ethertype } in
    let long : length kept ≡ c.len-place.result = omega (arith, length-map entries bytes, c.len-place.ensures) in
    let is : IsLast kept table c.len-place.result e = last kept table c.len-place.result e long (omega (arith, c.if-len-place.false, c.len.ensures.value))
    (subst (Agrees table) (sym c.self.view_is) c.requires) c.in_ok-entry.ensures in
    let number : n ≡ up_to_rank (rank_number (rank_of e)) kept =
    number-is kept table c.len-place.result n c.number.result e c.in_ok-rule.rule.now.rank is c.count_up_to-number.ensures.value c.number.ensures c.in_ok-rule.ensures.1.rank in
    let ok : is_ok c.insert.result ≡ true = c.insert.ensures.succeeds (omega (arith, c.self.invariant.1, ap (λ (rows : List Row). length rows) c.self.invariant.2.in_order, no_more_rows kept, long, c.if-len-place.false, c.len.ensures.value, c.len.ensures.limit)) in
    let made : c.insert.new.self.items ≡ insert rows n row = c.insert.ensures.items ∙ ap (λ (b : Bool). cond b (insert rows n row) rows) ok in
    let P : List (List ℕ) → Type 0 = λ es. IsIndexOf es c.insert.new.self.items c.insert-2.new.self in
    let grown : map bytes c.push_reserved.new.self.items ≡ kept ++ e ∷ [] = ap (map bytes) c.push_reserved.ensures.items ∙ map-append bytes entries (c.in_ok-entry.entry ∷ []) in (
      omega (arith, c.push_reserved.ensures.capacity, c.self.invariant.0),
      omega (arith, c.insert.ensures.capacity, c.self.invariant.1),
      subst P (sym grown)
          (added-index kept rows c.insert.new.self.items c.self.inside.masks c.insert-2.new.self e n row c.self.invariant.2 (omega (arith, long, c.if-len-place.false, c.len.ensures.limit, c.len.ensures.value)) number
          (row-is kept table c.len-place.result e row is refl c.in_ok-rule.ensures.1.filter c.in_ok-rule.ensures.1.ethertype) made c.insert-2.ensures),
    )

pub returns : goal.returns
unfolding bytes Agrees
returns c =
    let entries = c.self.inside.entries.items in
    let kept = map bytes entries in
    let table = c.args.table.now in
    let e = c.in_ok-entry.entry.0 in
    let n = c.count_up_to-number.result in
    let long : length kept ≡ c.len-place.result = omega (arith, length-map entries bytes, c.len-place.ensures) in
    let is : IsLast kept table c.len-place.result e = last kept table c.len-place.result e long (omega (arith, c.if-len-place.false, c.len.ensures.value))
    (subst (Agrees table) (sym c.self.view_is) c.requires) c.in_ok-entry.ensures in
    let number : n ≡ up_to_rank (rank_number (rank_of e)) kept =
    number-is kept table c.len-place.result n c.number.result e c.in_ok-rule.rule.now.rank is c.count_up_to-number.ensures.value c.number.ensures c.in_ok-rule.ensures.1.rank in
    let grown : map bytes c.push_reserved.new.self.items ≡ kept ++ e ∷ [] = ap (map bytes) c.push_reserved.ensures.items ∙ map-append bytes entries (c.in_ok-entry.entry ∷ []) in
    let N : ℕ → Type 0 = λ k. IsRowMore kept (kept ++ e ∷ []) (length kept) k e in
    let more : IsOneMore kept (kept ++ e ∷ []) (length kept) n = one-more kept (kept ++ e ∷ []) (length kept) n e (subst N (sym number) (added kept e)) in
    let S : List (List ℕ) → Type 0 = λ es. IsOneMore es (kept ++ e ∷ []) (length es) n in
    let V : List (List ℕ) → Type 0 = λ es. IsOneMore c.args.self.now es (length c.args.self.now) n in
    let same : length c.args.self.now ≡ c.len-place.result = ap (λ (es : List (List ℕ)). length es) (sym c.self.view_is) ∙ long in (
      omega (arith, same, c.if-len-place.false, c.len.ensures.value),
      omega (arith, same, c.if-len-place.false, c.len.ensures.value, c.len.ensures.limit),
      grown ∙ sym is.whole ∙ ap (λ (n : ℕ). take (n + 1) table) (sym same),
      subst V (sym grown) (subst S c.self.view_is more),
    )
