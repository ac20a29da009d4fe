use Rattle.std.proofs.Common.{◌≡◌, ◌≢◌, ◌+◌, ◌++◌, ◌<◌, length, ℕ, List, [], ◌∷◌, take, get_or, ap, sym, ◌∙◌, refl, arith, append_assoc, append-nil, length-append}
use Rattle.std.proofs.lemmas.Bool.{ne_eqb, eq-eqb}
use Rattle.vlan_rule.specs.Meaning.{rank_number, rank_of}
use Rattle.rule_index.specs.declared.row.Row.{Row}
use Rattle.rule_index.specs.Order.{row_of, rows_from}
use Rattle.rule_index.proofs.Found.{room-left, rows_from-next}
use Rattle.rule_index.proofs.ranking.add_rank.Goals as goal
use Rattle.rule_index.proofs.ranking.add_rank.Goals.{in-Some+then-number-rank, in-Some+else-number-rank, in_default}

-- the rows of the first entries, with one more
next_is : (rank : ℕ) (entries : List (List ℕ)) (i : ℕ) → i < length entries → rank_number (rank_of (get_or entries i [])) ≡ rank
    → rows_from rank 0 (take (i + 1) entries) ≡ rows_from rank 0 (take i entries) ++ row_of i (get_or entries i []) ∷ []
next_is rank entries i within has = rows_from-next rank entries i within ∙ rw (eq-eqb _ _ has) refl

-- or with no more, where the next is of another rank
none_next : (rank : ℕ) (entries : List (List ℕ)) (i : ℕ) → i < length entries → rank_number (rank_of (get_or entries i [])) ≢ rank
    → rows_from rank 0 (take (i + 1) entries) ≡ rows_from rank 0 (take i entries)
none_next rank entries i within has = rows_from-next rank entries i within ∙ rw (ne_eqb _ _ has) (append-nil (rows_from rank 0 (take i entries)))

added : (before : List Row) (rank : ℕ) (entries : List (List ℕ)) (i : ℕ) (row : Row) → i < length entries
    → rank_number (rank_of (get_or entries i [])) ≡ rank → row ≡ row_of i (get_or entries i [])
    → (before ++ rows_from rank 0 (take i entries)) ++ row ∷ [] ≡ before ++ rows_from rank 0 (take (i + 1) entries)
added before rank entries i row within has is =
    append_assoc before (rows_from rank 0 (take i entries)) (row ∷ [])
    ∙ ap (λ (rows : List Row). before ++ rows) (ap (λ (r : Row). rows_from rank 0 (take i entries) ++ r ∷ []) is ∙ sym (next_is rank entries i within has))

pub loop-place-init : goal.loop-place-init
unfolding rows_from
loop-place-init c = record { rows = sym (append-nil c.args.rows.now.items); room = refl; len = omega arith }

pub push_reserved-requires : goal.push_reserved-requires
push_reserved-requires c =
    let has : rank_number (rank_of (get_or c.args.table.now c.loop-place.place [])) ≡ c.args.rank =
    sym (ap rank_number c.in-Some.ensures.1.rank) ∙ sym c.number.ensures ∙ c.if-number-rank.true in
    omega (arith, room-left c.args.rank c.args.table.now c.loop-place.place c.in-Some.ensures.0 has, c.requires, c.loop-place.invariant.len, c.loop-place.invariant.room)

pub loop-place-preserved : goal.loop-place-preserved
loop-place-preserved c = elim c.match-rule.branch [
  | in-Some+then-number-rank w ↦
      let table = c.args.table.now in
      let i = c.loop-place.place in
      let known = w.in-Some.ensures.1 in
      let has : rank_number (rank_of (get_or table i [])) ≡ c.args.rank = sym (ap rank_number known.rank) ∙ sym w.number.ensures ∙ w.if-number-rank.true in
      let row : Row = record { place = i; filter = w.in-Some.rule.now.filter; ethertype = w.in-Some.rule.now.ethertype } in
      let is : row ≡ row_of i (get_or table i []) = λ at. record { place = i; filter = known.filter at; ethertype = known.ethertype at } in
      let next = next_is c.args.rank table i w.in-Some.ensures.0 has in
      let more = length-append (rows_from c.args.rank 0 (take i table)) (row_of i (get_or table i []) ∷ []) in
      record {
        rows = rw w.rows-is (w.push_reserved.ensures.items ∙ ap (λ (rows : List Row). rows ++ row ∷ []) c.loop-place.invariant.rows
            ∙ added c.args.rows.now.items c.args.rank table i row w.in-Some.ensures.0 has is);
        room = rw w.rows-is (w.push_reserved.ensures.capacity ∙ c.loop-place.invariant.room);
        len = rw w.rows-is (omega (arith, w.push_reserved.ensures.len, c.loop-place.invariant.len, ap (λ (rows : List Row). length rows) next, more));
      }
  | in-Some+else-number-rank w ↦
      let table = c.args.table.now in
      let i = c.loop-place.place in
      let has : rank_number (rank_of (get_or table i [])) ≢ c.args.rank = λ e. w.if-number-rank.false (w.number.ensures ∙ ap rank_number w.in-Some.ensures.1.rank ∙ e) in
      let next = none_next c.args.rank table i w.in-Some.ensures.0 has in
      record {
        rows = rw w.rows-is (c.loop-place.invariant.rows ∙ ap (λ (rows : List Row). c.args.rows.now.items ++ rows) (sym next));
        room = rw w.rows-is c.loop-place.invariant.room;
        len = rw w.rows-is (omega (arith, c.loop-place.invariant.len, ap (λ (rows : List Row). length rows) next));
      }
  | in_default w ↦ absurd (omega (arith, w.in_default.ensures, c.loop-place-test.true, c.len-place-end.ensures.value))
]
