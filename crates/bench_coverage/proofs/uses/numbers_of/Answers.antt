use Rattle.std.proofs.Common.{◌≡◌, ◌+◌, ◌<◌, ◌==◌, ◌∙◌, ◌++◌, ◌∷◌, [], ℕ, List, ap, arith, length, length-append, sym}
use Rattle.arrayvec.specs.ArrayVec.{array_vec_len}
use Rattle.std.specs.List.{position}
use Rattle.explain.specs.Order.{number_of}
use Rattle.bench_coverage.proofs.Used.{numbered, one_more}
use Rattle.bench_coverage.proofs.uses.numbers_of.Goals as goal
use Rattle.bench_coverage.proofs.uses.numbers_of.Goals.{in-Some, in_default}

-- the number of the place, in the order that was found
at : (c : goal.Joined-number_at) → c.number_at.result ≡ number_of c.args.table.now c.loop-place.place
at c =
    c.number_at.ensures
    ∙ ap (λ (order : List ℕ). position (λ tried. tried == c.loop-place.place) order) (c.deref.ensures.0 ∙ c.tried_order-order.ensures.order)

pub loop-place-preserved : goal.loop-place-preserved
loop-place-preserved c =
    let entries = c.args.table.now in
    let place = c.loop-place.place in
    let within : place < length entries = omega (arith, c.loop-place-test.true, c.len-place-end.ensures.value) in
    elim c.match-number_at.branch [
      | in-Some w ↦
          let held = c.loop-place.invariant in
          let before = c.loop-place.numbers in
          let number = w.in-Some.number in
          let items : c.match-number_at.numbers.items ≡ before.items ++ number ∷ [] = ap (λ ns. ns.items) w.numbers-is ∙ w.push.ensures.items in
          let counted : array_vec_len c.match-number_at.numbers ≡ array_vec_len before + 1 = ap (λ ns. array_vec_len ns) w.numbers-is ∙ w.push.ensures.len in
          record {
            within = omega (arith, within);
            count = omega (arith, counted, held.count);
            len = omega (arith, ap length items, length-append before.items (number ∷ []), held.len);
            number = one_more entries before.items c.match-number_at.numbers.items place number held.len held.number (sym (at c) ∙ w.in-Some.is) items;
          }
      | in_default w ↦ absurd (numbered entries place within (sym (at c) ∙ w.in_default.is))
    ]
