use Rattle.std.proofs.Common.{◌≡◌, ◌<◌, ℕ, List, arith, ap, get_or, length, subst, ◌∙◌}
use Rattle.std.proofs.lemmas.List.Elements.{All-more}
use Rattle.frame_rows.specs.Treatments.{Fits}
use Rattle.std.specs.Option.{option_map}
use Rattle.pmapper.specs.Mapper.{unmarked_of}
use Rattle.explain.specs.Order.{tried_order}
use Rattle.frame_meaning.specs.Meaning.{Table}
use Rattle.vlan_rule.specs.Choice.{entry_at}
use Rattle.frame_rows.specs.Rows.{entry_row}
use Rattle.frame_rows.proofs.EntryRows.{one_more}
use Rattle.frame_rows.proofs.rows.push_entries.Goals as goal

pub loop-number-preserved : goal.loop-number-preserved
loop-number-preserved c =
    let order = c.tried_order-order.ensures.order ∙ ap (λ (t : Table). tried_order t.entries) c.table.view_is in
    let unmarked = option_map (λ m. unmarked_of m.now) c.args.mapper in
    let lengths : length c.tried_order-order.result.items ≡ length (tried_order c.args.table.now.entries) = ap length order in
    let within : c.loop-number.number < length (tried_order c.args.table.now.entries) = omega arith in
    let here : Fits c.args.table.now.entries (get_or (tried_order c.args.table.now.entries) c.loop-number.number 0) =
    subst (λ (places : List ℕ). Fits c.args.table.now.entries (get_or places c.loop-number.number 0)) (c.deref.ensures.0 ∙ order) c.row_at.ensures.fits in
    record {
      fits = All-more (Fits c.args.table.now.entries) (tried_order c.args.table.now.entries) c.loop-number.number 0 within c.loop-number.invariant.fits here;
      rows = one_more c.args.table.now unmarked (tried_order c.args.table.now.entries) c.loop-number.number
          c.args.rows.now.items c.loop-number.rows.items c.push.new.self.items c.row_at.result within c.loop-number.invariant.rows
          (c.row_at.ensures.row ∙ ap (λ (places : List ℕ). entry_row c.args.table.now unmarked c.loop-number.number (entry_at c.args.table.now.entries (get_or places c.loop-number.number 0))) (c.deref.ensures.0 ∙ order))
          c.in_ok-push.ensures.items;
    }
