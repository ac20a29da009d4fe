-- Each turn passes one batch.
use Rattle.std.proofs.Common.{◌≡◌, ◌≢◌, ◌∙◌, ℕ, List, [], ◌∷◌, ◌++◌, length, ap, sym, arith}
use Rattle.std.proofs.lemmas.Bool.{eqb-false, eqb-true}
use Rattle.capture_pieces.proofs.Starts.{cutting_all, cutting_more, cutting_none}
use Rattle.capture_pieces.proofs.cutting.cut_records.Goals as goal

pub loop-records-init : goal.loop-records-init
loop-records-init c = rw (c.new-starts.ensures.items, c.again-records.ensures) (cutting_none c.args.order c.args.size c.args.all.now)

pub loop-records-preserved : goal.loop-records-preserved
loop-records-preserved c =
    let starts : List (List ℕ) = c.loop-records.starts.items in
    let left : List ℕ = c.loop-records.records in
    let items : c.push.new.self.items ≡ starts ++ left ∷ [] = c.in-Ok.ensures.items ∙ ap (λ (r : List ℕ). starts ++ r ∷ []) c.again.ensures in
    let some : length left ≢ 0 = eqb-false (length left) 0 (sym c.is_empty.ensures ∙ c.loop-records-test.true) in
    rw items (cutting_more c.args.order c.args.size c.args.all.now starts c.loop-records.count left c.in-Ok-pass_records.next c.pass_records.new.records
    c.loop-records.invariant (omega (arith, some)) c.in-Ok-pass_records.ensures)

pub returns-clause-cut : goal.returns-clause-cut
returns-clause-cut c =
    cutting_all c.args.order c.args.size c.args.all.now c.loop-records.starts.items c.loop-records.count c.loop-records.records
    c.loop-records.invariant (eqb-true (length c.loop-records.records) 0 (sym c.is_empty.ensures ∙ c.loop-records-test.false))
