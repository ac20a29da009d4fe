-- Each turn passes one whole record.
use Rattle.std.proofs.Common.{◌≡◌, ◌==◌, ◌∙◌, Some, false, length, ap, sym, arith}
use Rattle.std.proofs.lemmas.Bool.{eq-eqb}
use Rattle.capture.specs.declared.fault.CaptureFault.TheVariants.{Torn}
use Rattle.capture.proofs.Walk.{fault_many}
use Rattle.capture_pieces.proofs.Walked.{passed_more}
use Rattle.capture_pieces.proofs.cutting.pass_records.Goals as goal

pub returns-then-next : goal.returns-then-next
returns-then-next c =
    let p = c.loop-next.invariant.passed in
    let full : c.loop-next.next ≡ 4294967295 = omega (arith, p.few, c.if-next.true) in
    let some : (length c.loop-next.records == 0) ≡ false = sym c.is_empty.ensures ∙ c.if-is_empty.false in
    sym p.fault ∙ fault_many c.args.order c.loop-next.next c.loop-next.records some (eq-eqb c.loop-next.next 4294967295 full) ∙ ap (λ n. Some (Torn n)) full

pub loop-next-preserved : goal.loop-next-preserved
loop-next-preserved c = record {
  passed = passed_more c.args.order c.args.first c.loop-next.next c.args.records.now c.loop-next.records c.pass.new.self c.loop-next.invariant.passed
      (sym c.in-Ok.ensures.fault) c.in-Ok.ensures.behind c.if-next.false;
  within = omega (arith, c.loop-next-test.true);
}
