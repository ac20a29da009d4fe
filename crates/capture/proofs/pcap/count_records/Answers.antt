-- Each turn passes one whole record.
use Rattle.std.proofs.Common.{◌≡◌, ◌==◌, false, None, length, sym, ap, ◌∙◌, arith, refl, rules}
use Rattle.std.proofs.lemmas.Bool.{ne_eqb}
use Rattle.capture.specs.Records.{first_fault, frames_in, record_fault}
use Rattle.capture.proofs.Walk.{fault_whole, frames_whole, frames_none}
use Rattle.capture.proofs.pcap.count_records.Goals as goal

pub loop-rest-init : goal.loop-rest-init
unfolding first_fault
loop-rest-init c = record { fault = refl; frames = omega arith }

pub loop-rest-preserved : goal.loop-rest-preserved
loop-rest-preserved c =
    let some : (length c.loop-rest.rest.now == 0) ≡ false = sym c.is_empty.ensures ∙ c.loop-rest-test.true in
    let few : (c.loop-rest.count == 4294967295) ≡ false = ne_eqb c.loop-rest.count 4294967295 c.if-count.false in
    let whole : record_fault c.args.order c.loop-rest.rest.now ≡ None = sym c.in-Ok.ensures.fault in
    record {
      fault = rw c.in-Ok.ensures.behind (sym (fault_whole c.args.order c.loop-rest.count c.loop-rest.rest.now some few whole) ∙ c.loop-rest.invariant.fault);
      frames = rw c.in-Ok.ensures.behind (omega (arith, ap length (frames_whole c.args.order c.loop-rest.rest.now whole), c.loop-rest.invariant.frames));
    }

pub returns-clause-count : goal.returns-clause-count
returns-clause-count c =
    let none = frames_none c.args.order c.loop-rest.rest.now (sym c.is_empty.ensures ∙ c.loop-rest-test.false) in
    let count : length (frames_in c.args.order c.loop-rest.rest.now) ≡ 0 = ap length none in
    omega (arith, count, c.loop-rest.invariant.frames)

-- bounded, so that a wrong body is refused at once
pub returns-in-Err-clause-count : goal.returns-in-Err-clause-count
returns-in-Err-clause-count c = search rules fits 30

-- bounded, so that a wrong body is refused at once
pub returns-in-Err-clause-fault : goal.returns-in-Err-clause-fault
returns-in-Err-clause-fault c = search rules fits 30
