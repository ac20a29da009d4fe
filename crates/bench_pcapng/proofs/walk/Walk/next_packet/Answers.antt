-- Each turn reads one block.
use Rattle.std.proofs.Common.{◌≡◌, length, sym, ◌∙◌, arith}
use Rattle.bench_pcapng.specs.Reading.{Passes, Yields, step_of}
use Rattle.bench_pcapng.specs.Walks.{place_of}
use Rattle.bench_pcapng.proofs.Readings.{fault_next, passes_further, reading_none, reading_passes, reading_yields, yields_further}
use Rattle.bench_pcapng.proofs.walk.Walk.next_packet.Goals as goal

pub loop-self-smaller : goal.loop-self-smaller
loop-self-smaller c =
    let is : step_of (place_of c.loop-self.self) ≡ Passes (place_of c.step.new.self) = rw c.in-Ok-None.field-0-is at c.in-Ok-None.ensures.stepped in
    let further = passes_further (place_of c.loop-self.self) (place_of c.step.new.self) is in
    further.shorter

pub loop-self-preserved : goal.loop-self-preserved
loop-self-preserved c =
    let is : step_of (place_of c.loop-self.self) ≡ Passes (place_of c.step.new.self) = rw c.in-Ok-None.field-0-is at c.in-Ok-None.ensures.stepped in
    let further = passes_further (place_of c.loop-self.self) (place_of c.step.new.self) is in
    let some : length c.loop-self.self.rest.now ≡ 0 → ⊥ = λ none. omega (arith, none, c.loop-self-test.true) in
    record {
      reading = sym (reading_passes (place_of c.loop-self.self) (place_of c.step.new.self) some is) ∙ c.loop-self.invariant.reading;
      few = omega (arith, further.shorter, further.number, c.loop-self.invariant.few);
    }

pub returns-in-Ok-Some-clause-next : goal.returns-in-Ok-Some-clause-next
returns-in-Ok-Some-clause-next c =
    let is : step_of (place_of c.loop-self.self) ≡ Yields c.in-Ok-Some.packet (place_of c.step.new.self) = rw c.in-Ok-Some.field-0-is at c.in-Ok-Some.ensures.stepped in
    let some : length c.loop-self.self.rest.now ≡ 0 → ⊥ = λ none. omega (arith, none, c.loop-self-test.true) in
    sym c.loop-self.invariant.reading ∙ reading_yields (place_of c.loop-self.self) (place_of c.step.new.self) c.in-Ok-Some.packet some is

pub returns-in-Ok-Some-clause-few : goal.returns-in-Ok-Some-clause-few
returns-in-Ok-Some-clause-few c =
    let is : step_of (place_of c.loop-self.self) ≡ Yields c.in-Ok-Some.packet (place_of c.step.new.self) = rw c.in-Ok-Some.field-0-is at c.in-Ok-Some.ensures.stepped in
    let further = yields_further (place_of c.loop-self.self) (place_of c.step.new.self) c.in-Ok-Some.packet is in
    omega (arith, further.shorter, further.number, c.loop-self.invariant.few)

pub returns-in-Err-clause-next : goal.returns-in-Err-clause-next
returns-in-Err-clause-next c =
    let some : length c.loop-self.self.rest.now ≡ 0 → ⊥ = λ none. omega (arith, none, c.loop-self-test.true) in
    fault_next (place_of c.loop-self.self) (place_of c.step.new.self) c.in-Err.fault _ some c.loop-self.invariant.reading c.in-Err.ensures.stepped

pub returns-clause-next : goal.returns-clause-next
returns-clause-next c =
    let none : length c.loop-self.self.rest.now ≡ 0 = omega (arith, c.loop-self-test.false) in
    (sym c.loop-self.invariant.reading ∙ reading_none (place_of c.loop-self.self) none, c.loop-self.invariant.reading)
