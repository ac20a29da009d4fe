-- The record at the front is split off, or there is none.
use Rattle.std.proofs.Common.{refl, sym}
use Rattle.std.proofs.lemmas.List.{take_rest}
use Rattle.bench_capture.specs.Records.{TooMany, Broken}
use Rattle.bench_capture.proofs.Classics.{record_taken}
use Rattle.bench_capture.proofs.classic.Records.take.Goals as goal

pub returns-then-self : goal.returns-then-self
returns-then-self c = rw c.from.ensures (TooMany c.if-self.true, refl)

pub returns-in-Err : goal.returns-in-Err
returns-in-Err c = rw c.fault_at.ensures (Broken c.in-Err.fault c.if-self.false (sym c.in-Err.ensures.fault), refl)

pub returns : goal.returns
returns c =
    let time = rw (c.read_u32-seconds.ensures, c.read_u32-fraction.ensures, take_rest c.args.bytes.now 4) at c.nanoseconds_of.ensures in
    let original = rw (take_rest c.args.bytes.now 12) at c.read_u32.ensures in
    record_taken c.args.self.now c.args.bytes.now c.in-Ok.parts.0.now c.in-Ok.parts.1.now c.nanoseconds_of.result c.read_u32.result
    c.if-self.false (sym c.in-Ok.ensures.fault) c.in-Ok.ensures.frame c.in-Ok.ensures.behind time original
