-- A whole record at the front is the first frame, and where there is none no frame is left.
use Rattle.std.proofs.Common.{◌≡◌, ◌+◌, [], None, Some, length, sym, ◌∙◌, arith}
use Rattle.capture.specs.Records.{record_fault, frames_in}
use Rattle.capture.proofs.Walk.{frames_whole, frames_broken}
use Rattle.capture.proofs.frames.FramesIterator.next.Goals as goal

pub returns-in_default-clause-steps : goal.returns-in_default-clause-steps
returns-in_default-clause-steps c =
    let broken : record_fault c.self.inside.order c.self.inside.records.now ≡ Some c.in_default.field-0 = sym c.in_default.ensures.fault in
    let none : c.args.self.now ≡ [] = sym c.self.view_is ∙ frames_broken c.self.inside.order c.self.inside.records.now c.in_default.field-0 broken in
    (none, none)

pub returns-clause-steps : goal.returns-clause-steps
returns-clause-steps c =
    let whole : record_fault c.self.inside.order c.self.inside.records.now ≡ None = sym c.in-Ok.ensures.fault in
    rw (c.in-Ok.ensures.frame, c.in-Ok.ensures.behind)
    (sym c.self.view_is ∙ frames_whole c.self.inside.order c.self.inside.records.now whole)

pub returns-clause-goes : goal.returns-clause-goes
returns-clause-goes c =
    let now = returns-clause-steps c in
    let left : length c.args.self.now ≡ length (frames_in c.self.inside.order c.in-Ok.behind.now) + 1 = rw now (omega arith) in
    record { on = λ _. (tt, tt, omega (arith, left)); keeps = tt; rests = λ _. tt }
