-- Each turn keeps what is to be read, or shows the fault of the first block.
use Rattle.bench_capture.proofs.Advancing.{fault_begun, fault_given, not_true, passed_given, read_given, wants_given}
use Rattle.bench_capture.proofs.reader.pass_first.Goals as goal

pub loop-preserved-in-Ok-Passed : goal.loop-preserved-in-Ok-Passed
loop-preserved-in-Ok-Passed g c =
    let turn = rw c.in-Ok-Passed.field-0-is at c.in-Ok-Passed.ensures.turn in
    record {
      leaves =
          passed_given (g.R.Read.remaining c.args.reader.now) c.args.format.now c.args.window.now
          c.loop.format c.take_turn.new.format c.loop.window c.take_turn.new.window (g.R.Read.remaining c.loop.reader) c.loop.ended c.loop.invariant.ended
          turn c.loop.invariant.leaves;
      ended = c.loop.invariant.ended;
      kept = c.in-Ok-Passed.ensures.kept;
    }

pub returns-in-Err-clause-begun : goal.returns-in-Err-clause-begun
returns-in-Err-clause-begun g c =
    fault_begun (g.R.Read.remaining c.args.reader.now) c.args.format.now c.args.window.now
    c.in-Err.fault c.take_turn.new.format c.take_turn.new.window (g.R.Read.remaining c.loop.reader)
    (fault_given (g.R.Read.remaining c.args.reader.now) c.args.format.now c.args.window.now
    c.loop.format c.take_turn.new.format c.loop.window c.take_turn.new.window (g.R.Read.remaining c.loop.reader) c.loop.ended c.loop.invariant.ended
    c.in-Err.fault c.in-Err.ensures.turn c.loop.invariant.leaves)

pub loop-preserved : goal.loop-preserved
loop-preserved g c =
    let turn = rw c.in-Ok-Wants.field-0-is at c.in-Ok-Wants.ensures.turn in
    let first = g.R.Read.remaining c.args.reader.now in
    let wants = wants_given first c.args.format.now c.args.window.now
    c.loop.format c.take_turn.new.format c.loop.window c.take_turn.new.window (g.R.Read.remaining c.loop.reader) c.loop.ended c.loop.invariant.ended
    turn c.loop.invariant.leaves in
    record {
      leaves =
          read_given first c.args.format.now c.args.window.now c.take_turn.new.format c.take_turn.new.window c.read_more.new.self
          (g.R.Read.remaining c.loop.reader) (g.R.Read.remaining c.read_more.new.reader) c.in-Ok.ensures.none_lost wants;
      ended = λ ends. c.in-Ok.ensures.end (not_true c.in-Ok.more ends);
      kept = c.in-Ok-Wants.ensures.kept;
    }
