-- Each turn keeps what is to be read, or gives the first frame of it.
use Rattle.std.proofs.Common.{[], refl}
use Rattle.bench_capture.proofs.Advancing.{end_given, fault_given, frame_given, passed_given, not_true, read_given, refused_given, wants_given}
use Rattle.bench_capture.proofs.reader.next_span.Goals as goal

pub returns-in-Ok-Frame-clause-next : goal.returns-in-Ok-Frame-clause-next
returns-in-Ok-Frame-clause-next g c =
    let turn = rw c.in-Ok-Frame.field-0-is at c.in-Ok-Frame.ensures.turn in
    frame_given (g.R.Read.remaining c.args.reader.now) c.args.format.now c.args.window.now
    c.loop.format c.take_turn.new.format c.loop.window c.take_turn.new.window (g.R.Read.remaining c.loop.reader) c.loop.ended c.loop.invariant.ended
    c.in-Ok-Frame.span turn c.loop.invariant.leaves

pub returns-in-Ok-Frame-clause-within : goal.returns-in-Ok-Frame-clause-within
returns-in-Ok-Frame-clause-within g c =
    let turn = rw c.in-Ok-Frame.field-0-is at c.in-Ok-Frame.ensures.turn in
    (turn [] (λ _. refl)).1

pub returns-in-Ok-End-clause-next : goal.returns-in-Ok-End-clause-next
returns-in-Ok-End-clause-next g c =
    let turn = rw c.in-Ok-End.field-0-is at c.in-Ok-End.ensures.turn in
    end_given (g.R.Read.remaining c.args.reader.now) c.args.format.now c.args.window.now
    c.loop.format c.take_turn.new.format c.loop.window c.take_turn.new.window (g.R.Read.remaining c.loop.reader) c.loop.ended c.loop.invariant.ended
    turn c.loop.invariant.leaves

pub returns-in-Err-read_more-clause-next : goal.returns-in-Err-read_more-clause-next
returns-in-Err-read_more-clause-next g c =
    let turn = rw c.in-Ok-Wants.field-0-is at c.in-Ok-Wants.ensures.turn in
    let first = g.R.Read.remaining c.args.reader.now in
    let wants = wants_given first c.args.format.now c.args.window.now
    c.loop.format c.take_turn.new.format c.loop.window c.take_turn.new.window (g.R.Read.remaining c.loop.reader) c.loop.ended c.loop.invariant.ended
    turn c.loop.invariant.leaves in
    refused_given first c.args.format.now c.args.window.now c.take_turn.new.format c.read_more.new.self (g.R.Read.remaining c.read_more.new.reader)
    c.in-Err-read_more.fault c.in-Err-read_more.ensures.refused
    (read_given first c.args.format.now c.args.window.now c.take_turn.new.format c.take_turn.new.window c.read_more.new.self
    (g.R.Read.remaining c.loop.reader) (g.R.Read.remaining c.read_more.new.reader) c.in-Err-read_more.ensures.none_lost wants)

pub returns-in-Err-clause-next : goal.returns-in-Err-clause-next
returns-in-Err-clause-next g c =
    fault_given (g.R.Read.remaining c.args.reader.now) c.args.format.now c.args.window.now
    c.loop.format c.take_turn.new.format c.loop.window c.take_turn.new.window (g.R.Read.remaining c.loop.reader) c.loop.ended c.loop.invariant.ended
    c.in-Err.fault c.in-Err.ensures.turn c.loop.invariant.leaves

pub loop-preserved-in-Ok-Passed : goal.loop-preserved-in-Ok-Passed
loop-preserved-in-Ok-Passed g c =
    let turn = rw c.in-Ok-Passed.field-0-is at c.in-Ok-Passed.ensures.turn in
    record {
      leaves =
          passed_given (g.R.Read.remaining c.args.reader.now) c.args.format.now c.args.window.now
          c.loop.format c.take_turn.new.format c.loop.window c.take_turn.new.window (g.R.Read.remaining c.loop.reader) c.loop.ended c.loop.invariant.ended
          turn c.loop.invariant.leaves;
      ended = c.loop.invariant.ended;
      kept = c.in-Ok-Passed.ensures.kept;
    }

pub loop-preserved : goal.loop-preserved
loop-preserved g c =
    let turn = rw c.in-Ok-Wants.field-0-is at c.in-Ok-Wants.ensures.turn in
    let first = g.R.Read.remaining c.args.reader.now in
    let wants = wants_given first c.args.format.now c.args.window.now
    c.loop.format c.take_turn.new.format c.loop.window c.take_turn.new.window (g.R.Read.remaining c.loop.reader) c.loop.ended c.loop.invariant.ended
    turn c.loop.invariant.leaves in
    record {
      leaves =
          read_given first c.args.format.now c.args.window.now c.take_turn.new.format c.take_turn.new.window c.read_more.new.self
          (g.R.Read.remaining c.loop.reader) (g.R.Read.remaining c.read_more.new.reader) c.in-Ok.ensures.none_lost wants;
      ended = λ ends. c.in-Ok.ensures.end (not_true c.in-Ok.more ends);
      kept = c.in-Ok-Wants.ensures.kept;
    }
