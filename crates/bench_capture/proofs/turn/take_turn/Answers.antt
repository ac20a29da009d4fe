-- A record or block is taken from the bytes that are held.
use Rattle.std.proofs.Common.{ℕ, List, subst}
use Rattle.bench_capture.specs.Formats.{IsTaken}
use Rattle.bench_capture.proofs.Turns.{frame_turn}
use Rattle.bench_capture.proofs.turn.take_turn.Goals as goal

pub returns-in-Some-clause-turn : goal.returns-in-Some-clause-turn
returns-in-Some-clause-turn c = λ rest ends.
    frame_turn c.args.format.now c.take.new.self c.args.window.now c.take-in-Ok.new.self c.in-Ok.taken c.in-Some.span rest
    (subst (λ (bytes : List ℕ). IsTaken c.args.format.now bytes c.in-Ok.taken c.take.new.self) c.as_slice-bytes.ensures.value c.in-Ok.ensures.takes)
    c.in-Some.is c.take-in-Ok.ensures.held c.take-in-Ok.ensures.bytes
