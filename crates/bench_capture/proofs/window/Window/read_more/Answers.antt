-- What a read gives stands behind the bytes that are held.
use Rattle.std.proofs.Common.{◌∙◌, ◌++◌, ℕ, List, drop, take, ap}
use Rattle.bench_capture.proofs.Holding.{held_grown, held_same, read_none, read_on}
use Rattle.bench_capture.proofs.window.Window.read_more.Goals as goal

pub returns-in-Ok-clause-none_lost : goal.returns-in-Ok-clause-none_lost
returns-in-Ok-clause-none_lost g c =
    let window = c.move_to_front.new.self in
    let grown = held_grown window.bytes.items c.read_behind.new.bytes.items window.start window.end c.in-Ok.count window.ordered c.in-Ok.ensures.kept in
    read_on _ _ _ _ _ (grown ∙ ap (λ (left : List ℕ). left ++ take c.in-Ok.count (drop window.end c.read_behind.new.bytes.items)) c.move_to_front.ensures.held) c.in-Ok.ensures.given

pub returns-in-Err-Interrupted-clause-none_lost : goal.returns-in-Err-Interrupted-clause-none_lost
returns-in-Err-Interrupted-clause-none_lost g c =
    let window = c.move_to_front.new.self in
    let same = held_same window.bytes.items c.read_behind.new.bytes.items window.start window.end window.ordered c.in-Err-Interrupted.ensures.kept in
    read_none _ _ _ _ (same ∙ c.move_to_front.ensures.held) c.in-Err-Interrupted.ensures.failed

pub returns-in-Err : goal.returns-in-Err
returns-in-Err g c =
    let window = c.move_to_front.new.self in
    let same = held_same window.bytes.items c.read_behind.new.bytes.items window.start window.end window.ordered c.in-Err.ensures.kept in
    record { none_lost = read_none _ _ _ _ (same ∙ c.move_to_front.ensures.held) c.in-Err.ensures.failed; end = tt; refused = tt }
