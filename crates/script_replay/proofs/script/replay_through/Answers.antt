use Rattle.std.proofs.Common.{◌≡◌, ◌+◌, ◌≤◌, ◌++◌, ℕ, suc, List, take, drop, length, ap, subst, ◌∙◌, refl, arith, length-take, length-drop}
use Rattle.std.proofs.KnownBytes.{Appends-trans, Consumes-trans}
use Rattle.std.specs.Io.KnownBytes.{Appends}
use Rattle.std.proofs.lemmas.Result.{err_from_is_err_and}
use Rattle.script_lines.specs.Text.{cut}
use Rattle.text_writing.specs.Written.{AppendsPart}
use Rattle.script_replay.specs.Finish.{Finishes}
use Rattle.script_replay.proofs.Ends.{ends_bad, ends_write, part_behind}
use Rattle.script_replay.proofs.Finished.{consumes_none, finished}
use Rattle.script_replay.proofs.Held.{held, held_no_feed, long_rest, moved, told}
use Rattle.script_replay.proofs.Replaying.{answers_more, so_far_more, bad_in_piece, bad_if_long, rest_no_feed, so_far_as}
use Rattle.script_replay.proofs.script.replay_through.Goals as goal

pub returns-then-count-eq0 : goal.returns-then-count-eq0
returns-then-count-eq0 g c =
    let s = c.loop.invariant.so_far in
    let took = consumes_none _ _ _ s.0 _ c.in-Some.count c.if-count-eq0.true s.2 c.in-Some.ensures.given in
    finished _ _ _ _ _ s.0 c.loop.onu (take c.loop.begun c.loop.text) c.loop.lines c.loop.total s.1 took (c.in-Some.ensures.end c.if-count-eq0.true) s.3 _
    (subst (λ rest. Finishes c.loop.onu rest c.loop.lines c.finish.result (g.W.Write.contents c.loop.writer) (g.W.Write.contents c.finish.new.writer)) c.in-Some.ensures.kept c.finish.ensures)

pub returns-in_err-write_whole : goal.returns-in_err-write_whole
returns-in_err-write_whole g c =
    let s = c.loop.invariant.so_far in
    let piece : List ℕ = take c.in-Some.count (drop c.loop.begun c.read_piece.new.text) in
    let took = Consumes-trans _ _ _ s.0 piece s.2 c.in-Some.ensures.given in
    let holds = held c.loop.begun c.in-Some.count c.loop.text c.read_piece.new.text c.in-Some.ensures.kept in
    let out = told c.loop.onu _ _ _ _ _ holds c.loop.invariant.none c.answer_lines-answered.ensures.items c.deref.ensures.value in
    let part = subst (λ bytes. AppendsPart (g.W.Write.contents c.loop.writer) (g.W.Write.contents c.write_whole.new.writer) bytes) out c.in_err-write_whole.ensures.err in
    let more = answers_more s.0 c.loop.onu (take c.loop.begun c.loop.text) c.loop.lines c.loop.total s.1 piece in
    let p = err_from_is_err_and c.from_residual.result c.from_residual.ensures.1 in
    rw (p.1, p.2)
    (ends_write _ _ _ _ (s.0 ++ piece) took (rw more (part_behind _ _ _ _ _ s.3 part)))

pub answer_lines-answered-requires-clause-searched : goal.answer_lines-answered-requires-clause-searched
answer_lines-answered-requires-clause-searched g c =
    let s = c.loop.invariant.so_far in
    held_no_feed c.loop.begun c.in-Some.count c.loop.text c.read_piece.new.text c.in-Some.ensures.kept (omega (arith, c.loop.invariant.begun, c.requires.text))
    (rest_no_feed s.0 c.loop.onu (take c.loop.begun c.loop.text) c.loop.lines c.loop.total s.1)

pub returns-then-answered : goal.returns-then-answered
returns-then-answered g c =
    let s = c.loop.invariant.so_far in
    let piece : List ℕ = take c.in-Some.count (drop c.loop.begun c.read_piece.new.text) in
    let took = Consumes-trans _ _ _ s.0 piece s.2 c.in-Some.ensures.given in
    let holds = held c.loop.begun c.in-Some.count c.loop.text c.read_piece.new.text c.in-Some.ensures.kept in
    let out = told c.loop.onu _ _ _ _ _ holds c.loop.invariant.none c.answer_lines-answered.ensures.items c.deref.ensures.value in
    let written = subst (λ bytes. Appends (g.W.Write.contents c.loop.writer) (g.W.Write.contents c.write_whole.new.writer) bytes) out c.in_ok-write_whole.ensures.ok in
    let more = answers_more s.0 c.loop.onu (take c.loop.begun c.loop.text) c.loop.lines c.loop.total s.1 piece in
    let bad = rw (holds, c.if-answered.true) at c.answer_lines-answered.ensures.bad in
    let number : c.loop.lines + c.answer_lines-answered.result.lines + 1 ≡ suc (c.loop.lines + c.answer_lines-answered.result.lines) = omega arith in
    rw number (ends_bad _ _ _ _ (s.0 ++ piece) _ (c.loop.lines + c.answer_lines-answered.result.lines) took
    (bad_in_piece s.0 c.loop.onu (take c.loop.begun c.loop.text) c.loop.lines c.loop.total s.1 piece c.answer_lines-answered.result.lines bad)
    (rw more (Appends-trans _ _ _ _ _ s.3 written)))

pub returns-then-begun-gt-LINE_LIMIT : goal.returns-then-begun-gt-LINE_LIMIT
returns-then-begun-gt-LINE_LIMIT g c =
    let s = c.loop.invariant.so_far in
    let piece : List ℕ = take c.in-Some.count (drop c.loop.begun c.read_piece.new.text) in
    let took = Consumes-trans _ _ _ s.0 piece s.2 c.in-Some.ensures.given in
    let holds = held c.loop.begun c.in-Some.count c.loop.text c.read_piece.new.text c.in-Some.ensures.kept in
    let out = told c.loop.onu _ _ _ _ _ holds c.loop.invariant.none c.answer_lines-answered.ensures.items c.deref.ensures.value in
    let written = subst (λ bytes. Appends (g.W.Write.contents c.loop.writer) (g.W.Write.contents c.write_whole.new.writer) bytes) out c.in_ok-write_whole.ensures.ok in
    let more = answers_more s.0 c.loop.onu (take c.loop.begun c.loop.text) c.loop.lines c.loop.total s.1 piece in
    let good = rw (holds, c.if-answered.false) at c.answer_lines-answered.ensures.bad in
    let next = so_far_more s.0 c.loop.onu (take c.loop.begun c.loop.text) c.loop.lines c.loop.total s.1 piece good in
    let long = long_rest c.answer_lines-answered.result.rest c.loop.begun c.in-Some.count c.read_piece.new.text _ holds (c.answer_lines-answered.ensures.rest c.if-answered.false) c.in-Some.ensures.within c.if-begun-gt-LINE_LIMIT.true in
    let counted = rw holds at (c.answer_lines-answered.ensures.lines c.if-answered.false) in
    let number : c.loop.lines + c.answer_lines-answered.result.lines + 1 ≡ suc (c.loop.lines + c.answer_lines-answered.result.lines) = omega arith in
    rw (number, counted) (ends_bad _ _ _ _ (s.0 ++ piece) _ _ took (bad_if_long (s.0 ++ piece) _ _ _ _ next long) (rw more (Appends-trans _ _ _ _ _ s.3 written)))

pub loop-preserved : goal.loop-preserved
loop-preserved g c =
    let s = c.loop.invariant.so_far in
    let piece : List ℕ = take c.in-Some.count (drop c.loop.begun c.read_piece.new.text) in
    let took = Consumes-trans _ _ _ s.0 piece s.2 c.in-Some.ensures.given in
    let holds = held c.loop.begun c.in-Some.count c.loop.text c.read_piece.new.text c.in-Some.ensures.kept in
    let out = told c.loop.onu _ _ _ _ _ holds c.loop.invariant.none c.answer_lines-answered.ensures.items c.deref.ensures.value in
    let written = subst (λ bytes. Appends (g.W.Write.contents c.loop.writer) (g.W.Write.contents c.write_whole.new.writer) bytes) out c.in_ok-write_whole.ensures.ok in
    let more = answers_more s.0 c.loop.onu (take c.loop.begun c.loop.text) c.loop.lines c.loop.total s.1 piece in
    let good = rw (holds, c.if-answered.false) at c.answer_lines-answered.ensures.bad in
    let next = so_far_more s.0 c.loop.onu (take c.loop.begun c.loop.text) c.loop.lines c.loop.total s.1 piece good in
    let counted = rw holds at (c.answer_lines-answered.ensures.lines c.if-answered.false) in
    let order : c.answer_lines-answered.result.rest ≤ c.loop.begun + c.in-Some.count =
    omega (arith, c.answer_lines-answered.ensures.within, length-take (c.loop.begun + c.in-Some.count) c.read_piece.new.text) in
    let front = moved c.answer_lines-answered.result.rest (c.loop.begun + c.in-Some.count) c.read_piece.new.text _ _ order c.move_to_front.ensures
    (c.answer_lines-answered.ensures.rest c.if-answered.false ∙ ap (λ bytes. (cut bytes).rest) holds) in
    let size : c.loop.total + c.in-Some.count ≡ c.loop.total + length piece =
    omega (arith, length-take c.in-Some.count (drop c.loop.begun c.read_piece.new.text), length-drop c.loop.begun c.read_piece.new.text, c.in-Some.ensures.within) in
    record {
      so_far = (s.0 ++ piece, so_far_as _ _ _ _ _ _ _ _ _ next (c.answer_lines-answered.ensures.onu ∙ rw holds refl) front (omega (arith, counted)) size, took, rw more (Appends-trans _ _ _ _ _ s.3 written));
      begun = omega arith;
      empty = c.clear.ensures.len;
      none = c.clear.ensures.items;
      room = omega (arith, c.answer_lines-answered.ensures.capacity, c.clear.ensures.capacity);
      few = omega (arith, c.in-Some.ensures.within);
      fewer = omega (arith, c.in-Some.ensures.within, c.answer_lines-answered.ensures.few, length-take (c.loop.begun + c.in-Some.count) c.read_piece.new.text);
    }
