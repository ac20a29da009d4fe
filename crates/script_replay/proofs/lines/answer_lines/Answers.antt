use Rattle.std.proofs.Common.{◌+◌, ◌-◌, Some, None, drop, subst, sym, ◌∙◌, arith, refl, length-take}
use Rattle.memchr.specs.Find.{IsFirstByte, is_byte}
use Rattle.script_replay.proofs.Answering.{answering_line, answering_bad, answering_end}
use Rattle.script_replay.proofs.lines.answer_lines.Goals as goal

pub returns-then-answer_line : goal.returns-then-answer_line
returns-then-answer_line c =
    let found = subst (λ rest. IsFirstByte (is_byte 10) rest (Some c.in-Some.offset)) c.split_at.ensures.back c.in-Some.ensures in
    let bad = answering_bad _ _ _ _ _ _ _ _ c.loop-offset.invariant.answering c.in-Some.offset _ found refl (sym c.answer_line.ensures.bad ∙ c.if-answer_line.true) in
    record {
      bad = bad.bad;
      lines = λ e. absurd (cc);
      within = omega (arith, c.loop-offset.invariant.answering.in_order, c.loop-offset.invariant.answering.within);
      rest = λ e. absurd (cc);
      few = omega (arith, c.loop-offset.invariant.answering.few, c.loop-offset.invariant.answering.in_order, c.loop-offset.invariant.answering.within);
      items = c.answer_line.ensures.items ∙ bad.items_are;
      onu = c.answer_line.ensures.onu ∙ bad.state_is;
      capacity = omega arith;
    }

pub loop-offset-preserved : goal.loop-offset-preserved
loop-offset-preserved c =
    let found = subst (λ rest. IsFirstByte (is_byte 10) rest (Some c.in-Some.offset)) c.split_at.ensures.back c.in-Some.ensures in
    let now = answering_line _ _ _ _ _ _ _ _ c.loop-offset.invariant.answering c.in-Some.offset _ found refl (sym c.answer_line.ensures.bad ∙ c.if-answer_line.false) in
    record {
      answering = rw (c.answer_line.ensures.items, c.answer_line.ensures.onu) now;
      room = omega (
        arith,
        c.answer_line.ensures.len,
        c.answer_line.ensures.capacity,
        now.within,
        c.loop-offset.invariant.answering.in_order,
        length-take (c.loop-offset.from + c.in-Some.offset - c.loop-offset.start) (drop c.loop-offset.start c.args.piece.now),
      );
      capacity = omega arith;
    }

pub returns : goal.returns
returns c =
    let found = subst (λ rest. IsFirstByte (is_byte 10) rest None) c.split_at.ensures.back c.in_default.ensures in
    let end = answering_end _ _ _ _ _ _ _ _ c.loop-offset.invariant.answering found in
    record {
      bad = end.bad;
      lines = λ e. end.count;
      within = omega (arith, c.loop-offset.invariant.answering.in_order, c.loop-offset.invariant.answering.within);
      rest = λ e. end.rest;
      few = omega (arith, c.loop-offset.invariant.answering.few, c.loop-offset.invariant.answering.in_order, c.loop-offset.invariant.answering.within);
      items = end.items_are;
      onu = end.state_is;
      capacity = omega arith;
    }
