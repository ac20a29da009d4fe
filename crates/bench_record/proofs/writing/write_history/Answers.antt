use Rattle.std.proofs.Common.{◌<◌, ◌≤◌, length, arith, refl, subst}
use Rattle.std.specs.Io.KnownBytes.{Appends}
use Rattle.text_writing.specs.Written.{AppendsPart}
use Rattle.std.specs.List.{flat_map}
use Rattle.std.proofs.lemmas.Grind.{common_steps}
use Rattle.bench_record.specs.Text.{names_of}
use Rattle.bench_record.specs.declared.event.TimedEvent.{TimedEvent}
use Rattle.bench_record.proofs.Parts.{all_told, err_as, err_both, last_line, lines_at, more_told, ok_as, ok_both, part_first, part_told, text_is}
use Rattle.bench_record.proofs.writing.write_history.Goals as goal

pub returns-in_err-write_lines-clause-err : goal.returns-in_err-write_lines-clause-err
returns-in_err-write_lines-clause-err g c =
    let names = names_of c.args.names in
    let events = c.args.events.now in
    let within : c.loop-timed.timed-index < length events = grind (arith, common_steps) in
    err_as c.from_residual.result _ _ _ _ (text_is names events)
    (part_first c.from_residual.result _ _ _ (flat_map (lines_at names) events) last_line refl
    (part_told TimedEvent (lines_at names) _ (g.W.Write.contents c.loop-timed.writer) _ c.loop-timed.timed-index events _ within c.loop-timed.invariant
    (subst (λ (timed : TimedEvent). AppendsPart (g.W.Write.contents c.loop-timed.writer) (g.W.Write.contents c.write_lines.new.writer) (lines_at names timed))
    c.timed-item.is c.in_err-write_lines.ensures.err)))

pub loop-timed-preserved : goal.loop-timed-preserved
loop-timed-preserved g c =
    let names = names_of c.args.names in
    let events = c.args.events.now in
    let within : c.loop-timed.timed-index < length events = grind (arith, common_steps) in
    more_told TimedEvent (lines_at names) _ (g.W.Write.contents c.loop-timed.writer) _ c.loop-timed.timed-index events _ within c.loop-timed.invariant
    (subst (λ (timed : TimedEvent). Appends (g.W.Write.contents c.loop-timed.writer) (g.W.Write.contents c.write_lines.new.writer) (lines_at names timed))
    c.timed-item.is c.in_ok-write_lines.ensures.ok)

pub returns-clause-ok : goal.returns-clause-ok
returns-clause-ok g c =
    let names = names_of c.args.names in
    let events = c.args.events.now in
    let a = g.W.Write.contents c.args.writer.now in
    let b = g.W.Write.contents c.loop-timed.writer in
    let d = g.W.Write.contents c.write_whole.new.writer in
    let lines = flat_map (lines_at names) events in
    let past : length events ≤ c.loop-timed.timed-index = grind (arith, common_steps) in
    ok_as c.write_whole.result a d _ _ (text_is names events)
    (ok_both c.write_whole.result a b d lines last_line lines last_line refl refl
    (all_told TimedEvent (lines_at names) a b c.loop-timed.timed-index events past c.loop-timed.invariant) c.write_whole.ensures.ok)

pub returns-clause-err : goal.returns-clause-err
returns-clause-err g c =
    let names = names_of c.args.names in
    let events = c.args.events.now in
    let a = g.W.Write.contents c.args.writer.now in
    let b = g.W.Write.contents c.loop-timed.writer in
    let d = g.W.Write.contents c.write_whole.new.writer in
    let lines = flat_map (lines_at names) events in
    let past : length events ≤ c.loop-timed.timed-index = grind (arith, common_steps) in
    err_as c.write_whole.result a d _ _ (text_is names events)
    (err_both c.write_whole.result a b d lines last_line lines last_line refl refl
    (all_told TimedEvent (lines_at names) a b c.loop-timed.timed-index events past c.loop-timed.invariant) c.write_whole.ensures.err)
