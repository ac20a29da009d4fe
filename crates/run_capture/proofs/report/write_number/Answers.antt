use Rattle.std.proofs.Common.{◌++◌, subst, ◌∙◌}
use Rattle.std.specs.Fmt.{decimal}
use Rattle.std.specs.Io.KnownBytes.{Appends}
use Rattle.text_writing.specs.Written.{AppendsPart}
use Rattle.run_capture.proofs.Parts.{part_before, part_behind}
use Rattle.run_capture.proofs.report.write_number.Goals as goal

pub returns-in_default-write_whole : goal.returns-in_default-write_whole
returns-in_default-write_whole g c =
    let before = g.W.Write.contents c.args.writer.now in
    let mid = g.W.Write.contents c.write_whole.new.writer in
    let after = g.W.Write.contents c.write_whole-2.new.writer in
    let digits = c.as_bytes.ensures.value ∙ c.format.ensures.text in
    let part = subst (λ bytes. AppendsPart mid after bytes) digits c.in_default-write_whole.ensures.err in
    part_behind before mid after c.args.front.now (decimal c.args.number ++ c.args.behind.now) c.in-Ok.ensures.ok (part_before mid after (decimal c.args.number) c.args.behind.now part)

pub returns : goal.returns
returns g c =
    let before = g.W.Write.contents c.args.writer.now in
    let first = g.W.Write.contents c.write_whole.new.writer in
    let second = g.W.Write.contents c.write_whole-2.new.writer in
    let after = g.W.Write.contents c.write_words.new.writer in
    let digits = c.as_bytes.ensures.value ∙ c.format.ensures.text in
    let number = subst (λ bytes. Appends first second bytes) digits c.in-Ok-write_whole.ensures.ok in
    part_behind before first after c.args.front.now (decimal c.args.number ++ c.args.behind.now) c.in-Ok.ensures.ok
    (part_behind first second after (decimal c.args.number) c.args.behind.now number c.write_words.ensures)
