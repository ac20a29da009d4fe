use Rattle.std.proofs.Common.{◌++◌, ◌∷◌, [], subst}
use Rattle.std.specs.Fmt.{decimal}
use Rattle.std.specs.Prelude.{codes}
use Rattle.capture.specs.declared.fault.CaptureFault.TheVariants.{Magic, Header, Link, Torn, TooLong}
use Rattle.text_writing.specs.Written.{AppendsPart}
use Rattle.run_capture.proofs.Parts.{capture_part}
use Rattle.run_capture.proofs.report.write_capture_fault.Goals as goal

pub returns-in-Magic : goal.returns-in-Magic
returns-in-Magic g c = capture_part (g.W.Write.contents c.args.writer.now) (g.W.Write.contents c.write_words.new.writer) c.args.fault Magic c.in-Magic.is c.write_words.ensures

pub returns-in-Header : goal.returns-in-Header
returns-in-Header g c = capture_part (g.W.Write.contents c.args.writer.now) (g.W.Write.contents c.write_words-in-Header.new.writer) c.args.fault Header c.in-Header.is c.write_words-in-Header.ensures

pub returns-in-Link : goal.returns-in-Link
returns-in-Link g c =
    capture_part (g.W.Write.contents c.args.writer.now) (g.W.Write.contents c.write_number.new.writer) c.args.fault (Link c.in-Link.link) c.in-Link.is
    (subst (λ n. AppendsPart (g.W.Write.contents c.args.writer.now) (g.W.Write.contents c.write_number.new.writer) (codes "capture fault 3 at " ++ decimal n ++ 10 ∷ [])) c.from.ensures c.write_number.ensures)

pub returns-in-Torn : goal.returns-in-Torn
returns-in-Torn g c =
    capture_part (g.W.Write.contents c.args.writer.now) (g.W.Write.contents c.write_number-in-Torn.new.writer) c.args.fault (Torn c.in-Torn.record) c.in-Torn.is
    (subst (λ n. AppendsPart (g.W.Write.contents c.args.writer.now) (g.W.Write.contents c.write_number-in-Torn.new.writer) (codes "capture fault 4 at " ++ decimal n ++ 10 ∷ [])) c.from-in-Torn.ensures c.write_number-in-Torn.ensures)

pub returns-in-TooLong : goal.returns-in-TooLong
returns-in-TooLong g c =
    capture_part (g.W.Write.contents c.args.writer.now) (g.W.Write.contents c.write_number-in-TooLong.new.writer) c.args.fault (TooLong c.in-TooLong.record) c.in-TooLong.is
    (subst (λ n. AppendsPart (g.W.Write.contents c.args.writer.now) (g.W.Write.contents c.write_number-in-TooLong.new.writer) (codes "capture fault 5 at " ++ decimal n ++ 10 ∷ [])) c.from-in-TooLong.ensures c.write_number-in-TooLong.ensures)
