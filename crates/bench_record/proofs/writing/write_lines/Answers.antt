use Rattle.std.proofs.Common.{refl}
use Rattle.bench_record.proofs.Parts.{err_both, ok_both, part_first}
use Rattle.bench_record.proofs.writing.write_lines.Goals as goal

pub returns-in_err-write_remarks-clause-err : goal.returns-in_err-write_remarks-clause-err
returns-in_err-write_remarks-clause-err g c =
    part_first c.from_residual.result (g.W.Write.contents c.args.writer.now) (g.W.Write.contents c.write_remarks.new.writer) _ _ _
    (refl) c.in_err-write_remarks.ensures.err

pub returns-clause-ok : goal.returns-clause-ok
returns-clause-ok g c =
    ok_both c.write_line.result (g.W.Write.contents c.args.writer.now) (g.W.Write.contents c.write_remarks.new.writer) (g.W.Write.contents c.write_line.new.writer) _ _ _ _
    (refl) (refl) c.in_ok-write_remarks.ensures.ok c.write_line.ensures.ok

pub returns-clause-err : goal.returns-clause-err
returns-clause-err g c =
    err_both c.write_line.result (g.W.Write.contents c.args.writer.now) (g.W.Write.contents c.write_remarks.new.writer) (g.W.Write.contents c.write_line.new.writer) _ _ _ _
    (refl) (refl) c.in_ok-write_remarks.ensures.ok c.write_line.ensures.err
