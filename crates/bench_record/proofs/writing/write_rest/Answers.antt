use Rattle.std.proofs.Common.{refl}
use Rattle.bench_record.proofs.Parts.{err_both, ok_both, part_first}
use Rattle.bench_record.proofs.writing.write_rest.Goals as goal

pub returns-in_err-write_tail-clause-err : goal.returns-in_err-write_tail-clause-err
returns-in_err-write_tail-clause-err g c =
    part_first c.from_residual.result (g.W.Write.contents c.args.writer.now) (g.W.Write.contents c.write_tail.new.writer) _ _ _
    (refl) c.in_err-write_tail.ensures.err

pub returns-clause-ok : goal.returns-clause-ok
returns-clause-ok g c =
    ok_both c.write_whole.result (g.W.Write.contents c.args.writer.now) (g.W.Write.contents c.write_tail.new.writer) (g.W.Write.contents c.write_whole.new.writer) _ _ _ _
    (refl) (refl) c.in_ok-write_tail.ensures.ok c.write_whole.ensures.ok

pub returns-clause-err : goal.returns-clause-err
returns-clause-err g c =
    err_both c.write_whole.result (g.W.Write.contents c.args.writer.now) (g.W.Write.contents c.write_tail.new.writer) (g.W.Write.contents c.write_whole.new.writer) _ _ _ _
    (refl) (refl) c.in_ok-write_tail.ensures.ok c.write_whole.ensures.err
