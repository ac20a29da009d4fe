use Rattle.std.proofs.Common.{◌∙◌, ap}
use Rattle.hex.specs.Hex.{encode_lower}
use Rattle.bench_record.proofs.Parts.{err_both, ok_both, part_first}
use Rattle.bench_record.proofs.writing.write_front.Goals as goal

pub returns-in_err-write_whole-clause-err : goal.returns-in_err-write_whole-clause-err
returns-in_err-write_whole-clause-err g c =
    part_first c.from_residual.result (g.W.Write.contents c.args.writer.now) (g.W.Write.contents c.write_whole.new.writer) _ _ _
    (c.deref.ensures.0 ∙ c.head_of.ensures) c.in_err-write_whole.ensures.err

pub returns-clause-ok : goal.returns-clause-ok
returns-clause-ok g c =
    ok_both c.write_bytes.result (g.W.Write.contents c.args.writer.now) (g.W.Write.contents c.write_whole.new.writer) (g.W.Write.contents c.write_bytes.new.writer) _ _ _ _
    (c.deref.ensures.0 ∙ c.head_of.ensures) (ap encode_lower c.bytes_of.ensures) c.in_ok-write_whole.ensures.ok c.write_bytes.ensures.ok

pub returns-clause-err : goal.returns-clause-err
returns-clause-err g c =
    err_both c.write_bytes.result (g.W.Write.contents c.args.writer.now) (g.W.Write.contents c.write_whole.new.writer) (g.W.Write.contents c.write_bytes.new.writer) _ _ _ _
    (c.deref.ensures.0 ∙ c.head_of.ensures) (ap encode_lower c.bytes_of.ensures) c.in_ok-write_whole.ensures.ok c.write_bytes.ensures.err
