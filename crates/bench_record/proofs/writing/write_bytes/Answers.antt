use Rattle.std.proofs.Common.{arith}
use Rattle.std.proofs.lemmas.Grind.{common_steps}
use Rattle.bench_record.proofs.Parts.{all_written, any_err, more_written, none_left, part_written, split_again}
use Rattle.bench_record.proofs.writing.write_bytes.Goals as goal

pub returns-in_err-write_piece-clause-err : goal.returns-in_err-write_piece-clause-err
returns-in_err-write_piece-clause-err g c =
    any_err c.from_residual.result _
    (part_written _ (g.W.Write.contents c.loop-rest.writer) _ c.split_at.result.0.now c.split_at.result.1.now c.loop-rest.rest.now c.args.bytes.now
    (split_again c.min.result c.loop-rest.rest.now _ _ c.split_at.ensures.front c.split_at.ensures.back) c.loop-rest.invariant c.in_err-write_piece.ensures.err)

pub loop-rest-preserved : goal.loop-rest-preserved
loop-rest-preserved g c =
    more_written _ (g.W.Write.contents c.loop-rest.writer) _ c.split_at.result.0.now c.split_at.result.1.now c.loop-rest.rest.now c.args.bytes.now
    (split_again c.min.result c.loop-rest.rest.now _ _ c.split_at.ensures.front c.split_at.ensures.back) c.loop-rest.invariant c.in_ok-write_piece.ensures.ok

pub returns-clause-ok : goal.returns-clause-ok
returns-clause-ok g c = all_written _ _ c.loop-rest.rest.now c.args.bytes.now (none_left c.loop-rest.rest.now (grind (arith, common_steps))) c.loop-rest.invariant
