use Rattle.std.proofs.Common.{◌++◌}
use Rattle.bench_forward.proofs.Wholes.{part_behind}
use Rattle.bench_forward.proofs.packet.write_three.Goals as goal

pub returns-in-Err-clause-err : goal.returns-in-Err-clause-err
returns-in-Err-clause-err g c =
    part_behind (g.W.Write.contents c.args.writer.now) (g.W.Write.contents c.write_whole.new.writer) (g.W.Write.contents c.write_both.new.writer)
    c.args.first.now (c.args.then.now ++ c.args.last.now) c.in_ok-write_whole.ensures.ok c.in-Err.ensures.err
