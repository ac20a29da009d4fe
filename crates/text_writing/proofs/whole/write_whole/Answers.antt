use Rattle.std.proofs.Common.{take, arith, subst}
use Rattle.std.specs.Io.KnownBytes.{Appends}
use Rattle.std.proofs.Math.Seq.{take-add}
use Rattle.std.proofs.KnownBytes.{Appends-trans}
use Rattle.text_writing.proofs.whole.write_whole.Goals as goal

pub loop-written-preserved : goal.loop-written-preserved
loop-written-preserved g c = record {
  within = grind arith;
  so_far = rw (take-add c.loop-written.written c.in-Ok.taken c.args.bytes.now) (Appends-trans _ _ _ _ _
      c.loop-written.invariant.so_far
      (subst (λ rest. Appends (g.W.Write.contents c.loop-written.writer) (g.W.Write.contents c.write.new.self) (take c.in-Ok.taken rest)) c.split_at.ensures.back c.in-Ok.ensures.bytes));
}
