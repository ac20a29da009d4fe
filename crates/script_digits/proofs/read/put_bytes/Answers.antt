use Rattle.std.proofs.Common.{◌*◌, arith}
use Rattle.hex.proofs.Pairs.{decode_done, decode_step}
use Rattle.script_digits.proofs.read.put_bytes.Goals as goal

pub loop-i-preserved : goal.loop-i-preserved
loop-i-preserved c =
    decode_step _ _ c.loop-i.i _ (omega arith) (omega arith) (c.byte_of.ensures (2 * c.loop-i.i)) c.loop-i.invariant

pub returns : goal.returns
returns c = decode_done _ c.loop-i.bytes c.loop-i.i (omega arith) (omega arith) c.loop-i.invariant
