use Rattle.std.proofs.Common.{◌∙◌}
use Rattle.bench_forward.proofs.drops.write_dropped.Goals as goal

pub returns-clause-ok : goal.returns-clause-ok
returns-clause-ok g c =
    let said = c.as_slice.ensures.value ∙ c.dropped_comment-comment.ensures.text in
    rw (← c.time.ensures, ← c.original_len-original.ensures, ← c.bytes-bytes.ensures, ← said) c.write_port_packet.ensures.ok

pub returns-clause-err : goal.returns-clause-err
returns-clause-err g c =
    let said = c.as_slice.ensures.value ∙ c.dropped_comment-comment.ensures.text in
    rw (← c.time.ensures, ← c.original_len-original.ensures, ← c.bytes-bytes.ensures, ← said) c.write_port_packet.ensures.err
