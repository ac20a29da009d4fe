use Rattle.std.proofs.Common.{sym}
use Rattle.frame_rows.proofs.rows.gem_port_at.Goals as goal

pub returns : goal.returns
returns c =
    let there = sym (rw c.in_ok-mapper.ensures.ok_part at c.mapper_at.ensures) in
    rw there (c.gem_port_of.ensures c.in_ok-mapper.field-0-0)
