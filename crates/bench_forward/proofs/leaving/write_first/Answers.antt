use Rattle.std.proofs.Common.{◌∙◌, length, subst}
use Rattle.std.specs.Io.KnownBytes.{Appends}
use Rattle.tag_view.specs.Frame.{frame_bytes}
use Rattle.text_writing.specs.Written.{AppendsPart}
use Rattle.bench_forward.specs.Blocks.{interface_block, packet_block}
use Rattle.bench_forward.specs.Comments.{leaving_comment}
use Rattle.bench_forward.proofs.Wholes.{part_behind}
use Rattle.bench_forward.proofs.leaving.write_first.Goals as goal

pub returns-in-Err-clause-err : goal.returns-in-Err-clause-err
returns-in-Err-clause-err g c =
    let before = g.W.Write.contents c.args.writer.now in
    let mid = g.W.Write.contents c.write_whole.new.writer in
    let after = g.W.Write.contents c.write_packet.new.writer in
    part_behind before mid after (interface_block c.args.gem)
    (packet_block c.args.number c.args.origin.time (length (frame_bytes c.args.frame.now)) (frame_bytes c.args.frame.now) (leaving_comment c.args.origin.number))
    (subst (λ bytes. Appends before mid bytes) (c.as_slice.ensures.value ∙ c.interface_block-interface.ensures) c.in_ok-write_whole.ensures.ok)
    (subst (λ number. AppendsPart mid after (packet_block number c.args.origin.time (length (frame_bytes c.args.frame.now))
    (frame_bytes c.args.frame.now) (leaving_comment c.args.origin.number))) c.from.ensures c.in-Err.ensures.err)
