use Rattle.std.proofs.Common.{◌∙◌, ap, length, subst}
use Rattle.std.specs.Prelude.{OnOk, OnErr}
use Rattle.std.specs.Io.KnownBytes.{Appends}
use Rattle.text_writing.specs.Written.{AppendsPart}
use Rattle.bench_forward.specs.Comments.{leaving_comment}
use Rattle.bench_forward.proofs.Wholes.{packet_whole}
use Rattle.bench_forward.proofs.packet.write_packet.Goals as goal

pub returns-clause-ok : goal.returns-clause-ok
returns-clause-ok g c =
    let said = c.leaving_comment-comment.ensures.text in
    let whole = packet_whole c.args.interface c.args.origin.time c.leaving_length-len.result c.len.result c.args.frame.now (leaving_comment c.args.origin.number)
    c.as_slice.result.now c.as_slice-2.result.now c.rest.result.now c.as_slice-3.result.now
    c.leaving_length-len.ensures (c.len.ensures.value ∙ ap length said) (c.as_slice.ensures.value ∙ said)
    (c.as_slice-2.ensures.value ∙ c.packet_head-head.ensures) c.rest.ensures (c.as_slice-3.ensures.value ∙ c.packet_end-end.ensures) in
    subst (λ bytes. OnOk c.write_three.result (Appends (g.W.Write.contents c.args.writer.now) (g.W.Write.contents c.write_three.new.writer) bytes)) whole c.write_three.ensures.ok

pub returns-clause-err : goal.returns-clause-err
returns-clause-err g c =
    let said = c.leaving_comment-comment.ensures.text in
    let whole = packet_whole c.args.interface c.args.origin.time c.leaving_length-len.result c.len.result c.args.frame.now (leaving_comment c.args.origin.number)
    c.as_slice.result.now c.as_slice-2.result.now c.rest.result.now c.as_slice-3.result.now
    c.leaving_length-len.ensures (c.len.ensures.value ∙ ap length said) (c.as_slice.ensures.value ∙ said)
    (c.as_slice-2.ensures.value ∙ c.packet_head-head.ensures) c.rest.ensures (c.as_slice-3.ensures.value ∙ c.packet_end-end.ensures) in
    subst (λ bytes. OnErr c.write_three.result (AppendsPart (g.W.Write.contents c.args.writer.now) (g.W.Write.contents c.write_three.new.writer) bytes)) whole c.write_three.ensures.err
