use Rattle.std.proofs.Common.{◌∙◌, length, refl, subst}
use Rattle.std.specs.Prelude.{OnOk, OnErr}
use Rattle.std.specs.Io.KnownBytes.{Appends}
use Rattle.text_writing.specs.Written.{AppendsPart}
use Rattle.bench_forward.proofs.Wholes.{bytes_whole}
use Rattle.bench_forward.proofs.port_capture.write_port_packet.Goals as goal

pub returns-clause-ok : goal.returns-clause-ok
returns-clause-ok g c =
    let bytes = c.args.bytes.now in
    let comment = c.args.comment.now in
    let whole = bytes_whole 0 c.args.time c.args.original (length bytes) (length comment) bytes comment comment c.as_slice.result.now c.as_slice-2.result.now
    refl refl refl (c.as_slice.ensures.value ∙ c.packet_front-front.ensures.items) (c.as_slice-2.ensures.value ∙ c.packet_end-end.ensures) in
    subst (λ bytes. OnOk c.write_three.result (Appends (g.W.Write.contents c.args.writer.now) (g.W.Write.contents c.write_three.new.writer) bytes))
    whole c.write_three.ensures.ok

pub returns-clause-err : goal.returns-clause-err
returns-clause-err g c =
    let bytes = c.args.bytes.now in
    let comment = c.args.comment.now in
    let whole = bytes_whole 0 c.args.time c.args.original (length bytes) (length comment) bytes comment comment c.as_slice.result.now c.as_slice-2.result.now
    refl refl refl (c.as_slice.ensures.value ∙ c.packet_front-front.ensures.items) (c.as_slice-2.ensures.value ∙ c.packet_end-end.ensures) in
    subst (λ bytes. OnErr c.write_three.result (AppendsPart (g.W.Write.contents c.args.writer.now) (g.W.Write.contents c.write_three.new.writer) bytes))
    whole c.write_three.ensures.err
