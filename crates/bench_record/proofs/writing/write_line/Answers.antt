use Rattle.std.proofs.Common.{◌≡◌, ◌++◌, ◌∷◌, [], append_assoc, refl}
use Rattle.hex.specs.Hex.{encode_lower}
use Rattle.bench_history.specs.declared.event.Event.{Event}
use Rattle.bench_record.specs.Text.{bytes_of, event_shown, head_of, line_of, tail_of}
use Rattle.bench_record.proofs.Parts.{err_as, err_both, ok_as, ok_both, part_first}
use Rattle.bench_record.proofs.writing.write_line.Goals as goal

line_is : (event : Event) → (head_of event ++ encode_lower (bytes_of event)) ++ (tail_of event ++ 10 ∷ []) ≡ line_of event
line_is event = append_assoc (head_of event) (encode_lower (bytes_of event)) (tail_of event ++ 10 ∷ [])

pub returns-in_err-write_front-clause-err : goal.returns-in_err-write_front-clause-err
returns-in_err-write_front-clause-err g c =
    let event = event_shown c.args.event.now in
    let a = g.W.Write.contents c.args.writer.now in
    let b = g.W.Write.contents c.write_front.new.writer in
    let front = head_of event ++ encode_lower (bytes_of event) in
    let behind = tail_of event ++ 10 ∷ [] in
    err_as c.from_residual.result a b (front ++ behind) (line_of event) (line_is event) (part_first c.from_residual.result a b front front behind refl c.in_err-write_front.ensures.err)

pub returns-clause-ok : goal.returns-clause-ok
returns-clause-ok g c =
    let event = event_shown c.args.event.now in
    let a = g.W.Write.contents c.args.writer.now in
    let b = g.W.Write.contents c.write_front.new.writer in
    let d = g.W.Write.contents c.write_rest.new.writer in
    let front = head_of event ++ encode_lower (bytes_of event) in
    let behind = tail_of event ++ 10 ∷ [] in
    ok_as c.write_rest.result a d (front ++ behind) (line_of event) (line_is event)
    (ok_both c.write_rest.result a b d front behind front behind refl refl c.in_ok-write_front.ensures.ok c.write_rest.ensures.ok)

pub returns-clause-err : goal.returns-clause-err
returns-clause-err g c =
    let event = event_shown c.args.event.now in
    let a = g.W.Write.contents c.args.writer.now in
    let b = g.W.Write.contents c.write_front.new.writer in
    let d = g.W.Write.contents c.write_rest.new.writer in
    let front = head_of event ++ encode_lower (bytes_of event) in
    let behind = tail_of event ++ 10 ∷ [] in
    err_as c.write_rest.result a d (front ++ behind) (line_of event) (line_is event)
    (err_both c.write_rest.result a b d front behind front behind refl refl c.in_ok-write_front.ensures.ok c.write_rest.ensures.err)
