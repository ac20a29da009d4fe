use Rattle.std.proofs.Common.{◌≡◌, ◌∙◌, ◌<◌, Some, ap, sym, refl, length, slice_get}
use Rattle.std.proofs.lemmas.Bool.{ltb-true}
use Rattle.std.proofs.lemmas.Option.{slice_get_read}
use Rattle.bench_judge.proofs.Doubted.{leaves_decides}
use Rattle.bench_judge.proofs.seeing.leaves_so.Goals as goal

pub returns : goal.returns
returns c =
    let events = c.args.events.now in
    let frame = c.args.frame.now in
    let first = c.in-Some-Entered.ensures.lookup in
    let some : frame.sent < length events = ltb-true frame.sent (length events) (sym first.0) in
    let at : slice_get events frame.sent ≡ Some c.in-Some-Entered.field-0.now = slice_get_read events (length events) frame.sent c.in-Some-Entered.field-0.now refl some first.1 in
    leaves_decides c.args.padded events frame c.args.seen.now c.args.live.now c.in-Some-Entered.port c.in-Some-Entered.extent c.in-Some-Entered.sent c.ends_as.result
    (at ∙ ap Some c.in-Some-Entered.field-0-is) c.ends_as.ensures
