use Rattle.std.proofs.Common.{◌≡◌, ◌<◌, Some, sym, refl, length, slice_get}
use Rattle.std.proofs.lemmas.Bool.{ltb-true}
use Rattle.std.proofs.lemmas.Option.{slice_get_read}
use Rattle.bench_judge.proofs.SeenBy.{seen_decides}
use Rattle.bench_judge.proofs.seeing.is_seen.Goals as goal

pub returns : goal.returns
returns c =
    let events = c.args.events.now in
    let frame = c.args.frame.now in
    let last = c.in-Some-get.ensures.lookup in
    let under : c.in-Some.end < length events = ltb-true c.in-Some.end (length events) (sym last.0) in
    let there : slice_get events c.in-Some.end ≡ Some c.in-Some-get.seen.now = slice_get_read events (length events) c.in-Some.end c.in-Some-get.seen.now refl under last.1 in
    seen_decides c.args.padded events frame c.args.live.now c.in-Some.end c.in-Some-get.seen.now c.leaves_so.result c.in-Some.is there c.leaves_so.ensures
