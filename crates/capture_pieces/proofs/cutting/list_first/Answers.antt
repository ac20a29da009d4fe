-- Each turn lists one frame more.
use Rattle.std.proofs.Common.{◌≡◌, ◌+◌, ◌∷◌, [], length, ap, ◌∙◌, sym, arith}
use Rattle.std.proofs.lemmas.List.{length-append}
use Rattle.capture.specs.Records.{frames_in}
use Rattle.capture_pieces.proofs.Listed.{listed_all, listed_more}
use Rattle.capture_pieces.proofs.cutting.list_first.Goals as goal

pub loop-records-preserved : goal.loop-records-preserved
loop-records-preserved c =
    let items = c.in_ok-push-in-Ok.ensures.items in
    let more : length c.push.new.self.items ≡ length c.loop-records.list.items + 1 = ap length items ∙ length-append c.loop-records.list.items (c.in-Ok.frame ∷ []) in
    record {
      frames = listed_more c.args.order (frames_in c.args.order c.args.all.now) c.loop-records.list.items c.push.new.self.items c.in-Ok.frame c.loop-records.records c.pass.new.self
          c.loop-records.invariant.frames (sym c.in-Ok.ensures.fault) c.in-Ok.ensures.frame c.in-Ok.ensures.behind items;
      within = omega (arith, more, c.loop-records-test.true, c.len.ensures);
    }

pub returns-in-Err : goal.returns-in-Err
returns-in-Err c =
    listed_all c.args.order (frames_in c.args.order c.args.all.now) c.loop-records.list.items c.loop-records.records c.in-Err.field-0 c.args.most
    c.loop-records.invariant.frames c.in-Err.ensures.fault c.loop-records.invariant.within
