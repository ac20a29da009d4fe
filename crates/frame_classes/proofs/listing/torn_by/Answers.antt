use Rattle.std.specs.Prelude.{map}
use Rattle.frame_classes.specs.declared.example.Tear.{Tear}
use Rattle.frame_classes.specs.Differences.{AreTornBy, AreTornByRows}
use Rattle.frame_classes.specs.Told.{side_by}
use Rattle.frame_classes.proofs.Listed.{if_ok}
use Rattle.frame_classes.proofs.ListedSights.{are_torn_by}
use Rattle.frame_classes.proofs.listing.torn_by.Goals as goal

pub returns : goal.returns
returns c =
    let one = side_by c.in_ok-first.first in
    let two = side_by c.in_ok-between.between in
    let three = side_by c.in_ok-last.last in
    if_ok (λ list. AreTornByRows one two three c.args.least c.args.used (map (λ (e : Tear). ((e.before, e.here, e.after), e.frame.items)) list.items))
    (λ list. AreTornBy c.args.before.now.entities c.args.here.now.entities c.args.after.now.entities c.args.port c.args.least c.args.used (map (λ (e : Tear). ((e.before, e.here, e.after), e.frame.items)) list.items))
    c.torn_by_rows.result
    (λ list.
    are_torn_by c.args.before.now.entities c.args.here.now.entities c.args.after.now.entities c.args.port c.args.least c.args.used one two three (map (λ (e : Tear). ((e.before, e.here, e.after), e.frame.items)) list.items)
    (record { seen = c.in_ok-first.ensures.seen; mean = c.in_ok-first.ensures.mean; fit = c.in_ok-first.ensures.fit; output = c.in_ok-first.ensures.output })
    (record { seen = c.in_ok-between.ensures.seen; mean = c.in_ok-between.ensures.mean; fit = c.in_ok-between.ensures.fit; output = c.in_ok-between.ensures.output })
    (record { seen = c.in_ok-last.ensures.seen; mean = c.in_ok-last.ensures.mean; fit = c.in_ok-last.ensures.fit; output = c.in_ok-last.ensures.output }))
    c.torn_by_rows.ensures
