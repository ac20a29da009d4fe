use Rattle.std.specs.Prelude.{map}
use Rattle.frame_classes.specs.declared.example.Difference.{Difference}
use Rattle.frame_classes.specs.Differences.{AreApartBy, AreDifferences}
use Rattle.frame_classes.specs.Told.{side_by}
use Rattle.frame_classes.proofs.Listed.{if_ok}
use Rattle.frame_classes.proofs.ListedSights.{are_differences}
use Rattle.frame_classes.proofs.listing.differences.Goals as goal

pub returns : goal.returns
returns c =
    if_ok (λ list. AreApartBy (side_by c.in_ok-rows.rows) (side_by c.in_ok-next.next) c.args.least (map (λ (e : Difference). ((e.before, e.after), e.frame.items)) list.items))
    (λ list. AreDifferences c.args.one.now.entities c.args.other.now.entities c.args.port c.args.least (map (λ (e : Difference). ((e.before, e.after), e.frame.items)) list.items))
    c.differences_by_rows.result
    (λ list.
    are_differences c.args.one.now.entities c.args.other.now.entities c.args.port c.args.least (side_by c.in_ok-rows.rows) (side_by c.in_ok-next.next) (map (λ (e : Difference). ((e.before, e.after), e.frame.items)) list.items)
    (record { seen = c.in_ok-rows.ensures.seen; mean = c.in_ok-rows.ensures.mean; fit = c.in_ok-rows.ensures.fit; output = c.in_ok-rows.ensures.output })
    (record { seen = c.in_ok-next.ensures.seen; mean = c.in_ok-next.ensures.mean; fit = c.in_ok-next.ensures.fit; output = c.in_ok-next.ensures.output }))
    c.differences_by_rows.ensures
