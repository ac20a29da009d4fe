use Rattle.std.proofs.Common.{None, [], ◌∷◌, length}
use Rattle.std.specs.Prelude.{map}
use Rattle.frame_classes.specs.declared.example.Tear.{Tear}
use Rattle.frame_classes.specs.Beside.{SideFits, SideMarks}
use Rattle.frame_classes.specs.Differences.{AreTorn}
use Rattle.frame_classes.specs.Listed.{of_three, tell}
use Rattle.frame_classes.specs.Splitting.{AreExamplesOf}
use Rattle.frame_classes.specs.Told.{side_by}
use Rattle.frame_classes.proofs.Listed.{are_said, if_ok}
use Rattle.frame_classes.proofs.ListedSights.{are_torn, all_three, three_all}
use Rattle.frame_classes.proofs.listing.torn.Goals as goal

pub found_of-requires-clause-fit : goal.found_of-requires-clause-fit
found_of-requires-clause-fit c = three_all SideFits (side_by c.in_ok-first.first) (side_by c.in_ok-between.between) (side_by c.in_ok-last.last) c.in_ok-first.ensures.fit c.in_ok-between.ensures.fit c.in_ok-last.ensures.fit

pub found_of-requires-clause-marked : goal.found_of-requires-clause-marked
found_of-requires-clause-marked c = three_all SideMarks (side_by c.in_ok-first.first) (side_by c.in_ok-between.between) (side_by c.in_ok-last.last) c.in_ok-first.ensures.marked c.in_ok-between.ensures.marked c.in_ok-last.ensures.marked

pub tears_of-requires : goal.tears_of-requires
tears_of-requires c = all_three (side_by c.in_ok-first.first) (side_by c.in_ok-between.between) (side_by c.in_ok-last.last) None c.args.least c.in_ok-found.found.samples.items c.in_ok-found.ensures

pub returns : goal.returns
returns c =
    let samples = c.in_ok-found.found.samples.items in
    if_ok (λ list. AreExamplesOf c.args.least (length samples) samples (tell of_three (map (λ (e : Tear). ((e.before, e.here, e.after), e.frame.items)) list.items)))
    (λ list. AreTorn c.args.before.now.entities c.args.here.now.entities c.args.after.now.entities c.args.port c.args.least (map (λ (e : Tear). ((e.before, e.here, e.after), e.frame.items)) list.items))
    c.tears_of.result
    (λ list written.
    are_torn c.args.before.now.entities c.args.here.now.entities c.args.after.now.entities c.args.port c.args.least (side_by c.in_ok-first.first) (side_by c.in_ok-between.between) (side_by c.in_ok-last.last) (map (λ (e : Tear). ((e.before, e.here, e.after), e.frame.items)) list.items)
    (record { seen = c.in_ok-first.ensures.seen; mean = c.in_ok-first.ensures.mean; fit = c.in_ok-first.ensures.fit; output = c.in_ok-first.ensures.output })
    (record { seen = c.in_ok-between.ensures.seen; mean = c.in_ok-between.ensures.mean; fit = c.in_ok-between.ensures.fit; output = c.in_ok-between.ensures.output })
    (record { seen = c.in_ok-last.ensures.seen; mean = c.in_ok-last.ensures.mean; fit = c.in_ok-last.ensures.fit; output = c.in_ok-last.ensures.output })
    (are_said (side_by c.in_ok-first.first ∷ side_by c.in_ok-between.between ∷ side_by c.in_ok-last.last ∷ []) None c.args.least samples (tell of_three (map (λ (e : Tear). ((e.before, e.here, e.after), e.frame.items)) list.items)) c.in_ok-found.ensures written))
    c.tears_of.ensures
