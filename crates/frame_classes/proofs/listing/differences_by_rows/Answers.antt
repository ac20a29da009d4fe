use Rattle.std.proofs.Common.{None, [], ◌∷◌, length}
use Rattle.std.specs.Prelude.{map}
use Rattle.frame_classes.specs.declared.example.Difference.{Difference}
use Rattle.frame_classes.specs.Beside.{SideFits, SideMarks}
use Rattle.frame_classes.specs.Differences.{AreApartBy}
use Rattle.frame_classes.specs.Listed.{of_two, tell}
use Rattle.frame_classes.specs.Splitting.{AreExamplesOf}
use Rattle.frame_classes.specs.Told.{side_by}
use Rattle.frame_classes.proofs.Listed.{are_said, if_ok}
use Rattle.frame_classes.proofs.ListedSights.{all_two, are_apart_by, two_all}
use Rattle.frame_classes.proofs.listing.differences_by_rows.Goals as goal

pub found_of-requires-clause-fit : goal.found_of-requires-clause-fit
found_of-requires-clause-fit c = two_all SideFits (side_by c.args.one) (side_by c.args.other) c.requires.one_fits c.requires.other_fits

pub found_of-requires-clause-marked : goal.found_of-requires-clause-marked
found_of-requires-clause-marked c = two_all SideMarks (side_by c.args.one) (side_by c.args.other) c.requires.one_marks c.requires.other_marks

pub differences_of-requires : goal.differences_of-requires
differences_of-requires c = all_two (side_by c.args.one) (side_by c.args.other) c.args.least c.in_ok-found.found.samples.items c.in_ok-found.ensures

pub returns : goal.returns
returns c =
    let samples = c.in_ok-found.found.samples.items in
    if_ok (λ list. AreExamplesOf c.args.least (length samples) samples (tell of_two (map (λ (e : Difference). ((e.before, e.after), e.frame.items)) list.items)))
    (λ list. AreApartBy (side_by c.args.one) (side_by c.args.other) c.args.least (map (λ (e : Difference). ((e.before, e.after), e.frame.items)) list.items))
    c.differences_of.result
    (λ list written.
    are_apart_by c.args.least (side_by c.args.one) (side_by c.args.other) (map (λ (e : Difference). ((e.before, e.after), e.frame.items)) list.items)
    (are_said (side_by c.args.one ∷ side_by c.args.other ∷ []) None c.args.least samples (tell of_two (map (λ (e : Difference). ((e.before, e.after), e.frame.items)) list.items)) c.in_ok-found.ensures written))
    c.differences_of.ensures
