use Rattle.std.proofs.Common.{None, [], ◌∷◌, length}
use Rattle.std.specs.Prelude.{map}
use Rattle.frame_classes.specs.declared.example.ClassExample.{ClassExample}
use Rattle.frame_classes.specs.Beside.{SideFits, SideMarks}
use Rattle.frame_classes.specs.Classes.{AreClasses}
use Rattle.frame_classes.specs.Listed.{of_one, tell}
use Rattle.frame_classes.specs.Splitting.{AreExamplesOf}
use Rattle.frame_classes.specs.Told.{side_by}
use Rattle.frame_classes.proofs.Listed.{are_said, if_ok}
use Rattle.frame_classes.proofs.ListedSights.{are_classes, all_one, one_all}
use Rattle.frame_classes.proofs.listing.classes.Goals as goal

pub found_of-requires-clause-fit : goal.found_of-requires-clause-fit
found_of-requires-clause-fit c = one_all SideFits (side_by c.in_ok-rows.rows) c.in_ok-rows.ensures.fit

pub found_of-requires-clause-marked : goal.found_of-requires-clause-marked
found_of-requires-clause-marked c = one_all SideMarks (side_by c.in_ok-rows.rows) c.in_ok-rows.ensures.marked

pub examples_of-requires : goal.examples_of-requires
examples_of-requires c = all_one (side_by c.in_ok-rows.rows) c.args.least c.in_ok-found.found.samples.items c.in_ok-found.ensures

pub returns : goal.returns
returns c =
    let samples = c.in_ok-found.found.samples.items in
    if_ok (λ list. AreExamplesOf c.args.least (length samples) samples (tell of_one (map (λ (e : ClassExample). (e.class, e.frame.items)) list.items)))
    (λ list. AreClasses c.args.mib.now.entities c.args.port c.args.least (map (λ (e : ClassExample). (e.class, e.frame.items)) list.items))
    c.examples_of.result
    (λ list written.
    are_classes c.args.mib.now.entities c.args.port c.args.least (side_by c.in_ok-rows.rows) (map (λ (e : ClassExample). (e.class, e.frame.items)) list.items)
    (record { seen = c.in_ok-rows.ensures.seen; mean = c.in_ok-rows.ensures.mean; fit = c.in_ok-rows.ensures.fit; output = c.in_ok-rows.ensures.output })
    (are_said (side_by c.in_ok-rows.rows ∷ []) None c.args.least samples (tell of_one (map (λ (e : ClassExample). (e.class, e.frame.items)) list.items)) c.in_ok-found.ensures written))
    c.examples_of.ensures
