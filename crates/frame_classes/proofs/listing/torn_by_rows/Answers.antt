use Rattle.std.proofs.Common.{◌≡◌, ◌∙◌, Some, List, [], ◌∷◌, length, subst, sym, ap}
use Rattle.std.specs.Prelude.{map}
use Rattle.frame_rows.specs.declared.row.Row.{Row}
use Rattle.frame_rows.specs.Sight.{Side}
use Rattle.frame_classes.specs.declared.example.Tear.{Tear}
use Rattle.frame_classes.specs.Beside.{SideFits, SideMarks}
use Rattle.frame_classes.specs.Differences.{AreTornByRows}
use Rattle.frame_classes.specs.Listed.{of_three, tell}
use Rattle.frame_classes.specs.Meeting.{met}
use Rattle.frame_classes.specs.Splitting.{AreExamplesOf, AreTold}
use Rattle.frame_classes.specs.Told.{side_by}
use Rattle.frame_classes.proofs.Listed.{are_said, if_ok}
use Rattle.frame_classes.proofs.ListedSights.{are_torn_by_rows, all_three, three_all}
use Rattle.frame_classes.proofs.MetRows.{met_fits, met_marks, told_met}
use Rattle.frame_classes.proofs.listing.torn_by_rows.Goals as goal

pub found_of-requires-clause-fit : goal.found_of-requires-clause-fit
found_of-requires-clause-fit c =
    three_all SideFits (side_by c.in_ok-earlier.earlier) (side_by c.in_ok-between.between) (side_by c.in_ok-later.later)
    (subst SideFits (sym c.in_ok-earlier.ensures.met) (met_fits c.deref.result.now c.args.used (side_by c.args.before.now) c.requires.before_fits))
    (subst SideFits (sym c.in_ok-between.ensures.met) (met_fits c.deref-2.result.now c.args.used (side_by c.args.here.now) c.requires.here_fits))
    (subst SideFits (sym c.in_ok-later.ensures.met) (met_fits c.deref-3.result.now c.args.used (side_by c.args.after.now) c.requires.after_fits))

pub found_of-requires-clause-marked : goal.found_of-requires-clause-marked
found_of-requires-clause-marked c =
    three_all SideMarks (side_by c.in_ok-earlier.earlier) (side_by c.in_ok-between.between) (side_by c.in_ok-later.later)
    (subst SideMarks (sym c.in_ok-earlier.ensures.met) (met_marks c.deref.result.now c.args.used (side_by c.args.before.now) c.requires.before_marks))
    (subst SideMarks (sym c.in_ok-between.ensures.met) (met_marks c.deref-2.result.now c.args.used (side_by c.args.here.now) c.requires.here_marks))
    (subst SideMarks (sym c.in_ok-later.ensures.met) (met_marks c.deref-3.result.now c.args.used (side_by c.args.after.now) c.requires.after_marks))

pub tears_of-requires : goal.tears_of-requires
tears_of-requires c = all_three (side_by c.in_ok-earlier.earlier) (side_by c.in_ok-between.between) (side_by c.in_ok-later.later) (Some c.args.used) c.args.least c.in_ok-found.found.samples.items c.in_ok-found.ensures

pub returns : goal.returns
returns c =
    let samples = c.in_ok-found.found.samples.items in
    let rows = c.args.here.now.rows.items in
    let one = side_by c.args.before.now in
    let two = side_by c.args.here.now in
    let three = side_by c.args.after.now in
    let kept : side_by c.in_ok-earlier.earlier ∷ side_by c.in_ok-between.between ∷ side_by c.in_ok-later.later ∷ []
    ≡ met rows c.args.used one ∷ met rows c.args.used two ∷ met rows c.args.used three ∷ [] =
    ap (λ (side : Side). side ∷ side_by c.in_ok-between.between ∷ side_by c.in_ok-later.later ∷ [])
    (c.in_ok-earlier.ensures.met ∙ ap (λ (all : List Row). met all c.args.used one) c.deref.ensures.value)
    ∙ ap (λ (side : Side). met rows c.args.used one ∷ side ∷ side_by c.in_ok-later.later ∷ [])
    (c.in_ok-between.ensures.met ∙ ap (λ (all : List Row). met all c.args.used two) c.deref-2.ensures.value)
    ∙ ap (λ (side : Side). met rows c.args.used one ∷ met rows c.args.used two ∷ side ∷ [])
    (c.in_ok-later.ensures.met ∙ ap (λ (all : List Row). met all c.args.used three) c.deref-3.ensures.value) in
    let told = told_met one two three c.args.used c.args.least samples
    (subst (λ (sides : List Side). AreTold sides (Some c.args.used) c.args.least samples) kept c.in_ok-found.ensures) in
    if_ok (λ list. AreExamplesOf c.args.least (length samples) samples (tell of_three (map (λ (e : Tear). ((e.before, e.here, e.after), e.frame.items)) list.items)))
    (λ list. AreTornByRows one two three c.args.least c.args.used (map (λ (e : Tear). ((e.before, e.here, e.after), e.frame.items)) list.items))
    c.tears_of.result
    (λ list written.
    are_torn_by_rows c.args.least c.args.used one two three (map (λ (e : Tear). ((e.before, e.here, e.after), e.frame.items)) list.items)
    (are_said (one ∷ two ∷ three ∷ []) (Some c.args.used) c.args.least samples (tell of_three (map (λ (e : Tear). ((e.before, e.here, e.after), e.frame.items)) list.items)) told written))
    c.tears_of.ensures
