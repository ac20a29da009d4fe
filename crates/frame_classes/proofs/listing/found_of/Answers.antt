use Rattle.std.proofs.Common.{List, map, subst, ◌∙◌}
use Rattle.frame_rows.specs.declared.rows.Rows.{Rows}
use Rattle.frame_classes.specs.Splitting.{AreTold}
use Rattle.frame_classes.specs.Told.{side_by}
use Rattle.frame_classes.proofs.Besides.{few_rows}
use Rattle.frame_classes.proofs.Keeping.{told_of_all}
use Rattle.frame_classes.proofs.listing.found_of.Goals as goal

pub of-beside-requires-clause-few : goal.of-beside-requires-clause-few
of-beside-requires-clause-few c =
    few_rows c.args.sides.now c.deref.result.now c.requires.three c.requires.few (c.deref.ensures.value ∙ c.in_ok-rows.ensures)

pub returns : goal.returns
returns c =
    subst (λ (sides : List Rows). AreTold (map side_by sides) c.args.wanted c.args.least c.find_all.new.found.samples.items) c.of-beside.ensures.sides
    (told_of_all (map side_by c.of-beside.result.sides.now) c.args.wanted c.args.least c.new-found.result.samples.items c.find_all.new.found.samples.items
    c.in_ok-find_all.ensures.more c.in_ok-find_all.ensures.wanted c.new-found.ensures c.in_ok-find_all.ensures.every)
