use Rattle.std.proofs.Common.{◌≡◌, Option, Some, None, ap, map, refl, rules, slice_get, ◌∙◌}
use Rattle.frame_rows.specs.declared.class.FrameClass.{FrameClass}
use Rattle.frame_rows.specs.declared.row.Row.{Row}
use Rattle.frame_rows.specs.declared.rows.Rows.{Rows}
use Rattle.frame_rows.specs.Row.{class_of_row}
use Rattle.frame_classes.specs.Left.{first_left}
use Rattle.frame_classes.specs.Told.{class_at, side_by}
use Rattle.frame_classes.proofs.FirstRows.{at_get, class_of, if_some}
use Rattle.frame_classes.proofs.sides.Sides.class.Goals as goal

pub returns-in-Some-Some : goal.returns-in-Some-Some
returns-in-Some-Some c =
    let sides = c.args.self.now.sides.now in
    let values = c.args.values.now in
    if_some (λ (s : Rows). Some c.class.result ≡ class_at (side_by s) values) (slice_get sides c.args.side) (λ s is.
    class_of sides c.args.side s values c.args.left.now (Some c.in-Some-Some.row.now) (Some c.class.result) c.requires.left is c.in-Some-Some.ensures
    (ap (λ (k : FrameClass). Some k) (c.class.ensures ∙ ap (λ (r : Rows). class_of_row r.endings c.in-Some-Some.row.now values) (c.in-Some-Some.ensures'.lookup.3.1 s ∙ at_get sides c.args.side s is))))

pub returns-in_default-2 : goal.returns-in_default-2
returns-in_default-2 c =
    let sides = c.args.self.now.sides.now in
    let values = c.args.values.now in
    let none : ◌≡◌ {A = Option Row} None (first_left (map side_by sides) c.args.left.now c.args.side) = search rules in
    if_some (λ (s : Rows). ◌≡◌ {A = Option FrameClass} None (class_at (side_by s) values)) (slice_get sides c.args.side) (λ s is.
    class_of sides c.args.side s values c.args.left.now None None c.requires.left is none refl)
