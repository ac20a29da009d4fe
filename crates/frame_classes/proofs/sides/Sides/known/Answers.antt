use Rattle.std.proofs.Common.{◌≡◌, map, subst, sym}
use Rattle.std.specs.Prelude.{IfSome, Some}
use Rattle.frame_rows.specs.declared.field.Values.{Values}
use Rattle.frame_rows.specs.Field.{place_of}
use Rattle.frame_classes.specs.Splitting.{Agree}
use Rattle.frame_classes.specs.Told.{classes_at, side_by}
use Rattle.frame_classes.proofs.KnownClasses.{told_known}
use Rattle.frame_classes.proofs.sides.Sides.known.Goals as goal

pub returns : goal.returns
returns c =
    subst (λ (r : _). IfSome r (λ told. (others : Values) → Agree (place_of c.args.field) c.args.values.now others
    → classes_at (map side_by c.args.self.now.sides.now) others ≡ Some told)) (sym c.of.ensures)
    (told_known c.args.self.now.sides.now c.args.field c.args.values.now c.known_class-first.result c.known_class-second.result c.known_class-third.result
    c.requires.beside.three c.known_class-first.ensures c.known_class-second.ensures c.known_class-third.ensures)
