use Rattle.std.proofs.Common.{map, subst}
use Rattle.std.specs.Prelude.{Contains}
use Rattle.frame_classes.specs.declared.told.Told.{Told}
use Rattle.frame_classes.specs.Found.{told_of}
use Rattle.frame_classes.specs.Told.{side_by}
use Rattle.frame_classes.proofs.Keeping.{told_is, told_there}
use Rattle.frame_classes.proofs.splitting.Splitting.is_known.Goals as goal

pub returns-in-Some : goal.returns-in-Some
returns-in-Some c =
    λ h others told agree tells.
    let sides = map side_by c.args.self.now.sides.now.sides.now in
    subst (λ (t : Told). Contains (told_of c.args.found.now.samples.items) t)
    (told_is sides others c.in-Some.told told (c.in-Some.ensures others agree) tells)
    (told_there sides c.args.self.now.least c.in-Some.told c.args.found.now.samples.items c.has.ensures.fits c.requires.samples (c.has.ensures.there h))
