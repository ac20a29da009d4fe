use Rattle.std.proofs.Common.{◌≡◌, ◌<◌, ◌++◌, ℕ, List, [], ◌∷◌, ap, arith, subst, sym, ◌∙◌}
use Rattle.std.specs.Prelude.{All}
use Rattle.frame_classes.specs.Words.{places_under}
use Rattle.frame_classes.proofs.WordPlaces.{pushed}
use Rattle.frame_classes.proofs.left.Left.push.Goals as goal

pub returns : goal.returns
returns c =
    let old : places_under 448 c.self.inside.words ≡ c.args.self.now = c.self.view_is in
    pushed 448 c.self.inside.words c.args.place c.requires.within (omega arith) (subst (All (λ (other : ℕ). other < c.args.place)) (sym old) c.requires.behind)
    ∙ ap (λ (places : List ℕ). places ++ c.args.place ∷ []) old
