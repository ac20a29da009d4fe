use Rattle.std.proofs.Common.{◌<◌, ◌^◌, ℕ, arith, ap, subst, sym, ◌∙◌}
use Rattle.std.specs.Prelude.{All, map}
use Rattle.std.proofs.lemmas.Bool.{true≢false}
use Rattle.frame_classes.specs.Choices.{is_spare}
use Rattle.frame_classes.specs.Told.{side_by}
use Rattle.frame_classes.proofs.TypeChoices.{fit_more, type_at}
use Rattle.frame_classes.proofs.choices.Case.put_spare_type.Goals as goal

pub returns-then-is_spare-clause-fit : goal.returns-then-is_spare-clause-fit
returns-then-is_spare-clause-fit c =
    λ fit.
    fit_more c.loop-number.choices.items c.put.new.choices.items _ (omega arith) c.put.ensures.only
    (subst (λ choices. All (λ (v : ℕ). v < 2 ^ 16) choices.items) (sym c.loop-number.invariant.same) fit)

-- where all were tried, none is such
pub returns-clause-spare : goal.returns-clause-spare
returns-clause-spare c =
    λ v small is.
    let at = type_at v small in
    let within = at.1.0 in
    let spare = is_spare (map side_by c.args.self.now.sides.now.sides.now) c.args.self.now.rows.now c.args.self.now.left.now c.args.field in
    absurd (true≢false (sym is ∙ ap spare (sym at.1.1) ∙ c.loop-number.invariant.asked at.0 (omega (arith, within))))
