use Rattle.std.proofs.Common.{rules, ◌≡◌, ◌∙◌, List, ap, sym}
use Rattle.frame_rows.specs.declared.class.Ending.{Ending}
use Rattle.frame_rows.specs.declared.row.Ends.{Ends}
use Rattle.frame_rows.specs.Row.{ending_of}
use Rattle.frame_classes.proofs.Silent.{endings_are}
use Rattle.frame_classes.proofs.alike.are_ended_alike.Goals as goal

pub returns-then-eq : goal.returns-then-eq
returns-then-eq c =
    λ h values.
    let same : c.args.ends.now ≡ c.args.beside.now = search rules in
    ap (λ (e : List Ending). ending_of e c.args.ends.now values) (endings_are c.args.endings.now c.args.others.now (sym c.eq-then-eq.ensures ∙ h))
    ∙ ap (λ (e : Ends). ending_of c.args.others.now e values) same
