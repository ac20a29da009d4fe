use Rattle.std.proofs.Common.{◌≡◌, ◌∙◌, true, false, not, ap, refl, sym}
use Rattle.std.specs.Prelude.{is_none}
use Rattle.mib_state.specs.Entities.{find}
use Rattle.explain_findings.proofs.Growing.{is_none-mapped}
use Rattle.explain_findings.proofs.mapper.priority_finding.Goals as goal

pub returns-in_default : goal.returns-in_default
returns-in_default c = rw (← c.in_default.ensures c.args.number) refl

pub returns-then-is_none : goal.returns-then-is_none
returns-then-is_none c =
    let gone : is_none (find c.in-Some.pointer c.args.mib.now.entities.interworks) ≡ true =
    ap is_none (sym c.interwork.ensures) ∙ is_none-mapped _ c.interwork.result ∙ ap not c.if-is_none.ensures in
    rw (← c.in-Some.ensures c.args.number, gone) refl

pub returns-in-Ok : goal.returns-in-Ok
returns-in-Ok c =
    let there : is_none (find c.in-Some.pointer c.args.mib.now.entities.interworks) ≡ false =
    ap is_none (sym c.interwork.ensures) ∙ is_none-mapped _ c.interwork.result ∙ ap not c.if-is_none.ensures in
    rw (← c.in-Some.ensures c.args.number, there, ← c.in-Ok.ensures c.args.number) refl

pub returns-in-Err : goal.returns-in-Err
returns-in-Err c =
    let there : is_none (find c.in-Some.pointer c.args.mib.now.entities.interworks) ≡ false =
    ap is_none (sym c.interwork.ensures) ∙ is_none-mapped _ c.interwork.result ∙ ap not c.if-is_none.ensures in
    rw (← c.in-Some.ensures c.args.number, there, ← c.in-Err.ensures c.args.number) refl
