use Rattle.std.proofs.Common.{◌≡◌, List, Option, ap, arith, subst, sym, ◌∙◌}
use Rattle.std.specs.List.{remove}
use Rattle.treatment.specs.Compiled.{Compiled}
use Rattle.port_plan.specs.CompiledTable.{AreTreats, NoneAsks}
use Rattle.port_plan.proofs.MovedTreats.{none-asks-removed, there-within, treats-removed}
use Rattle.port_plan.proofs.treats.remove_treat.Goals as goal

pub returns-then-len-at-clause-treats : goal.returns-then-len-at-clause-treats
returns-then-len-at-clause-treats c = λ settings old new place is are.
    absurd (omega (arith, there-within settings new old c.args.treats.now.items place c.args.number is are, c.if-len-at.true, c.len.ensures, c.from-at.ensures))

pub returns-clause-treats : goal.returns-clause-treats
returns-clause-treats c = λ settings old new place is are.
    let treats = c.args.treats.now.items in
    let made : c.remove.new.self.items ≡ remove treats c.args.number = c.remove.ensures.items ∙ ap (λ n. remove treats n) c.from-at.ensures in
    let P : List (Option Compiled) → Type 0 = λ l. AreTreats settings new l in
    subst P (sym made) (treats-removed settings old new treats place c.args.number is are)

pub returns-clause-none : goal.returns-clause-none
returns-clause-none c = λ before no.
    let treats = c.args.treats.now.items in
    let made : c.remove.new.self.items ≡ remove treats c.args.number = c.remove.ensures.items ∙ ap (λ n. remove treats n) c.from-at.ensures in
    let P : List (Option Compiled) → Type 0 = λ l. NoneAsks l in
    subst P c.deref.ensures.value
    (c.still_asks.ensures.none (λ here asked. subst P (sym (c.deref.ensures.value ∙ made)) (none-asks-removed treats c.args.number (before asked))) no)
