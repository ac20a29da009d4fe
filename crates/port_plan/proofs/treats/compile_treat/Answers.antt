use Rattle.std.proofs.Common.{◌≡◌, ◌<◌, ℕ, List, length, Option, arith, subst, sym, ◌∙◌}
use Rattle.std.specs.Prelude.{true, false, slice_set}
use Rattle.rule_index.specs.Filters.{tags_in}
use Rattle.vlan_rule.specs.Choice.{entry_at}
use Rattle.vlan_rule.specs.Rule.{IsRuleOf}
use Rattle.treatment.specs.Compiled.{Compiled, Treats}
use Rattle.port_plan.specs.CompiledTable.{NoneAsks, SomeAsks}
use Rattle.port_plan.proofs.CompiledTables.{none_asks_set, some_asks_set, treated_within, treats_set}
use Rattle.port_plan.proofs.treats.compile_treat.Goals as goal

pub returns-in_default-rule-clause-treats : goal.returns-in_default-rule-clause-treats
returns-in_default-rule-clause-treats c = λ entries treated are.
    absurd (omega (arith, (c.requires c.in-Some.place (sym c.in-Some.ensures)).0, c.in_default-rule.ensures))

pub returns-in_default-get_mut-clause-treats : goal.returns-in_default-get_mut-clause-treats
returns-in_default-get_mut-clause-treats c = λ entries treated are.
    absurd (omega (arith, treated_within c.args.settings.now entries c.args.index.now c.args.treats.now.items c.args.number treated are, c.in_default-get_mut.ensures))

pub returns-clause-treats : goal.returns-clause-treats
returns-clause-treats c = λ entries treated are.
    let settings = c.args.settings.now in
    let rule = c.in-Some-rule.rule.now in
    let treat = c.of-treat.result in
    let here = c.in-Some.ensures in
    let same = (c.requires c.in-Some.place (sym here)).1 in
    let is_rule : IsRuleOf (entry_at c.args.index.now c.in-Some.place) rule = subst (λ (e : List ℕ). IsRuleOf e rule) (sym same) c.in-Some-rule.ensures.1 in
    let right : Treats rule.treatment settings (tags_in rule.filter) treat =
    subst (λ (k : ℕ). Treats rule.treatment settings k treat) c.tags_in.ensures.value c.of-treat.ensures.treats in
    rw c.from.ensures (treats_set settings entries c.args.index.now c.args.treats.now.items c.args.number c.in-Some.place rule treat here
    is_rule right treated are)

pub returns-clause-none : goal.returns-clause-none
returns-clause-none c = λ before.
    let treats = c.args.treats.now.items in
    let number = c.from.result in
    let treat = c.of-treat.result in
    let within : number < length treats = omega (arith, c.in-Some-get_mut.ensures.item) in
    let unasked : c.asks-asks.result ≡ false → c.args.asked ≡ false → NoneAsks (slice_set treats number treat) = λ no asked.
    none_asks_set treats number treat within (sym c.asks-asks.ensures ∙ no) (before asked) in
    subst (λ (l : List (Option Compiled)). (c.asks-asks.result ≡ false → c.args.asked ≡ false → NoneAsks l) → c.still_asks.result ≡ false → NoneAsks l)
    c.deref.ensures.value c.still_asks.ensures.none unasked

pub returns-clause-some : goal.returns-clause-some
returns-clause-some c = λ before.
    let treats = c.args.treats.now.items in
    let number = c.from.result in
    let treat = c.of-treat.result in
    let within : number < length treats = omega (arith, c.in-Some-get_mut.ensures.item) in
    let asked : c.asks-asks.result ≡ true → SomeAsks (slice_set treats number treat) = λ yes.
    some_asks_set treats number treat within (sym c.asks-asks.ensures ∙ yes) in
    subst (λ (l : List (Option Compiled)). (c.asks-asks.result ≡ true → SomeAsks l) → c.still_asks.result ≡ true → SomeAsks l)
    c.deref.ensures.value c.still_asks.ensures.some asked
