use Rattle.std.proofs.Common.{◌≡◌, ◌≤◌, ℕ, List, Bool, true, cond, length, Option, ap, arith, sym, subst, ◌∙◌}
use Rattle.std.specs.List.{insert}
use Rattle.std.specs.Result.{is_ok}
use Rattle.std.proofs.lemmas.Bool.{or_from, or_left, or_right}
use Rattle.rule_index.specs.Filters.{tags_in}
use Rattle.vlan_rule.specs.Choice.{entry_at}
use Rattle.vlan_rule.specs.Rule.{IsRuleOf}
use Rattle.treatment.specs.Compiled.{Compiled, Treats}
use Rattle.port_plan.proofs.MovedTreats.{none-asks-inserted, number-within, some-asks-inserted, treats-inserted}
use Rattle.port_plan.proofs.treats.insert_treat.Goals as goal

-- what an insertion with room for it leaves
inserted : (new treats : List (Option Compiled)) (at number : ℕ) (treat : Option Compiled) (ok : Bool) → ok ≡ true → at ≡ number
    → new ≡ cond ok (insert treats at treat) treats → new ≡ insert treats number treat
inserted new treats at number treat ok is same made =
    made ∙ ap (λ (b : Bool). cond b (insert treats at treat) treats) is ∙ ap (λ n. insert treats n treat) same

pub returns-then-len-at-clause-treats : goal.returns-then-len-at-clause-treats
returns-then-len-at-clause-treats c = λ entries place is are.
    absurd (omega (arith, number-within c.args.settings.now entries c.args.treats.now.items c.args.number is.within are, c.if-len-at.true, c.len.ensures, c.from-at.ensures))

pub returns-in_default-rule-clause-treats : goal.returns-in_default-rule-clause-treats
returns-in_default-rule-clause-treats c = λ entries place is are.
    absurd (omega (arith, (c.requires.taken c.in-Some.place (sym c.in-Some.ensures)).0, c.in_default-rule.ensures))

pub returns-then-asked-clause-treats : goal.returns-then-asked-clause-treats
returns-then-asked-clause-treats c = λ entries place is are.
    let settings = c.args.settings.now in
    let treats = c.args.treats.now.items in
    let rule = c.in-Some-rule.rule.now in
    let treat = c.of-treat.result in
    let here = c.in-Some.ensures in
    let same = (c.requires.taken c.in-Some.place (sym here)).1 in
    let is_rule : IsRuleOf (entry_at c.args.index.now c.in-Some.place) rule = subst (λ (e : List ℕ). IsRuleOf e rule) (sym same) c.in-Some-rule.ensures.1 in
    let right : Treats rule.treatment settings (tags_in rule.filter) treat =
    subst (λ (k : ℕ). Treats rule.treatment settings k treat) c.tags_in.ensures.value c.of-treat.ensures.treats in
    let ok : is_ok c.insert.result ≡ true = c.insert.ensures.succeeds (omega (arith, c.requires.space, c.requires.room)) in
    rw (inserted c.insert.new.self.items treats c.from-at.result c.args.number treat (is_ok c.insert.result) ok c.from-at.ensures c.insert.ensures.items)
    (treats-inserted settings entries c.args.index.now treats place c.args.number c.in-Some.place rule treat here is_rule right (omega (arith, c.requires.space)) is are)

pub returns-else-asked-clause-treats : goal.returns-else-asked-clause-treats
returns-else-asked-clause-treats c = λ entries place is are.
    let settings = c.args.settings.now in
    let treats = c.args.treats.now.items in
    let rule = c.in-Some-rule.rule.now in
    let treat = c.of-treat.result in
    let here = c.in-Some.ensures in
    let same = (c.requires.taken c.in-Some.place (sym here)).1 in
    let is_rule : IsRuleOf (entry_at c.args.index.now c.in-Some.place) rule = subst (λ (e : List ℕ). IsRuleOf e rule) (sym same) c.in-Some-rule.ensures.1 in
    let right : Treats rule.treatment settings (tags_in rule.filter) treat =
    subst (λ (k : ℕ). Treats rule.treatment settings k treat) c.tags_in.ensures.value c.of-treat.ensures.treats in
    let ok : is_ok c.insert.result ≡ true = c.insert.ensures.succeeds (omega (arith, c.requires.space, c.requires.room)) in
    rw (inserted c.insert.new.self.items treats c.from-at.result c.args.number treat (is_ok c.insert.result) ok c.from-at.ensures c.insert.ensures.items)
    (treats-inserted settings entries c.args.index.now treats place c.args.number c.in-Some.place rule treat here is_rule right (omega (arith, c.requires.space)) is are)

pub returns-then-asked-clause-some : goal.returns-then-asked-clause-some
returns-then-asked-clause-some c = λ before yes.
    let treats = c.args.treats.now.items in
    let treat = c.of-treat.result in
    let within : c.args.number ≤ length treats = omega (arith, c.if-len-at.false, c.len.ensures, c.from-at.ensures) in
    let ok : is_ok c.insert.result ≡ true = c.insert.ensures.succeeds (omega (arith, c.requires.space, c.requires.room)) in
    rw (inserted c.insert.new.self.items treats c.from-at.result c.args.number treat (is_ok c.insert.result) ok c.from-at.ensures c.insert.ensures.items)
    (some-asks-inserted treats c.args.number treat c.args.asked c.asks-asks.result within c.asks-asks.ensures before (or_left c.args.asked c.asks-asks.result yes))

pub returns-else-asked-clause-some : goal.returns-else-asked-clause-some
returns-else-asked-clause-some c = λ before yes.
    let treats = c.args.treats.now.items in
    let treat = c.of-treat.result in
    let within : c.args.number ≤ length treats = omega (arith, c.if-len-at.false, c.len.ensures, c.from-at.ensures) in
    let ok : is_ok c.insert.result ≡ true = c.insert.ensures.succeeds (omega (arith, c.requires.space, c.requires.room)) in
    rw (inserted c.insert.new.self.items treats c.from-at.result c.args.number treat (is_ok c.insert.result) ok c.from-at.ensures c.insert.ensures.items)
    (some-asks-inserted treats c.args.number treat c.args.asked c.asks-asks.result within c.asks-asks.ensures before (or_right c.args.asked c.asks-asks.result yes))

pub returns-else-asked-clause-none : goal.returns-else-asked-clause-none
returns-else-asked-clause-none c = λ before no.
    let treats = c.args.treats.now.items in
    let treat = c.of-treat.result in
    let within : c.args.number ≤ length treats = omega (arith, c.if-len-at.false, c.len.ensures, c.from-at.ensures) in
    let ok : is_ok c.insert.result ≡ true = c.insert.ensures.succeeds (omega (arith, c.requires.space, c.requires.room)) in
    rw (inserted c.insert.new.self.items treats c.from-at.result c.args.number treat (is_ok c.insert.result) ok c.from-at.ensures c.insert.ensures.items)
    (none-asks-inserted treats c.args.number treat c.args.asked c.asks-asks.result within c.asks-asks.ensures before (or_from c.args.asked c.asks-asks.result c.if-asked.false no))
