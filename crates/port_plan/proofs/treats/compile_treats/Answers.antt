use Rattle.std.proofs.Common.{◌≡◌, ◌+◌, ℕ, List, [], ◌∷◌, Option, length, ap, arith, sym, subst, ◌∙◌, length-append, rules}
use Rattle.std.specs.Prelude.{slice_get}
use Rattle.std.specs.List.{insert}
use Rattle.std.proofs.lemmas.Option.{slice_get_within}
use Rattle.rule_index.specs.Filters.{tags_in}
use Rattle.rule_index.specs.Order.{order_of}
use Rattle.treatment.specs.Compiled.{Compiled, Treats}
use Rattle.port_plan.proofs.CompiledTables.{AreFirstTreats, all_to_end, all_to_none, none_asks, order_few, order_within, treats_all, treats_more}
use Rattle.port_plan.proofs.MovedTreats.{inserted-last, none-asks-inserted, some-asks-inserted}
use Rattle.port_plan.proofs.treats.compile_treats.Goals as goal

pub returns-in_default-clause-treats : goal.returns-in_default-clause-treats
returns-in_default-clause-treats c =
    let entries = c.args.rules.now in
    let n = c.loop-number.number in
    let kept = c.loop-number.invariant in
    let none = c.in_default.ensures ∙ ap (λ (l : List (List ℕ)). slice_get (order_of l) n) c.requires.index in
    treats_all c.args.settings.now entries c.loop-number.treats.items n kept.count kept.within (omega (arith, order_few entries)) (all_to_none entries n none) kept.treats

pub returns-in_default-rule-clause-treats : goal.returns-in_default-rule-clause-treats
returns-in_default-rule-clause-treats c =
    let entries = c.args.rules.now in
    let here = c.in-Some.ensures ∙ ap (λ (l : List (List ℕ)). slice_get (order_of l) c.loop-number.number) c.requires.index in
    absurd (omega (arith, order_within entries c.loop-number.number c.in-Some.place here, c.in_default-rule.ensures))

pub loop-number-preserved : goal.loop-number-preserved
loop-number-preserved c =
    let settings = c.args.settings.now in
    let entries = c.args.rules.now in
    let n = c.loop-number.number in
    let old = c.loop-number.treats.items in
    let kept = c.loop-number.invariant in
    let rule = c.in-Some-rule.rule.now in
    let treat = c.of-treat.result in
    let here = c.in-Some.ensures ∙ ap (λ (l : List (List ℕ)). slice_get (order_of l) n) c.requires.index in
    let right : Treats rule.treatment settings (tags_in rule.filter) treat =
    subst (λ (k : ℕ). Treats rule.treatment settings k treat) c.tags_in.ensures.value c.of-treat.ensures.treats in
    let is = c.push_reserved.ensures.items in
    let last : insert old (length old) treat ≡ c.push_reserved.new.self.items = inserted-last old treat ∙ sym is in
    record {
      treats = subst (λ (l : List (Option Compiled)). AreFirstTreats settings entries l (n + 1)) (sym is)
          (treats_more settings entries old n c.in-Some.place rule treat kept.count here c.in-Some-rule.ensures.1 right kept.treats);
      within = omega (arith, slice_get_within (order_of entries) n c.in-Some.place (sym here));
      count = omega (arith, ap (λ (l : List (Option Compiled)). length l) is, length-append old (treat ∷ []));
      len = omega (arith, c.push_reserved.ensures.len);
      room = c.push_reserved.ensures.capacity ∙ kept.room;
      none = λ no. rw (← last) (none-asks-inserted old (length old) treat c.loop-number.asked c.asks-asked.result (omega arith) c.asks-asked.ensures kept.none no);
      some = λ yes. rw (← last) (some-asks-inserted old (length old) treat c.loop-number.asked c.asks-asked.result (omega arith) c.asks-asked.ensures kept.some yes);
    }

pub returns-clause-treats : goal.returns-clause-treats
returns-clause-treats c =
    let entries = c.args.rules.now in
    let n = c.loop-number.number in
    let kept = c.loop-number.invariant in
    treats_all c.args.settings.now entries c.loop-number.treats.items n kept.count kept.within (omega (arith, order_few entries)) (all_to_end entries n (omega arith)) kept.treats

-- bounded, so that a wrong body is refused at once
pub loop-number-init : goal.loop-number-init
loop-number-init c = search (rules, none_asks) fits 30
