use Rattle.std.proofs.Common.{◌≡◌, ◌∙◌, sym, subst, nat_eq, inl, inr}
use Rattle.std.proofs.lemmas.Bool.{OnTrue_from, eqb-false, eqb-true}
use Rattle.plan_publish.specs.Requests.{StartsWith, StartsWithEach}
use Rattle.plan_publish.specs.Lane.{HasEntered, HeldPrefixes, held_by, learnt_by}
use Rattle.plan_publish.specs.declared.lane.Lane.{Lane}
use Rattle.plan_publish.specs.Told.{told_list}
use Rattle.plan_publish.proofs.Confirming.{confirmed}
use Rattle.plan_publish.proofs.lane.Lane.confirm.Goals as goal

pub returns-in-Some-clause-held : goal.returns-in-Some-clause-held
returns-in-Some-clause-held c =
    let told = told_list c.args.told.now in
    let found = c.in-Some.version in
    let wanted = c.version.result in
    let held = c.in-Some.ensures.held in
    let one = held.entered in
    let learns : StartsWith (learnt_by c.pass.new.self) told = rw c.pass.ensures.same.learnt c.learn.ensures.told in
    OnTrue_from (nat_eq found wanted) (HeldPrefixes told c.args.self.now) (λ same all is.
    let lists : one.lists ≡ all = cc (sym one.held_before ∙ c.learn.ensures.held ∙ is) in
    let begins = confirmed told one.now (learnt_by c.pass.new.self) one.lists found wanted c.version.ensures.version c.version.ensures.small
    held.version_is one.begins_learnt learns one.begins_held (eqb-true found wanted same) in
    subst (StartsWithEach told) lists begins)

-- the lane that has learnt meanwhile has entered since
entered_since : (before learnt after : Lane) → held_by learnt ≡ held_by before → HasEntered learnt after → HasEntered before after
entered_since before learnt after same one = record {
  now = one.now;
  lists = one.lists;
  held_before = sym same ∙ one.held_before;
  held_after = one.held_after;
  begins_held = one.begins_held;
  begins_learnt = one.begins_learnt;
}

pub returns-in-Some-clause-lists : goal.returns-in-Some-clause-lists
returns-in-Some-clause-lists c = inr (entered_since c.args.self.now c.learn.new.self c.pass.new.self c.learn.ensures.held c.in-Some.ensures.held.entered)

pub returns-in-None-clause-lists : goal.returns-in-None-clause-lists
returns-in-None-clause-lists c = inl (c.pass.ensures.none c.in-None.is ∙ c.learn.ensures.held)

pub returns-in-Some-clause-otherwise : goal.returns-in-Some-clause-otherwise
unfolding entered_since
returns-in-Some-clause-otherwise c = λ isnt.
    let held = c.in-Some.ensures.held in
    inr (record {
      entered = entered_since c.args.self.now c.learn.new.self c.pass.new.self c.learn.ensures.held held.entered;
      other = λ same. eqb-false c.in-Some.version c.version.result isnt (held.version_is ∙ same ∙ sym c.version.ensures.version);
    })

pub returns-in-None-clause-otherwise : goal.returns-in-None-clause-otherwise
returns-in-None-clause-otherwise c = λ isnt. inl (c.pass.ensures.none c.in-None.is ∙ c.learn.ensures.held)
