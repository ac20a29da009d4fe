use Rattle.std.proofs.Common.{◌+◌, false, filter, ◌≡◌, ◌<◌, ◌≤◌, inr, ℕ, List, [], ◌∷◌, arith, refl, ap, map, subst, sym, take, length, length-set, rules, ◌∙◌}
use Rattle.std.specs.Prelude.{All, Any}
use Rattle.std.proofs.lemmas.List.{length-map}
use Rattle.std.proofs.lemmas.List.Elements.{All-head, All-tail}
use Rattle.frame_rows.specs.declared.field.Field.TheVariants.{Length}
use Rattle.frame_rows.specs.declared.field.Values.{Values}
use Rattle.frame_rows.specs.Field.{fields, value_at, with_value}
use Rattle.frame_rows.specs.Row.{row_admits}
use Rattle.frame_classes.specs.Choices.{test_at}
use Rattle.frame_classes.specs.Left.{AreLeftOf}
use Rattle.frame_classes.specs.Splitting.{Agree, AreChoices, CanBe, IsOf}
use Rattle.frame_classes.specs.Told.{side_by}
use Rattle.frame_classes.proofs.Going.{AreGoing, agree_next, all_gone, going_on}
use Rattle.frame_classes.proofs.Keeping.{none_more}
use Rattle.frame_classes.proofs.Kept.{Keeps, choices_of}
use Rattle.frame_classes.proofs.Levels.{is_at, left_level, of_level}
use Rattle.frame_classes.proofs.Quiet.{all_three, is_there, quiet_found}
use Rattle.frame_classes.proofs.Silent.{silent_found}
use Rattle.frame_classes.proofs.Sought.{not_led, not_sought}
use Rattle.frame_classes.proofs.splitting.Splitting.+find.Goals as goal

pub keep-requires-clause-left : goal.keep-requires-clause-left
keep-requires-clause-left t c =
    let past : 11 ≤ c.args.level = c.in_default.ensures.lookup.3 in
    let all : c.args.level ≡ 11 = omega (arith, c.requires.level) in
    subst (λ (n : ℕ). AreLeftOf (map side_by c.args.self.now.sides.now.sides.now) (take n fields) c.args.values c.args.left.now) all c.requires.left

pub keep-requires-clause-values : goal.keep-requires-clause-values
keep-requires-clause-values t c =
    let past : 11 ≤ c.args.level = c.in_default.ensures.lookup.3 in
    let all : c.args.level ≡ 11 = omega (arith, c.requires.level) in
    subst (λ (n : ℕ). IsOf c.args.self.now.least (take n fields) c.args.values) all c.requires.values

pub put_choices-requires-clause-left : goal.put_choices-requires-clause-left
put_choices-requires-clause-left t c =
    let field = c.in-Some.field.now in
    let at = is_at c.args.level field c.in-Some.ensures.lookup.3.0 (c.in-Some.ensures.lookup.3.1 Length) in
    subst (λ (n : ℕ). AreLeftOf (map side_by c.args.self.now.sides.now.sides.now) (take n fields) c.args.values c.args.left.now) (sym at.place) c.requires.left

pub loop-value-init : goal.loop-value-init
loop-value-init t c =
    let sides = map side_by c.args.self.now.sides.now.sides.now in
    let field = c.in-Some.field.now in
    let at = is_at c.args.level field c.in-Some.ensures.lookup.3.0 (c.in-Some.ensures.lookup.3.1 Length) in
    let rest : c.into_iter-value-iterator.result.rest.now ≡ c.put_choices.new.choices.items = rw c.deref.ensures at c.into_iter-value-iterator.ensures.into_iter_gives.0 in
    let left = subst (λ (n : ℕ). AreLeftOf sides (take n fields) c.args.values c.args.left.now) (sym at.place) c.requires.left in
    let choices : AreChoices sides c.args.self.now.least field c.args.values c.put_choices.new.choices.items =
    choices_of sides c.args.self.now.least field c.args.values c.args.left.now c.put_choices.new.choices.items
    (omega (arith, length-map c.args.self.now.sides.now.sides.now side_by, c.requires.beside.three)) c.requires.beside.fit c.requires.beside.marked
    c.requires.eleven left c.put_choices.ensures in
    record {
      more = none_more sides c.args.self.now.least c.args.found.now.samples.items c.requires.samples c.requires.ascend;
      going = record {
        each = λ others told of agree tells looked.
            inr (subst (λ (items : List ℕ). Any (Keeps sides c.args.self.now.least field others told) items) (sym rest)
            (choices.each others told of agree tells));
      };
      within = subst (λ (items : List ℕ). All (CanBe c.args.self.now.least (value_at Length c.args.values) field) items) (sym rest) choices.within;
      wanted = λ all. all;
    }

pub find-requires : goal.find-requires
find-requires t c =
    let sides = map side_by c.args.self.now.sides.now.sides.now in
    let field = c.in-Some.field.now in
    let within : c.args.level < 11 = c.in-Some.ensures.lookup.3.0 in
    let is = c.in-Some.ensures.lookup.3.1 Length in
    let at = is_at c.args.level field within is in
    let value = c.in-Some-value.value.now in
    let can : CanBe c.args.self.now.least (value_at Length c.args.values) field value =
    All-head (CanBe c.args.self.now.least (value_at Length c.args.values) field) value c.next.new.self.rest.now
    (subst (λ (items : List ℕ). All (CanBe c.args.self.now.least (value_at Length c.args.values) field) items) c.in-Some-value.ensures.steps c.loop-value.invariant.within) in
    let lengths : length c.with.result.values ≡ 11 =
    ap (λ (v : Values). length v.values) c.with.ensures ∙ simp length-set (c.requires.eleven) in (
      search rules,
      (
        c.requires.beside,
        (
          omega arith,
          (
            c.narrowed-narrower.ensures.few,
            (
              lengths,
              (
                left_level sides c.args.self.now.sides.now.rows.now c.args.level field c.args.values c.with.result value c.args.left.now c.narrowed-narrower.result at within c.requires.eleven c.with.ensures c.requires.beside.together c.requires.left c.narrowed-narrower.ensures.items,
                (
                  of_level c.args.self.now.least c.args.level field c.args.values c.with.result value at within c.requires.eleven c.with.ensures is c.requires.values can,
                  (c.loop-value.invariant.more.samples, c.loop-value.invariant.more.ascend),
                ),
              ),
            ),
          ),
        ),
      ),
    )

pub loop-value-preserved-in-Continue-branch-2 : goal.loop-value-preserved-in-Continue-branch-2
loop-value-preserved-in-Continue-branch-2 t c =
    let sides = map side_by c.args.self.now.sides.now.sides.now in
    let field = c.in-Some.field.now in
    let within : c.args.level < 11 = c.in-Some.ensures.lookup.3.0 in
    let is = c.in-Some.ensures.lookup.3.1 Length in
    let at = is_at c.args.level field within is in
    let value = c.in-Some-value.value.now in
    let steps = c.in-Some-value.ensures.steps in
    record {
      more = record {
        kept = λ told h. c.in_ok-find.ensures.more.kept told (c.loop-value.invariant.more.kept told h);
        samples = c.in_ok-find.ensures.more.samples;
        ascend = c.in_ok-find.ensures.more.ascend;
      };
      going =
          going_on sides c.args.self.now.wanted c.args.self.now.least field c.args.values c.loop-value.found.samples.items c.find.new.found.samples.items value c.next.new.self.rest.now
          (subst (λ (items : List ℕ). AreGoing sides c.args.self.now.wanted c.args.self.now.least field c.args.values c.loop-value.found.samples.items items) steps c.loop-value.invariant.going)
          c.in_ok-find.ensures.more.kept
          (λ others told agree looked keeps.
          c.in_ok-find.ensures.every.found _ told keeps.0
          (agree_next c.args.level field c.args.values c.with.result others value at.place (omega (arith, c.requires.eleven)) c.requires.eleven c.with.ensures agree) keeps.1 looked);
      wanted = λ all. c.in_ok-find.ensures.wanted (c.loop-value.invariant.wanted all);
      within =
          All-tail (CanBe c.args.self.now.least (value_at Length c.args.values) field) value c.next.new.self.rest.now
          (subst (λ (items : List ℕ). All (CanBe c.args.self.now.least (value_at Length c.args.values) field) items) steps c.loop-value.invariant.within);
    }

nil_of : (xs : List ℕ) → length xs ≡ 0 → xs ≡ []
nil_of [] e = refl
nil_of (x ∷ xs) e = absurd (omega arith)

pub returns-clause-every : goal.returns-clause-every
returns-clause-every t c =
    let sides = map side_by c.args.self.now.sides.now.sides.now in
    let field = c.in-Some.field.now in
    let at = is_at c.args.level field c.in-Some.ensures.lookup.3.0 (c.in-Some.ensures.lookup.3.1 Length) in
    all_gone sides c.args.self.now.wanted c.args.self.now.least field c.args.values c.loop-value.found.samples.items c.args.level at.place
    (subst (λ (items : List ℕ). AreGoing sides c.args.self.now.wanted c.args.self.now.least field c.args.values c.loop-value.found.samples.items items)
    (nil_of c.loop-value.value-iterator.rest.now c.in-None.ensures.steps.0) c.loop-value.invariant.going)

pub returns-then-is_silent-clause-every : goal.returns-then-is_silent-clause-every
returns-then-is_silent-clause-every t c =
    let sides = map side_by c.args.self.now.sides.now.sides.now in
    let field = c.in-Some.field.now in
    let at = is_at c.args.level field c.in-Some.ensures.lookup.3.0 (c.in-Some.ensures.lookup.3.1 Length) in
    silent_found sides c.args.self.now.wanted c.args.self.now.least field c.args.level c.args.values c.args.left.now c.args.found.now.samples.items
    (omega (arith, length-map c.args.self.now.sides.now.sides.now side_by, c.requires.beside.three)) at.place
    (subst (λ (n : ℕ). AreLeftOf sides (take n fields) c.args.values c.args.left.now) (sym at.place) c.requires.left)
    (c.is_silent.ensures c.if-is_silent.true)

pub is_quiet-requires-clause-three : goal.is_quiet-requires-clause-three
is_quiet-requires-clause-three t c = all_three c.args.self.now.sides.now.sides.now c.args.self.now.wanted c.args.left.now c.sought-sought.result c.sought-sought.ensures

pub returns-then-is_quiet-clause-every : goal.returns-then-is_quiet-clause-every
returns-then-is_quiet-clause-every t c =
    let sides = map side_by c.args.self.now.sides.now.sides.now in
    let field = c.in-Some.field.now in
    let at = is_at c.args.level field c.in-Some.ensures.lookup.3.0 (c.in-Some.ensures.lookup.3.1 Length) in
    let quiet = c.is_quiet.ensures c.if-is_quiet.true in
    quiet_found sides c.args.self.now.sides.now.rows.now c.args.self.now.wanted c.args.self.now.least field c.args.level c.args.values c.args.left.now quiet.0
    c.args.found.now.samples.items c.requires.beside.together at.place
    (subst (λ (n : ℕ). AreLeftOf sides (take n fields) c.args.values c.args.left.now) (sym at.place) c.requires.left)
    (is_there sides c.args.self.now.wanted c.args.left.now c.sought-sought.result quiet.0 quiet.1.0 c.sought-sought.ensures) quiet.1.1

pub returns-then-is_known-clause-every : goal.returns-then-is_known-clause-every
returns-then-is_known-clause-every t c =
    let field = c.in-Some.field.now in
    let at = is_at c.args.level field c.in-Some.ensures.lookup.3.0 (c.in-Some.ensures.lookup.3.1 Length) in
    record {
      found = λ others told of agree tells looked.
          c.is_known.ensures c.if-is_known.true others told (subst (λ (n : ℕ). Agree n c.args.values others) (sym at.place) agree) tells;
    }

pub is_known-requires-clause-left : goal.is_known-requires-clause-left
is_known-requires-clause-left t c =
    let field = c.in-Some.field.now in
    let at = is_at c.args.level field c.in-Some.ensures.lookup.3.0 (c.in-Some.ensures.lookup.3.1 Length) in
    subst (λ (n : ℕ). AreLeftOf (map side_by c.args.self.now.sides.now.sides.now) (take n fields) c.args.values c.args.left.now) (sym at.place) c.requires.left

pub loop-value-preserved : goal.loop-value-preserved
loop-value-preserved t c =
    let sides = map side_by c.args.self.now.sides.now.sides.now in
    let rows = c.args.self.now.sides.now.rows.now in
    let field = c.in-Some.field.now in
    let within : c.args.level < 11 = c.in-Some.ensures.lookup.3.0 in
    let is = c.in-Some.ensures.lookup.3.1 Length in
    let at = is_at c.args.level field within is in
    let value = c.in-Some-value.value.now in
    let steps = c.in-Some-value.ensures.steps in
    let test = test_at (λ row. row_admits row field value) false rows in
    let changed = with_value field value c.args.values in
    let narrower : List ℕ = filter test c.args.left.now in
    let none = not_led (λ (places : List ℕ). places) sides c.args.self.now.wanted c.args.left.now c.sought-sought.result test c.sought-sought.ensures
    (sym c.leads.ensures ∙ c.if-leads.false) in
    let left = left_level sides rows c.args.level field c.args.values changed value c.args.left.now narrower at within c.requires.eleven refl
    c.requires.beside.together c.requires.left refl in
    let all = not_sought sides c.args.self.now.wanted c.args.self.now.least (c.args.level + 1) changed narrower c.loop-value.found.samples.items left none in
    record {
      more = c.loop-value.invariant.more;
      going =
          going_on sides c.args.self.now.wanted c.args.self.now.least field c.args.values c.loop-value.found.samples.items c.loop-value.found.samples.items value
          c.next.new.self.rest.now
          (subst (λ (items : List ℕ). AreGoing sides c.args.self.now.wanted c.args.self.now.least field c.args.values c.loop-value.found.samples.items items) steps
          c.loop-value.invariant.going)
          (λ told h. h)
          (λ others told agree looked keeps.
          all.found _ told keeps.0
          (agree_next c.args.level field c.args.values changed others value at.place (omega (arith, c.requires.eleven)) c.requires.eleven refl agree) keeps.1 looked);
      wanted = c.loop-value.invariant.wanted;
      within =
          All-tail (CanBe c.args.self.now.least (value_at Length c.args.values) field) value c.next.new.self.rest.now
          (subst (λ (items : List ℕ). All (CanBe c.args.self.now.least (value_at Length c.args.values) field) items) steps c.loop-value.invariant.within);
    }
