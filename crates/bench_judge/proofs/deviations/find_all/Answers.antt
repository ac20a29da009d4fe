use Rattle.std.proofs.Common.{◌≡◌, ◌+◌, ◌<◌, List, take, length, sym, subst, arith, refl, ◌∙◌}
use Rattle.bench_history.specs.declared.event.Event.{Event}
use Rattle.bench_judge.specs.Judged.{IsDeviation, IsExplanation, IsFound}
use Rattle.bench_judge.specs.Known.{IsKnown}
use Rattle.bench_judge.specs.Walk.{AreSound}
use Rattle.bench_judge.specs.Terms.{terms_of}
use Rattle.bench_judge.specs.declared.judgement.Judgement.{Judgement}
use Rattle.bench_judge.proofs.Held.{front_without, known_without, nothing_known}
use Rattle.bench_judge.proofs.Listed.{AreSoFar, all_listed, explained_at_once, no_items, so_far_more, so_far_none, some_items, some_listed, without_line}
use Rattle.bench_judge.proofs.deviations.find_all.Goals as goal

pub each_deviation-init : goal.each_deviation-init
each_deviation-init g c = record {
  so_far = so_far_none (terms_of c.args.terms.now) c.args.most c.args.events.items c.new-list.result.items c.new-list.ensures.items c.requires;
  known = nothing_known (terms_of c.args.terms.now) c.args.events.items c.nothing-known.result c.nothing-known.ensures;
}

pub judge_events-requires-clause-sound : goal.judge_events-requires-clause-sound
judge_events-requires-clause-sound g c = subst AreSound (sym c.deref.ensures.value) c.each_deviation.invariant.so_far.sound

pub judge_events-requires-clause-known : goal.judge_events-requires-clause-known
judge_events-requires-clause-known g c =
    subst (λ (xs : List Event). IsKnown (terms_of c.args.terms.now) xs c.each_deviation.known) (sym c.deref.ensures.value) c.each_deviation.invariant.known

pub returns-in-Explained : goal.returns-in-Explained
returns-in-Explained g c =
    let terms = terms_of c.args.terms.now in
    let others = c.each_deviation.events.items in
    let is : IsExplanation terms others c.in-Explained.explanation =
    subst (λ (xs : List Event). IsExplanation terms xs c.in-Explained.explanation) c.deref.ensures.value
    (subst (λ (j : Judgement). IsFound terms c.deref.result.now j) c.in-Explained.is c.in_ok-judgement.ensures.found) in
    explained_at_once terms c.args.most c.args.events.items others c.each_deviation.list.items c.in-Explained.explanation c.each_deviation.invariant.so_far
    (no_items c.each_deviation.list.items c.each_deviation.list.len (omega (arith, c.each_deviation.list.ok.0)) (sym c.is_empty.ensures ∙ c.if-is_empty.true)) is

pub returns-in-Explained-2 : goal.returns-in-Explained-2
returns-in-Explained-2 g c =
    let terms = terms_of c.args.terms.now in
    let others = c.each_deviation.events.items in
    let is : IsExplanation terms others c.in-Explained-2.field-0 =
    subst (λ (xs : List Event). IsExplanation terms xs c.in-Explained-2.field-0) c.deref.ensures.value
    (subst (λ (j : Judgement). IsFound terms c.deref.result.now j) c.in-Explained-2.is c.in_ok-judgement.ensures.found) in
    all_listed terms c.args.most c.args.events.items others _ refl
    (some_items c.each_deviation.list.items c.each_deviation.list.len (omega (arith, c.each_deviation.list.ok.0)) (sym c.is_empty.ensures ∙ c.if-is_empty.false))
    c.each_deviation.invariant.so_far is.explained

pub returns-in-Deviates : goal.returns-in-Deviates
returns-in-Deviates g c =
    let terms = terms_of c.args.terms.now in
    let others = c.each_deviation.events.items in
    let is : IsDeviation terms others c.in-Deviates.field-0 =
    subst (λ (xs : List Event). IsDeviation terms xs c.in-Deviates.field-0) c.deref.ensures.value
    (subst (λ (j : Judgement). IsFound terms c.deref.result.now j) c.in-Deviates.is c.in_ok-judgement.ensures.found) in
    some_listed terms c.args.most c.args.events.items others _ c.in-Deviates.field-0 refl
    (omega (arith, c.if-len-most.true, c.len.ensures, c.each_deviation.list.ok.0)) c.each_deviation.invariant.so_far is

pub each_deviation-preserved : goal.each_deviation-preserved
each_deviation-preserved g c =
    let terms = terms_of c.args.terms.now in
    let others = c.each_deviation.events.items in
    let list = c.each_deviation.list.items in
    let d = c.in-Deviates.field-0 in
    let is : IsDeviation terms others d =
    subst (λ (xs : List Event). IsDeviation terms xs d) c.deref.ensures.value
    (subst (λ (j : Judgement). IsFound terms c.deref.result.now j) c.in-Deviates.is c.in_ok-judgement.ensures.found) in
    let without = without_line terms others c.take_back.new.events.items d is c.take_back.ensures in
    let room : length list < c.args.most = omega (arith, c.if-len-most.false, c.len.ensures, c.each_deviation.list.ok.0) in
    let known : IsKnown terms others c.in_ok-judgement.field-0.known =
    subst (λ (xs : List Event). IsKnown terms xs c.in_ok-judgement.field-0.known) c.deref.ensures.value c.in_ok-judgement.ensures.known in
    let line : d.line ≡ c.in_ok-judgement.field-0.known.until + 1 = c.in_ok-judgement.ensures.until d c.in-Deviates.is in
    let front : take c.in_ok-judgement.field-0.known.until c.take_back.new.events.items ≡ take c.in_ok-judgement.field-0.known.until others =
    front_without others c.take_back.new.events.items is.place c.in_ok-judgement.field-0.known.until (omega (arith, line, is.line)) without in
    record {
      so_far =
          subst (AreSoFar terms c.args.most c.args.events.items c.take_back.new.events.items) (sym c.in_ok-push-in-Deviates-2.ensures.items)
          (so_far_more terms c.args.most c.args.events.items others c.take_back.new.events.items list d c.each_deviation.invariant.so_far is without room);
      known = known_without terms others c.take_back.new.events.items c.in_ok-judgement.field-0.known front known;
    }
