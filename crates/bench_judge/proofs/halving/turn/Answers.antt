use Rattle.std.proofs.Common.{◌<◌, ℕ, zero, suc, Bool, List, take, sym, subst, ◌∙◌, arith}
use Rattle.bench_history.specs.declared.event.Event.{Event}
use Rattle.bench_answers.specs.Ground.{Ground}
use Rattle.bench_judge.specs.Cut.{HasChoice}
use Rattle.bench_judge.proofs.Raised.{no_events}
use Rattle.bench_judge.proofs.Tried.{choice_found, no_choice_found}
use Rattle.bench_judge.specs.Terms.{ground_in, terms_of}
use Rattle.bench_judge.proofs.halving.turn.Goals.{then-is_some, else-is_some}
use Rattle.bench_judge.proofs.halving.turn.Goals as goal

some_walked : (grounds : Ground) (padded unordered : _) (events : List Event) (n : ℕ) → (HasChoice grounds padded unordered (take n events) → ⊥) → 0 < n
some_walked grounds padded unordered events zero none = absurd (none ((λ n. 0), no_events grounds padded unordered (λ n. 0)))
some_walked grounds padded unordered events (suc n) none = omega arith

pub loop-high-init : goal.loop-high-init
loop-high-init g c =
    record {
      apart = some_walked (ground_in (terms_of c.args.terms.now)) c.args.terms.now.settings.padded c.args.terms.now.settings.unordered c.args.events.now c.args.walk.now.walked c.requires.none;
      within = omega arith;
      some = omega arith;
      low = ((λ n. 0), no_events (ground_in (terms_of c.args.terms.now)) c.args.terms.now.settings.padded c.args.terms.now.settings.unordered (λ n. 0));
      high = c.requires.none;
    }

pub loop-high-preserved : goal.loop-high-preserved
loop-high-preserved g c =
    let grounds : Ground = ground_in (terms_of c.args.terms.now) in
    let padded : Bool = c.args.terms.now.settings.padded in
    let unordered : Bool = c.args.terms.now.settings.unordered in
    let events : List Event = c.args.events.now in
    let middle : ℕ = c.next_try-middle.result in
    let inv = c.loop-high.invariant in
    let between = c.next_try-middle.ensures in
    elim c.if-is_some.branch [
      | then-is_some w ↦
          let has = choice_found grounds padded unordered (take middle events) c.in_ok-found.found c.in_ok-found.ensures (sym c.is_some.ensures ∙ w.if-is_some.true) in
          record {
            apart = omega (arith, w.low-is, w.high-is, between.1);
            within = omega (arith, w.high-is, inv.within);
            some = omega (arith, w.step-is, inv.some);
            low = subst (λ (n : ℕ). HasChoice grounds padded unordered (take n events)) (sym w.low-is) has;
            high = subst (λ (n : ℕ). HasChoice grounds padded unordered (take n events) → ⊥) (sym w.high-is) inv.high;
          }
      | else-is_some w ↦
          let none = no_choice_found grounds padded unordered (take middle events) c.in_ok-found.found c.in_ok-found.ensures (sym c.is_some.ensures ∙ w.if-is_some.false) in
          record {
            apart = omega (arith, w.low-is, w.high-is, between.0);
            within = omega (arith, w.high-is, between.1, inv.within);
            some = omega (arith, w.step-is, between.1);
            low = subst (λ (n : ℕ). HasChoice grounds padded unordered (take n events)) (sym w.low-is) inv.low;
            high = subst (λ (n : ℕ). HasChoice grounds padded unordered (take n events) → ⊥) (sym w.high-is) none;
          }
    ]
