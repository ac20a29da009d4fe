use Rattle.std.proofs.Common.{◌≡◌, ◌+◌, ◌&&◌, ◌∙◌, ℕ, suc, MatchBool, arith, subst}
use Rattle.bench_judge.specs.Sweep.{IsSoFar, NoneFit}
use Rattle.bench_judge.specs.declared.sweep.SweepState.{SweepState}
use Rattle.bench_judge.proofs.Settling.{both_settled}
use Rattle.bench_judge.proofs.sweep.settle_all.Goals as goal

pub loop-slot-preserved : goal.loop-slot-preserved
loop-slot-preserved c =
    let inv = c.loop-slot.invariant in
    let case = c.args.case.now in
    let is_so_far : ℕ → SweepState → Type 0 = λ n sweep. IsSoFar case.padded case.unordered case.events.now case.requests.now case.frames.now c.args.version n sweep in
    let none : Type 0 = NoneFit case.padded case.unordered case.events.now case.requests.now case.frames.now in
    record {
      slots = c.settle-is_settled.ensures.slots ∙ inv.slots;
      whole = c.settle-is_settled.ensures.whole;
      so_far = λ at_version was.
          let next : suc c.loop-slot.slot ≡ c.loop-slot.slot + 1 = omega arith in
          subst (λ (n : ℕ). MatchBool (c.loop-slot.all && c.settle-is_settled.result) (is_so_far n c.settle-is_settled.new.sweep) none) next
          (both_settled c.loop-slot.all c.settle-is_settled.result (is_so_far c.loop-slot.slot c.loop-slot.sweep) (is_so_far (suc c.loop-slot.slot) c.settle-is_settled.new.sweep) none
          (inv.so_far at_version was) (c.settle-is_settled.ensures.so_far at_version));
    }
