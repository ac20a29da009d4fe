use Rattle.std.proofs.Common.{rules, ◌∙◌, sym, refl}
use Rattle.mib_state.proofs.Accepted.{accepted_by_ok, accepted_by_err, unchanging}
use Rattle.mib_state.proofs.Touched.{action_touches, same_again}
use Rattle.mib_state.proofs.mib.Mib.carry_out.Goals as goal
use Rattle.mib_state.proofs.mib.Mib.carry_out.Goals.{then-is_ok, else-is_ok}

-- an accepted request leaves what its action does, and a refused one changes nothing
pub returns-clause-changes : goal.returns-clause-changes
returns-clause-changes c =
    let s = c.args.self.now in
    let q = c.args.request.now in
    elim c.if-is_ok.branch [
      | then-is_ok w ↦ rw (w.self-is, w.touch-is, w.change.ensures, w.touched_by-touch.ensures) (action_touches q.action s.entities q)
      | else-is_ok w ↦ rw (w.self-is, w.touch-is) (same_again s.entities)
    ]

pub returns-clause-accepted : goal.returns-clause-accepted
returns-clause-accepted c =
    let s = c.args.self.now in
    let q = c.args.request.now in
    elim c.if-is_ok.branch [
      | then-is_ok w ↦ rw (w.accepted-is, w.may_change-accepted.ensures) (accepted_by_ok s q (rw c.decide-outcome.ensures at (sym c.is_ok.ensures.value ∙ w.if-is_ok.true)))
      | else-is_ok w ↦ rw w.accepted-is (accepted_by_err s q (rw c.decide-outcome.ensures at (sym c.is_ok.ensures.value ∙ w.if-is_ok.false)))
    ]

pub returns-clause-refused : goal.returns-clause-refused
returns-clause-refused c =
    let s = c.args.self.now in
    let q = c.args.request.now in
    elim c.if-is_ok.branch [
      | then-is_ok w ↦ rw (w.self-is, w.accepted-is, w.change.ensures, w.may_change-accepted.ensures) (λ isnt. unchanging q.action s.entities q isnt)
      | else-is_ok w ↦ rw w.self-is (λ isnt. refl)
    ]

-- bounded, so that a wrong body is refused at once
pub returns-clause-reply : goal.returns-clause-reply
returns-clause-reply c = search rules fits 30
