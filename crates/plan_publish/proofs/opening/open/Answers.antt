use Rattle.std.proofs.Common.{◌≡◌, ℕ, ◌<◌, sym, ap, ◌∙◌, subst, IfSome, vec_len, slice_get, rules}
use Rattle.plan_publish.specs.History.{Home}
use Rattle.plan_publish.specs.Lane.{IsNew}
use Rattle.plan_publish.proofs.opening.open.Goals as goal

pub returns-clause-lanes_fault : goal.returns-clause-lanes_fault
returns-clause-lanes_fault g c n = (λ is. absurd (let e : ⊥ = cc in e), λ outside. absurd (outside.1 (search rules, search rules)))

pub returns-clause-lanes : goal.returns-clause-lanes
returns-clause-lanes g c =
    let all = c.in-Ok-with_lanes.all in
    subst (λ (home : Home). (vec_len all ≡ c.args.lanes) × ((k : ℕ) → k < c.args.lanes → IfSome (slice_get all.items k) (λ l. IsNew l k home)))
    (sym (ap (λ p. p.home) c.new-3.ensures ∙ c.new-2.ensures.2)) c.in-Ok-with_lanes.ensures.lanes

-- bounded, so that a wrong body is refused at once
pub returns-then-lanes-lt1-clause-lanes_fault : goal.returns-then-lanes-lt1-clause-lanes_fault
returns-then-lanes-lt1-clause-lanes_fault g c n = (λ is. (let e : n ≡ c.args.lanes = cc in e, search rules fits 30), λ outside. let e = outside.0 in search rules fits 30)
