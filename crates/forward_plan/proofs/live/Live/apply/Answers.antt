use Rattle.std.proofs.Common.{◌≡◌, ◌∙◌, ap, subst, sym}
use Rattle.std.proofs.lemmas.Bool.{true≢false}
use Rattle.omci_msg.specs.declared.Action.TheVariants.{Set}
use Rattle.mib_state.specs.Entities.{Entities, State}
use Rattle.mib_state.specs.Step.{left}
use Rattle.mib_state.specs.Touch.{AreSame, AreSameButOne}
use Rattle.forward_plan.specs.Setting.{IsSetOf}
use Rattle.forward_plan.proofs.Replaced.{is_set}
use Rattle.forward_plan.proofs.Kept.{same_plan}
use Rattle.forward_plan.proofs.live.Live.apply.Goals as goal
use Rattle.forward_plan.proofs.live.Live.apply.Goals.{in-Nothing, in-One, in-One-2, in-All, in-Set, in_default}

pub invariant_of-self : goal.invariant_of-self
invariant_of-self c =
    let old = c.self.inside.mib.entities in
    let new = c.carry_out-touch.new.self.entities in
    let changes = c.carry_out-touch.ensures.changes in
    elim c.match-touch.branch [
      | in-Nothing w ↦
          let same : AreSame old new = rw w.in-Nothing.is at changes in
          rw w.self-inside-is (same_plan old new c.self.inside.plan same c.self.invariant)
      | in-One w ↦ rw w.self-inside-is w.set-self-inside.ensures
      | in-One-2 w ↦ rw w.self-inside-is w.follow_one-self-inside.ensures
      | in-All w ↦ rw w.self-inside-is w.compile-self-inside.ensures
    ]

pub set-self-inside-requires : goal.set-self-inside-requires
set-self-inside-requires c =
    let old = c.self.inside.mib in
    let q = c.args.request.now in
    let touching = c.carry_out-touch.ensures in
    let class = c.in-One.class in
    let instance = c.in-One.instance in
    let after : c.carry_out-touch.new.self.entities ≡ left q.action old.entities q = ap (λ (s : State). s.entities) touching.after in
    let changes : AreSameButOne class instance old.entities c.carry_out-touch.new.self.entities = rw c.in-One.is at touching.changes in
    let same : AreSameButOne class instance old.entities (left q.action old.entities q) = subst (λ (e : Entities). AreSameButOne class instance old.entities e) after changes in
    let is : q.action ≡ Set =
    elim c.match-matches.branch [
      | in-Set w ↦ w.in-Set.is
      | in_default w ↦ absurd (true≢false (sym c.if-matches.true ∙ w.matches-is))
    ] in
    let set = is_set old q class instance is (sym touching.touch ∙ c.in-One.is) same in
    (old.entities, subst (λ (e : Entities). IsSetOf class instance old.entities e) (sym after) set, c.self.invariant)
