use Rattle.std.proofs.Common.{◌≡◌, [], ◌∷◌, ◌++◌, sym, ap, ◌∙◌, subst, append_assoc}
use Rattle.mib_state.specs.Entities.{Entities}
use Rattle.mib_state.specs.After.{after, is_accepted}
use Rattle.mib_upload.specs.Upload.{DeskState, answered}
use Rattle.plan_publish.specs.Publisher.{Lists, all_of}
use Rattle.plan_publish.proofs.Carried.{accepted, refused}
use Rattle.plan_publish.proofs.control.Control.carry_out.Goals as goal
use Rattle.plan_publish.proofs.control.Control.carry_out.Goals.{then-is_accepted+in-Ok, else-is_accepted}

pub invariant_of-self-2 : goal.invariant_of-self-2
invariant_of-self-2 c =
    let q = c.args.request.now in
    let desk : DeskState = c.self.inside.desk in
    let lists : Lists = c.self.inside.publisher in
    let test : c.is_accepted.result ≡ is_accepted desk.mib.entities q = c.is_accepted.ensures ∙ ap (λ (e : Entities). is_accepted e q) (ap (λ s. s.entities) c.mib.ensures) in
    let P : DeskState × Lists → Type 0 = λ z. (answered z.0 q).1.mib.entities ≡ after (all_of z.1) in
    let left : P (c.if-is_accepted.self-inside.desk, c.if-is_accepted.self-inside.publisher) =
    elim c.if-is_accepted.branch [
      | then-is_accepted+in-Ok w ↦
          let more = rw w.in-Ok.is at w.accept.ensures.accepted in
          let sum : all_of lists ++ q ∷ [] ≡ all_of w.accept.new.self = append_assoc lists.published lists.pending (q ∷ []) ∙ sym (ap all_of more) in
          subst P (λ i. ((sym w.self-inside-is i).desk, (sym w.self-inside-is i).publisher)) (accepted desk (all_of lists) q c.self.invariant ∙ ap after sum)
      | else-is_accepted w ↦
          subst P (λ i. ((sym w.self-inside-is i).desk, (sym w.self-inside-is i).publisher)) (refused desk (all_of lists) q c.self.invariant (sym test ∙ w.if-is_accepted.false))
    ] in
    ap (λ (s : DeskState). s.mib.entities) c.carry_out.ensures.after ∙ left

pub returns-clause-entities : goal.returns-clause-entities
returns-clause-entities c = invariant_of-self-2 c
