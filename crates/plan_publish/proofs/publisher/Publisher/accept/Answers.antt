use Rattle.std.proofs.Common.{◌≡◌, List, [], ◌∷◌, ◌++◌, drop, sym, ap, ◌∙◌, subst, Some}
use Rattle.left_right.specs.Sides.{view}
use Rattle.omci_msg.specs.declared.Request.{Request}
use Rattle.plan_publish.specs.declared.edition.Edition.{Edition}
use Rattle.plan_publish.specs.declared.edition.Accepted.{Accepted}
use Rattle.plan_publish.specs.declared.rule.View.{View}
use Rattle.plan_publish.specs.Requests.{StartsWith, version_of, one_more}
use Rattle.plan_publish.specs.History.{Home, head_of, key_of}
use Rattle.plan_publish.specs.Edition.{requests_of}
use Rattle.plan_publish.specs.Publisher.{Stands}
use Rattle.plan_publish.proofs.Keeps.{version_more}
use Rattle.plan_publish.proofs.Messages.{stands_push, sum_push}
use Rattle.plan_publish.proofs.publisher.Publisher.accept.Goals as goal

pub invariant_of-self-2 : goal.invariant_of-self-2
invariant_of-self-2 c =
    let old = c.self.inside.writer in
    let history = c.self.inside.history in
    let h = c.self.invariant in
    let x = old.desk.shown.value in
    let v = view old.desk.place in
    let ops = drop old.behind old.log.items in
    let q = c.args.request.now in
    let a : Accepted = record { request = q; before = c.again.result } in
    let all : List Request = v.published ++ requests_of ops in
    let before : StartsWith all c.again.result.seen.log = subst (λ (l : List Request). StartsWith all l) (sym (ap (λ f. f.seen.log) c.again.ensures)) h.3 in
    let book : c.again.result.seen.book ≡ x.base.seen.book = ap (λ f. f.seen.book) c.again.ensures ∙ sym h.1 in
    let more = stands_push x v ops a h.0 before book in
    let pending = rw c.in-Ok.is at c.append.ensures.pending in
    let desk = c.append.ensures.desk in
    let new = c.follow.new.history in
    let same : new.seen.book ≡ history.seen.book = c.follow.ensures.book in
    let sum : all ++ q ∷ [] ≡ v.published ++ requests_of (ops ++ a ∷ []) = sym (sum_push v.published ops a) in
    let longer : StartsWith (v.published ++ requests_of (ops ++ a ∷ [])) new.seen.log = subst (λ (l : List Request). StartsWith l new.seen.log) sum (c.follow.ensures.log all h.3 h.4) in
    let count : c.saturating_add-self-inside.result ≡ version_of (v.published ++ requests_of (ops ++ a ∷ [])) =
    c.saturating_add-self-inside.ensures ∙ (ap one_more h.4 ∙ (sym (version_more all q) ∙ ap version_of sum)) in
    let P : Edition × View × List Accepted → Type 0 = λ z.
    Stands z.0 z.1 z.2 × (z.0.base.seen.book ≡ new.seen.book) × (z.1.home ≡ Some (key_of new.seen.book))
    × StartsWith (z.1.published ++ requests_of z.2) new.seen.log × (c.saturating_add-self-inside.result ≡ version_of (z.1.published ++ requests_of z.2))
    × (c.self.inside.head ≡ head_of new.seen.book) in
    let here : P (x, v, ops ++ a ∷ []) = (more, h.1 ∙ sym same, h.2 ∙ sym (ap (λ (b : Home). Some (key_of b)) same), longer, count, h.5 ∙ sym (ap head_of same)) in
    subst P (λ i. ((sym desk i).shown.value, view (sym desk i).place, sym pending i)) here
