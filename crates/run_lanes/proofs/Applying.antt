-- What requests leave of a control, one after the other.
use Rattle.std.proofs.Common.{◌≡◌, [], ◌∷◌, ◌++◌, List, refl, true, false, cond, ap, sym, ◌∙◌, append_assoc, append-nil}
use Rattle.omci_msg.specs.declared.Request.{Request}
use Rattle.mib_state.specs.Entities.{Entities}
use Rattle.mib_state.specs.Step.{left}
use Rattle.mib_state.specs.After.{is_accepted, after_from, accepted_from, accepted}
use Rattle.mib_upload.proofs.Left.{desk_left}
use Rattle.plan_publish.specs.Control.{Progress, accepted_of, carried_out}
use Rattle.run_lanes.specs.Control.{IsNewControl, Applied}

-- ---- lists of requests

after_from-append : (e : Entities) (qs rs : List Request) → after_from e (qs ++ rs) ≡ after_from (after_from e qs) rs
after_from-append e [] rs = refl
after_from-append e (q ∷ qs) rs = after_from-append (left q.action e q) qs rs

accepted_from-append : (e : Entities) (qs rs : List Request) → accepted_from e (qs ++ rs) ≡ accepted_from e qs ++ accepted_from (after_from e qs) rs
accepted_from-append e [] rs = refl
accepted_from-append e (q ∷ qs) rs =
    let now : Entities = left q.action e q in
    let later = accepted_from-append now qs rs in
    elim (is_accepted e q) as (λ b. cond b (q ∷ accepted_from now (qs ++ rs)) (accepted_from now (qs ++ rs)) ≡ cond b (q ∷ accepted_from now qs) (accepted_from now qs) ++ accepted_from (after_from now qs) rs) [
      | true ↦ ap (λ (l : List Request). q ∷ l) later
      | false ↦ later
    ]

-- ---- one after the other

pub applied_none : (p : Progress) → Applied p p []
applied_none p = record { joined = sym (append-nil (accepted_of p)); entities = refl; home = refl }

pub applied_more : (a b c : Progress) (qs rs : List Request) → Applied a b qs → Applied b c rs → Applied a c (qs ++ rs)
applied_more a b c qs rs x y =
    let e : Entities = a.desk.mib.entities in
    let rest : accepted_from b.desk.mib.entities rs ≡ accepted_from (after_from e qs) rs = ap (λ (n : Entities). accepted_from n rs) x.entities in
    record {
      joined =
          y.joined ∙ ap (λ (l : List Request). l ++ accepted_from b.desk.mib.entities rs) x.joined
          ∙ append_assoc (accepted_of a) (accepted_from e qs) (accepted_from b.desk.mib.entities rs)
          ∙ ap (λ (l : List Request). accepted_of a ++ (accepted_from e qs ++ l)) rest
          ∙ ap (λ (l : List Request). accepted_of a ++ l) (sym (accepted_from-append e qs rs));
      entities = y.entities ∙ ap (λ (n : Entities). after_from n rs) x.entities ∙ sym (after_from-append e qs rs);
      home = y.home ∙ x.home;
    }

-- ---- one request

pub applied_one : (p : Progress) (q : Request) → Applied p (carried_out p q) (q ∷ [])
applied_one p q = record {
  joined =
      elim (is_accepted p.desk.mib.entities q) as (λ b. p.published ++ cond b (p.pending ++ q ∷ []) p.pending ≡ (p.published ++ p.pending) ++ cond b (q ∷ []) []) [
        | true ↦ sym (append_assoc p.published p.pending (q ∷ []))
        | false ↦ sym (append-nil (p.published ++ p.pending))
      ];
  entities = desk_left p.desk q;
  home = refl;
}

-- the same, published
pub applied_published : (a b : Progress) (qs : List Request) → Applied a b qs → Applied a (record b { published = accepted_of b; pending = [] }) qs
applied_published a b qs x = record { joined = append-nil (accepted_of b) ∙ x.joined; entities = x.entities; home = x.home }

pub published_home : (p n : Progress) → n ≡ record p { published = accepted_of p; pending = [] } → n.home ≡ p.home
published_home p n is = ap (λ (o : Progress). o.home) is

pub published_all : (p n : Progress) → n ≡ record p { published = accepted_of p; pending = [] } → accepted_of n ≡ accepted_of p
published_all p n is = ap accepted_of is ∙ append-nil (accepted_of p)

-- from the start, all that is accepted of the requests
pub applied_new : (p n : Progress) (qs : List Request) → IsNewControl p → Applied p n qs → accepted_of n ≡ accepted qs
applied_new p n qs is x = x.joined ∙ ap (λ (o : Progress). accepted_of o ++ accepted_from o.desk.mib.entities qs) is
