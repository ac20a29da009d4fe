-- Lists of requests in parts: what they leave, and which of them are accepted.
use Rattle.std.proofs.Common.{◌≡◌, Bool, true, false, if◌then◌else◌, List, [], ◌∷◌, ◌++◌, fold, refl, sym, ap, ◌∙◌}
use Rattle.omci_msg.specs.declared.Request.{Request}
use Rattle.omci_msg.specs.declared.Action.{Action}
use Rattle.omci_msg.specs.declared.Action.TheVariants.{Create, Delete, Set, Get, GetNext, MibUpload, MibUploadNext, MibReset, Other}
use Rattle.mib_state.specs.Entities.{Entities}
use Rattle.mib_state.specs.Step.{left}
use Rattle.mib_state.specs.After.{after_from, is_accepted, accepted_from}
use Rattle.mib_upload.specs.Upload.{DeskState, answered, answered_as}

pub after-append : (e : Entities) (xs ys : List Request) → after_from e (xs ++ ys) ≡ after_from (after_from e xs) ys
after-append e [] ys = refl
after-append e (x ∷ xs) ys = after-append (left x.action e x) xs ys

one_before : (x : Request) (b : Bool) (both first second : List Request) → both ≡ first ++ second
    → (if b then x ∷ both else both) ≡ (if b then x ∷ first else first) ++ second
one_before x true both first second e = ap (λ l. x ∷ l) e
one_before x false both first second e = e

pub accepted-append : (e : Entities) (xs ys : List Request)
    → accepted_from e (xs ++ ys) ≡ accepted_from e xs ++ accepted_from (after_from e xs) ys
accepted-append e [] ys = refl
accepted-append e (x ∷ xs) ys =
    let now : Entities = left x.action e x in
    one_before x (is_accepted e x) (accepted_from now (xs ++ ys)) (accepted_from now xs) (accepted_from (after_from now xs) ys)
    (accepted-append now xs ys)

-- what is answered leaves the entities that its step leaves: an upload changes none
entities_left : (a : Action) (s : DeskState) (q : Request) → q.action ≡ a
    → (answered_as a s q).1.mib.entities ≡ left q.action s.mib.entities q
entities_left Create s q is = refl
entities_left Delete s q is = refl
entities_left Set s q is = refl
entities_left Get s q is = refl
entities_left GetNext s q is = refl
entities_left MibUpload s q is = ap (λ a. left a s.mib.entities q) (sym is)
entities_left MibUploadNext s q is = ap (λ a. left a s.mib.entities q) (sym is)
entities_left MibReset s q is = refl
entities_left (Other code) s q is = refl

-- the entities of a desk after requests are those after the requests
pub desk_entities : (s : DeskState) (qs : List Request)
    → (fold (λ (d : DeskState) (q : Request). (answered d q).1) s qs).mib.entities ≡ after_from s.mib.entities qs
desk_entities s [] = refl
desk_entities s (q ∷ qs) = desk_entities (answered s q).1 qs ∙ ap (λ e. after_from e qs) (entities_left q.action s q refl)
