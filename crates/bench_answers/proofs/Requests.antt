-- One request more behind others.
use Rattle.std.proofs.Common.{◌≡◌, ◌<◌, ◌≤◌, ℕ, zero, suc, Bool, true, false, cond, List, [], ◌∷◌, ◌++◌, length, refl, ap, ◌∙◌, arith, append-nil}
use Rattle.omci_msg.specs.declared.request.Request.{Request}
use Rattle.mib_state.specs.Entities.{Entities, nothing}
use Rattle.mib_state.specs.After.{accepted, accepted_from, after, after_from, is_accepted}
use Rattle.mib_state.specs.Step.{left}
use Rattle.mib_upload.specs.Upload.{DeskState, answered}
use Rattle.mib_upload.proofs.Left.{desk_left}
use Rattle.bench_reply.specs.Replies.{Wanted}
use Rattle.bench_answers.specs.Asked.{desk_from, wanted_from}
use Rattle.bench_answers.specs.Windows.{up_to}

-- ---- the desk

pub desk_more : (s : DeskState) (qs : List Request) (q : Request) → desk_from s (qs ++ q ∷ []) ≡ (answered (desk_from s qs) q).1
desk_more s [] q = refl
desk_more s (p ∷ qs) q = desk_more (answered s p).1 qs q

pub desk_append : (s : DeskState) (qs rs : List Request) → desk_from s (qs ++ rs) ≡ desk_from (desk_from s qs) rs
desk_append s [] rs = refl
desk_append s (q ∷ qs) rs = desk_append (answered s q).1 qs rs

pub entities_from : (s : DeskState) (qs : List Request) → (desk_from s qs).mib.entities ≡ after_from s.mib.entities qs
entities_from s [] = refl
entities_from s (q ∷ qs) = entities_from (answered s q).1 qs ∙ ap (λ (e : Entities). after_from e qs) (desk_left s q)

-- ---- a list with an element in front

-- an element that is there in one case alone stands in front of what follows
pub cond_front : {X : Type 0} (b : Bool) (x : X) (more with : List X) (ys : List X) → with ≡ more ++ ys → cond b (x ∷ with) with ≡ cond b (x ∷ more) more ++ ys
cond_front true x more with ys is = ap (λ zs. x ∷ zs) is
cond_front false x more with ys is = is

-- one that is there behind others
pub cond_last : {X : Type 0} (b : Bool) (xs : List X) (x : X) → xs ++ cond b (x ∷ []) [] ≡ cond b (xs ++ x ∷ []) xs
cond_last true xs x = refl
cond_last false xs x = append-nil xs

-- ---- accepted requests

pub accepted_behind : (e : Entities) (qs : List Request) (q : Request)
    → accepted_from e (qs ++ q ∷ []) ≡ accepted_from e qs ++ cond (is_accepted (after_from e qs) q) (q ∷ []) []
accepted_behind e [] q = refl
accepted_behind e (p ∷ qs) q = cond_front (is_accepted e p) p _ _ _ (accepted_behind (left p.action e p) qs q)

pub accepted_more : (qs : List Request) (q : Request)
    → accepted (qs ++ q ∷ []) ≡ cond (is_accepted (after qs) q) (accepted qs ++ q ∷ []) (accepted qs)
accepted_more qs q = accepted_behind nothing qs q ∙ cond_last (is_accepted (after qs) q) (accepted qs) q

-- more requests have no fewer that are accepted
pub accepted_grows : (e : Entities) (qs more : List Request) → length (accepted_from e qs) ≤ length (accepted_from e (qs ++ more))
accepted_grows e [] more = omega arith
accepted_grows e (q ∷ qs) more =
    let later : Entities = left q.action e q in
    let grows = accepted_grows later qs more in
    elim (is_accepted e q) as (λ b. length (cond b (q ∷ accepted_from later qs) (accepted_from later qs))
    ≤ length (cond b (q ∷ accepted_from later (qs ++ more)) (accepted_from later (qs ++ more)))) [ true ↦ omega (arith, grows) | false ↦ grows ]

-- ---- requests that want an answer

-- a request with the model's reply, at a state
abbrev pub wanted_at : DeskState → Request → Wanted
wanted_at s q = record { request = q; reply = (answered s q).0 }

wanted_behind : (s : DeskState) (qs : List Request) (q : Request)
    → wanted_from s (qs ++ q ∷ []) ≡ wanted_from s qs ++ cond q.wants_answer (wanted_at (desk_from s qs) q ∷ []) []
wanted_behind s [] q = refl
wanted_behind s (p ∷ qs) q = cond_front p.wants_answer (wanted_at s p) _ _ _ (wanted_behind (answered s p).1 qs q)

pub wanted_more : (s : DeskState) (qs : List Request) (q : Request)
    → wanted_from s (qs ++ q ∷ []) ≡ cond q.wants_answer (wanted_from s qs ++ wanted_at (desk_from s qs) q ∷ []) (wanted_from s qs)
wanted_more s qs q = wanted_behind s qs q ∙ cond_last q.wants_answer (wanted_from s qs) (wanted_at (desk_from s qs) q)

-- ---- requests up to one that a reply answers

-- a request that is answered above is found above
pub up_to_above : (s : DeskState) (qs more : List Request) (n : ℕ) → n ≤ length (wanted_from s qs) → up_to n (qs ++ more) ≡ up_to n qs
up_to_above s qs more zero within = refl
up_to_above s [] more (suc n) within = absurd (omega (arith, within))
up_to_above s (q ∷ qs) more (suc n) within =
    let later : DeskState = (answered s q).1 in
    elim q.wants_answer as (λ b. suc n ≤ length (cond b (wanted_at s q ∷ wanted_from later qs) (wanted_from later qs))
    → (q ∷ cond b (up_to n (qs ++ more)) (up_to (suc n) (qs ++ more))) ≡ (q ∷ cond b (up_to n qs) (up_to (suc n) qs))) [
      | true ↦ λ is. ap (λ rest. q ∷ rest) (up_to_above later qs more n (omega (arith, is)))
      | false ↦ λ is. ap (λ rest. q ∷ rest) (up_to_above later qs more (suc n) is)
    ] within

none_left : (n : ℕ) → up_to n [] ≡ []
none_left zero = refl
none_left (suc n) = refl

-- the last request is reached where the ones above don't answer so many
pub up_to_last : (s : DeskState) (qs : List Request) (q : Request) (n : ℕ) → length (wanted_from s qs) < n → up_to n (qs ++ q ∷ []) ≡ qs ++ q ∷ []
up_to_last s qs q zero more = absurd (omega (arith, more))
up_to_last s [] q (suc n) more =
    elim q.wants_answer as (λ b. (q ∷ cond b (up_to n []) (up_to (suc n) [])) ≡ q ∷ []) [ true ↦ ap (λ rest. q ∷ rest) (none_left n) | false ↦ refl ]
up_to_last s (p ∷ qs) q (suc n) more =
    let later : DeskState = (answered s p).1 in
    elim p.wants_answer as (λ b. length (cond b (wanted_at s p ∷ wanted_from later qs) (wanted_from later qs)) < suc n
    → (p ∷ cond b (up_to n (qs ++ q ∷ [])) (up_to (suc n) (qs ++ q ∷ []))) ≡ p ∷ qs ++ q ∷ []) [
      | true ↦ λ is. ap (λ rest. p ∷ rest) (up_to_last later qs q n (omega (arith, is)))
      | false ↦ λ is. ap (λ rest. p ∷ rest) (up_to_last later qs q (suc n) is)
    ] more
