-- Requests and more: which want an answer, and how many are accepted.
use Rattle.std.proofs.Common.{◌≡◌, ◌≤◌, ◌+◌, ℕ, zero, suc, Bool, true, false, cond, List, [], ◌∷◌, ◌++◌, length, fold, Some, slice_get, refl, ap, ◌∙◌, arith}
use Rattle.std.proofs.lemmas.List.Sums.{sum_by-cons}
use Rattle.omci_msg.specs.declared.request.Request.{Request}
use Rattle.mib_state.specs.Entities.{Entities, nothing}
use Rattle.mib_state.specs.Step.{left}
use Rattle.mib_state.specs.After.{accepted, accepted_from, after, is_accepted}
use Rattle.mib_upload.specs.Upload.{DeskState, answered}
use Rattle.plan_publish.proofs.Parts.{accepted-append}
use Rattle.bench_reply.specs.Replies.{Wanted}
use Rattle.bench_answers.specs.Asked.{desk_from, wanted_from}
use Rattle.bench_answers.specs.Windows.{up_to}
use Rattle.bench_answers.proofs.Requests.{cond_front}
use Rattle.bench_law.specs.Steps.{wanting}
use Rattle.bench_law.proofs.Fronts.{IsFront}

-- the state that requests leave
abbrev pub desk_behind : DeskState → List Request → DeskState
desk_behind s qs = fold (λ (d : DeskState) (q : Request). (answered d q).1) s qs

-- a request with the model's reply, at a state
abbrev pub wanted_at : DeskState → Request → Wanted
wanted_at s q = record { request = q; reply = (answered s q).0 }

-- one more in front
wanting_before : (q : Request) (qs : List Request) → wanting (q ∷ qs) ≡ cond q.wants_answer 1 0 + wanting qs
wanting_before q qs = sum_by-cons (λ (p : Request). cond p.wants_answer 1 0) q qs

pub wanting_append : (qs rs : List Request) → wanting (qs ++ rs) ≡ wanting qs + wanting rs
wanting_append [] rs = omega arith
wanting_append (q ∷ qs) rs = omega (arith, wanting_before q (qs ++ rs), wanting_before q qs, wanting_append qs rs)

-- those that want an answer, of requests and more
pub wanted_append : (s : DeskState) (qs rs : List Request) → wanted_from s (qs ++ rs) ≡ wanted_from s qs ++ wanted_from (desk_from s qs) rs
wanted_append s [] rs = refl
wanted_append s (q ∷ qs) rs = cond_front q.wants_answer (wanted_at s q) _ _ _ (wanted_append (answered s q).1 qs rs)

-- there are as many as want one
pub wanted_count : (s : DeskState) (qs : List Request) → length (wanted_from s qs) ≡ wanting qs
wanted_count s [] = refl
wanted_count s (q ∷ qs) =
    let rest : List Wanted = wanted_from (answered s q).1 qs in
    let later : length rest ≡ wanting qs = wanted_count (answered s q).1 qs in
    (elim q.wants_answer as (λ b. wanting (q ∷ qs) ≡ cond b 1 0 + wanting qs → length (cond b (wanted_at s q ∷ rest) rest) ≡ wanting (q ∷ qs)) [
      | true ↦ λ more. omega (arith, later, more)
      | false ↦ λ more. omega (arith, later, more)
    ]) (wanting_before q qs)

stands_behind : (b : Bool) (first w : Wanted) (rest : List Wanted) (n m : ℕ) → m ≡ cond b 1 0 + n → slice_get rest n ≡ Some w
    → slice_get (cond b (first ∷ rest) rest) m ≡ Some w
stands_behind true first w rest n m is at = let more : m ≡ suc n = omega (arith, is) in ap (λ (k : ℕ). slice_get (first ∷ rest) k) more ∙ at
stands_behind false first w rest n m is at = let same : m ≡ n = omega (arith, is) in ap (λ (k : ℕ). slice_get rest k) same ∙ at

-- a request that wants an answer stands, among those that do, behind those before it
pub wanted_behind : (s : DeskState) (qs : List Request) (q : Request) (more : List Request) → q.wants_answer ≡ true
    → slice_get (wanted_from s (qs ++ q ∷ more)) (wanting qs) ≡ Some (wanted_at (desk_behind s qs) q)
wanted_behind s [] q more wants =
    ap (λ (b : Bool). slice_get (cond b (wanted_at s q ∷ wanted_from (answered s q).1 more) (wanted_from (answered s q).1 more)) 0) wants
wanted_behind s (p ∷ qs) q more wants =
    let later : DeskState = (answered s p).1 in
    stands_behind p.wants_answer (wanted_at s p) (wanted_at (desk_behind later qs) q) (wanted_from later (qs ++ q ∷ more)) (wanting qs) (wanting (p ∷ qs))
    (wanting_before p qs) (wanted_behind later qs q more wants)

one_accepted : (b : Bool) (q : Request) (xs ys : List Request) → length xs ≤ length ys → length (cond b (q ∷ xs) xs) ≤ length (cond b (q ∷ ys) ys)
one_accepted true q xs ys le = omega (arith, le)
one_accepted false q xs ys le = le

-- up to a reply whose request is among some requests no more are accepted than of these
pub few_up_to : (e : Entities) (n : ℕ) (qs more : List Request) → n ≤ wanting qs
    → length (accepted_from e (up_to n (qs ++ more))) ≤ length (accepted_from e qs)
few_up_to e zero qs more within = omega arith
few_up_to e (suc n) [] more within = absurd (omega (arith, within))
few_up_to e (suc n) (q ∷ qs) more within =
    let later : Entities = left q.action e q in
    let rest : List Request = cond q.wants_answer (up_to n (qs ++ more)) (up_to (suc n) (qs ++ more)) in
    let some : suc n ≤ cond q.wants_answer 1 0 + wanting qs = omega (arith, within, wanting_before q qs) in
    let few : length (accepted_from later rest) ≤ length (accepted_from later qs) =
    (elim q.wants_answer as (λ b. suc n ≤ cond b 1 0 + wanting qs
    → length (accepted_from later (cond b (up_to n (qs ++ more)) (up_to (suc n) (qs ++ more)))) ≤ length (accepted_from later qs)) [
      | true ↦ λ is. few_up_to later n qs more (omega (arith, is))
      | false ↦ λ is. few_up_to later (suc n) qs more (omega (arith, is))
    ]) some in
    one_accepted (is_accepted e q) q (accepted_from later rest) (accepted_from later qs) few

-- the accepted requests of a front are a front
pub accepted_front : {xs ys : List Request} → IsFront xs ys → IsFront (accepted xs) (accepted ys)
accepted_front {xs} f =
    record { rest = accepted_from (after xs) f.rest; is = ap accepted f.is ∙ accepted-append nothing xs f.rest }
