-- Requests, carried out one after the other.
use Rattle.std.proofs.Common.{◌≡◌, ◌∙◌, ◌<◌, ◌+◌, ◌++◌, ◌&&◌, ℕ, Bool, true, false, List, [], ◌∷◌, take, get_or, length, ap, refl}
use Rattle.std.proofs.lemmas.List.{take_more}
use Rattle.omci_msg.specs.declared.Request.{Request}
use Rattle.mib_state.specs.Entities.{Entities}
use Rattle.mib_state.specs.Step.{left}
use Rattle.mib_state.specs.After.{after_from, is_accepted}
use Rattle.migration_check.specs.Migration.{all_accepted, version}

after-push : (e : Entities) (l : List Request) (q : Request) → after_from e (l ++ q ∷ []) ≡ left q.action (after_from e l) q
after-push e [] q = refl
after-push e (p ∷ l) q = after-push (left p.action e p) l q

and_assoc : (a b c : Bool) → (a && (b && c)) ≡ ((a && b) && c)
and_assoc true b c = refl
and_assoc false b c = refl

and_true : (a : Bool) → (a && true) ≡ a
and_true true = refl
and_true false = refl

accepted-push : (e : Entities) (l : List Request) (q : Request) → all_accepted e (l ++ q ∷ []) ≡ (all_accepted e l && is_accepted (after_from e l) q)
accepted-push e [] q = and_true (is_accepted e q)
accepted-push e (p ∷ l) q =
    ap (λ (b : Bool). is_accepted e p && b) (accepted-push (left p.action e p) l q)
    ∙ and_assoc (is_accepted e p) (all_accepted (left p.action e p) l) (is_accepted (after_from (left p.action e p) l) q)

-- the configuration after one request more
pub version_more : (e : Entities) (requests : List Request) (i : ℕ) (d : Request) → i < length requests
    → version e requests (i + 1) ≡ left (get_or requests i d).action (version e requests i) (get_or requests i d)
version_more e requests i d within = ap (after_from e) (take_more requests i d within) ∙ after-push e (take i requests) (get_or requests i d)

-- whether one more is accepted
pub accepted_more : (e : Entities) (requests : List Request) (i : ℕ) (d : Request) → i < length requests
    → all_accepted e (take (i + 1) requests) ≡ (all_accepted e (take i requests) && is_accepted (version e requests i) (get_or requests i d))
accepted_more e requests i d within = ap (all_accepted e) (take_more requests i d within) ∙ accepted-push e (take i requests) (get_or requests i d)

-- what is told of one more, and what it leaves
pub told_more : (e : Entities) (requests : List Request) (i : ℕ) (q : Request) (now : Entities) (said here all : Bool) → i < length requests
    → q ≡ get_or requests i q → now ≡ version e requests i → said ≡ all_accepted e (take i requests) → here ≡ is_accepted now q → all ≡ (said && here)
    → all ≡ all_accepted e (take (i + 1) requests)
told_more e requests i q now said here all within is at before one both =
    rw (accepted_more e requests i q within, ← is, ← at, ← before, ← one) both

pub left_more : (e : Entities) (requests : List Request) (i : ℕ) (q : Request) (now then : Entities) → i < length requests
    → q ≡ get_or requests i q → now ≡ version e requests i → then ≡ left q.action now q → then ≡ version e requests (i + 1)
left_more e requests i q now then within is at one = rw (version_more e requests i q within, ← is, ← at) one
