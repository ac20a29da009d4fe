-- The entities after one request more.
use Rattle.std.proofs.Common.{◌≡◌, ℕ, ◌+◌, ◌<◌, List, [], ◌∷◌, ◌++◌, length, take, get_or, refl, ap, sym, ◌∙◌}
use Rattle.std.proofs.lemmas.List.{take_more}
use Rattle.omci_msg.specs.declared.request.Request.{Request}
use Rattle.mib_state.specs.Entities.{Entities, nothing}
use Rattle.mib_state.specs.Step.{left}
use Rattle.mib_state.specs.After.{after, after_from}

after_from_append : (e : Entities) (qs rs : List Request) → after_from e (qs ++ rs) ≡ after_from (after_from e qs) rs
after_from_append e [] rs = refl
after_from_append e (q ∷ qs) rs = after_from_append (left q.action e q) qs rs

-- they are those that the request leaves
pub after_more : (requests : List Request) (i : ℕ) (q : Request) → i < length requests → q ≡ get_or requests i q
    → after (take (i + 1) requests) ≡ left q.action (after (take i requests)) q
after_more requests i q within is =
    ap after (take_more requests i q within ∙ ap (λ x. take i requests ++ x ∷ []) (sym is)) ∙ after_from_append nothing (take i requests) (q ∷ [])
