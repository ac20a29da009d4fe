-- The entities of a desk after a request are those after the accepted requests.
use Rattle.std.proofs.Common.{◌≡◌, [], ◌∷◌, ◌++◌, List, false, ap, sym, ◌∙◌}
use Rattle.omci_msg.specs.declared.Request.{Request}
use Rattle.mib_state.specs.Entities.{Entities}
use Rattle.mib_state.specs.Step.{left}
use Rattle.mib_state.specs.After.{is_accepted, after}
use Rattle.mib_state.proofs.Accepted.{left_by_refused}
use Rattle.mib_upload.specs.Upload.{DeskState, answered as desk_answered}
use Rattle.mib_upload.proofs.Left.{desk_left}
use Rattle.plan_publish.proofs.Keeps.{after_push}

-- a request that isn't accepted leaves them
pub refused : (s : DeskState) (all : List Request) (q : Request) → s.mib.entities ≡ after all → is_accepted s.mib.entities q ≡ false
    → (desk_answered s q).1.mib.entities ≡ after all
refused s all q is h = desk_left s q ∙ (left_by_refused s.mib.entities q h ∙ is)

-- an accepted one is the last one
pub accepted : (s : DeskState) (all : List Request) (q : Request) → s.mib.entities ≡ after all
    → (desk_answered s q).1.mib.entities ≡ after (all ++ q ∷ [])
accepted s all q is = desk_left s q ∙ (ap (λ (e : Entities). left q.action e q) is ∙ sym (after_push all q))
