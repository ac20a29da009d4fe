-- The entities of a desk after a request are those that its action leaves.
use Rattle.std.proofs.Common.{◌≡◌, refl, ap, sym}
use Rattle.omci_msg.specs.declared.Request.{Request}
use Rattle.omci_msg.specs.declared.Action.{Action}
use Rattle.omci_msg.specs.declared.Action.TheVariants.{Create, Delete, Set, Get, GetNext, MibUpload, MibUploadNext, MibReset, Other}
use Rattle.mib_state.specs.Step.{left}
use Rattle.mib_upload.specs.Upload.{DeskState, answered, answered_as}

-- what an action leaves of a desk's entities
left_as : (a : Action) (s : DeskState) (q : Request) → q.action ≡ a → (answered_as a s q).1.mib.entities ≡ left q.action s.mib.entities q
left_as Create s q e = refl
left_as Delete s q e = refl
left_as Set s q e = refl
left_as Get s q e = refl
left_as GetNext s q e = refl
left_as MibUpload s q e = ap (λ (a : Action). left a s.mib.entities q) (sym e)
left_as MibUploadNext s q e = ap (λ (a : Action). left a s.mib.entities q) (sym e)
left_as MibReset s q e = refl
left_as (Other code) s q e = refl

pub desk_left : (s : DeskState) (q : Request) → (answered s q).1.mib.entities ≡ left q.action s.mib.entities q
desk_left s q = left_as q.action s q refl
