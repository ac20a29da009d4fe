-- What requests leave of a control.
use Rattle.std.specs.Prelude.{◌≡◌, List, [], ◌++◌}
use Rattle.omci_msg.specs.declared.Request.{Request}
use Rattle.mib_state.specs.After.{accepted_from, after_from}
use Rattle.mib_upload.specs.Upload.{start}
use Rattle.plan_publish.specs.Control.{Progress, accepted_of}

-- nothing was asked yet
abbrev pub IsNewControl : Progress → Type 0
IsNewControl p = p ≡ record { desk = start; published = []; pending = []; home = p.home }

-- these requests were carried out: those that are accepted joined the list
pub record Applied (before now : Progress) (requests : List Request) : Type 0 where
  pub joined : accepted_of now ≡ accepted_of before ++ accepted_from before.desk.mib.entities requests
  pub entities : now.desk.mib.entities ≡ after_from before.desk.mib.entities requests
  pub home : now.home ≡ before.home
