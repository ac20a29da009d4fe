-- What a token says.
use Rattle.std.specs.Prelude.{List}
use Rattle.omci_msg.specs.declared.Request.{Request}
use Rattle.plan_publish.specs.declared.told.Told.{Told}
use Rattle.plan_publish.specs.History.{Home}

-- the requests that were published
abbrev pub told_list : Told → List Request
told_list t = t.published.seen.log

-- which history they are of
abbrev pub told_home : Told → Home
told_home t = t.published.seen.book
