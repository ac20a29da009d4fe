-- The accepted requests, and how the writer of the copies stands to them.
use Rattle.std.specs.Prelude.{List, ◌++◌, drop}
use Rattle.std.specs.declared.alloc.Global.{Global}
use Rattle.left_right.specs.Sides.{view}
use Rattle.left_right.specs.declared.Absorb.{Ghosts}
use Rattle.left_right.specs.declared.writer.Writer.{Writer}
use Rattle.omci_msg.specs.declared.Request.{Request}
use Rattle.plan_publish.specs.declared.edition.Edition.{Edition}
use Rattle.plan_publish.specs.declared.edition.Accepted.{Accepted}
use Rattle.plan_publish.specs.declared.rule.Published.{Published}
use Rattle.plan_publish.specs.declared.rule.View.{View}
use Rattle.plan_publish.specs.History.{Home}
use Rattle.plan_publish.specs.Edition.{IsAfter, HasTrail, EachFits, requests_of}

-- the requests that are published, those that are accepted and not yet published, and which history it is
pub record Lists : Type 0 where
  pub published : List Request
  pub pending : List Request
  pub home : Home

-- the accepted requests
abbrev pub all_of : Lists → List Request
all_of lists = lists.published ++ lists.pending

-- the copy that is shown is the one after the published requests, and each operation knows a prefix of all accepted ones
pub record Stands (x : Edition) (v : View) (ops : List Accepted) : Type 0 where
  pub is_after : IsAfter x v.published
  pub trail : HasTrail x v.published
  pub fits : EachFits (v.published ++ requests_of ops) x.base.seen.book ops

-- so does the writer, with the operations that it hasn't published
abbrev pub WriterStands : {S : Type 0} {G : Ghosts Edition Accepted S} → Writer Edition Accepted View Published Global S G → Type 0
WriterStands w = Stands w.desk.shown.value (view w.desk.place) (drop w.behind w.log.items)
