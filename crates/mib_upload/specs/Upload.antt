-- What every request is answered (ITU-T G.988, 11.2 and annex A): MIB upload and MIB upload next by the rows that stand on
-- a shelf, every other action by the step of the MIB.
use Rattle.std.specs.Prelude.{ℕ, List, [], ◌++◌, Option, Some, None, length, slice_get}
use Rattle.byteorder.specs.Endian.{big_bytes, big_number}
use Rattle.omci_msg.specs.declared.Request.{Request}
use Rattle.omci_msg.specs.declared.Reply.{Reply}
use Rattle.omci_msg.specs.declared.Action.{Action}
use Rattle.omci_msg.specs.declared.Action.TheVariants.{Create, Delete, Set, Get, GetNext, MibUpload, MibUploadNext, MibReset, Other}
use Rattle.mib_state.specs.Entities.{State, nothing, unlatched}
use Rattle.managed_entity.specs.Answer.{padded}
use Rattle.omci_msg.specs.Replies.{reply_to}
use Rattle.mib_state.specs.Step.{step}
use Rattle.mib_upload.specs.Rows.{RowFields, row_room, rows_of}

-- the managed entities with their latched table, and the rows of the last MIB upload
pub record DeskState : Type 0 where
  pub mib : State
  pub shelf : List RowFields

-- no instance, sync 0, no latched table and no row
abbrev pub start : DeskState
start = record { mib = unlatched nothing; shelf = [] }

-- the contents of the answer to a MIB upload: the number of rows
unfoldable pub upload_contents : ℕ → List ℕ
upload_contents count = padded 32 (big_bytes 2 count)

-- the sequence number that a MIB upload next asks for, from 0
unfoldable pub sequence_number : List ℕ → ℕ
sequence_number contents = big_number 2 contents

-- the contents of its answer: the row, or all zero where there is none
unfoldable pub row_contents : Option RowFields → List ℕ
row_contents None = padded 32 []
row_contents (Some row) = big_bytes 2 row.class ++ big_bytes 2 row.instance ++ big_bytes 2 row.mask ++ padded row_room row.values

-- a MIB upload puts the rows of this moment on the shelf, in place of earlier ones
abbrev pub uploaded : DeskState → Request → Reply × DeskState
uploaded s q = let rows = rows_of s.mib.entities in (reply_to q (upload_contents (length rows)), record s { shelf = rows })

-- a MIB upload next reads the shelf
abbrev pub upload_next : DeskState → Request → Reply × DeskState
upload_next s q = (reply_to q (row_contents (slice_get s.shelf (sequence_number q.contents))), s)

-- a step leaves the shelf, a MIB reset too
abbrev pub stepped : DeskState → Request → Reply × DeskState
stepped s q = let done = step s.mib q in (done.0, record s { mib = done.1 })

-- the same by the action of the request
abbrev pub answered_as : Action → DeskState → Request → Reply × DeskState
answered_as Create s q = stepped s q
answered_as Delete s q = stepped s q
answered_as Set s q = stepped s q
answered_as Get s q = stepped s q
answered_as GetNext s q = stepped s q
answered_as MibUpload s q = uploaded s q
answered_as MibUploadNext s q = upload_next s q
answered_as MibReset s q = stepped s q
answered_as (Other code) s q = stepped s q

-- the reply to a request, and the state that it leaves
abbrev pub answered : DeskState → Request → Reply × DeskState
answered s q = answered_as q.action s q
