-- What the address of a unit owns.
use Rattle.std.specs.Prelude.{Option, Some, None}
use Rattle.std.specs.Coded.{Coded}
use mir.Syntax.{Ty}
use base.Fml.{Fml, ftrue}
use denote.RawPtr.{Ptr}
use Rattle.std_alloc.specs.Box.Ownership.{box_owns}
use Rattle.std.specs.contracts.impls.GlobalAllocator.TheImpl.{ghosts}
use Rattle.mib_upload.specs.Upload.{DeskState}
use Rattle.onu_unit.specs.contracts.unit.Unit.{the_row}

-- the code by which states of a unit are told apart
abbrev pub coded_state : Coded DeskState
coded_state = the_row.coded

-- the right to free a block of the heap: it is the same for each handle of the heap, of which this is one
abbrev pub frees : Ty → Ptr → Fml
frees = ghosts.dealloc_token (record { memory = record { seal = tt } })

-- nothing, or a unit in a block of the heap with the right to free it
abbrev pub holds : Ptr → Option DeskState → Fml
holds at None = ftrue
holds at (Some state) = box_owns frees the_row at state
