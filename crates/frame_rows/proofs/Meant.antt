-- What the rows of a port mean.
use Rattle.std.proofs.Common.{◌≡◌, ℕ, ◌<◌, ◌^◌, List, ◌++◌, Option, Some, None, Ok, refl, ap, sym, subst, ◌∙◌}
use Rattle.std.specs.Prelude.{All}
use Rattle.std.specs.Option.{option_map}
use Rattle.tag_view.specs.declared.fault.FrameFault.{FrameFault}
use Rattle.tag_view.specs.Frame.{Reading, frame_of}
use Rattle.mib_state.specs.Entities.{Entities}
use Rattle.frame_meaning.specs.Meaning.{Table, input_tpid_of, mapper_at, table_at, tags_at, unmarked_at}
use Rattle.frame_rows.specs.declared.class.Ending.{Ending}
use Rattle.frame_rows.specs.declared.class.FrameClass.{FrameClass}
use Rattle.frame_rows.specs.declared.row.Row.{Row}
use Rattle.frame_rows.specs.Class.{class_of}
use Rattle.frame_rows.specs.Treatments.{TreatmentsFit}
use Rattle.frame_rows.specs.Field.{values_of}
use Rattle.frame_rows.specs.Row.{class_by, class_of_row}
use Rattle.frame_rows.specs.Rows.{Mean, endings_at, fault_rows, rows_by, rows_of, table_rows}
use Rattle.frame_rows.proofs.Cases.{HasFault, by_reading}
use Rattle.frame_rows.proofs.ClassOf.{class_of_fault, class_of_read}
use Rattle.frame_rows.proofs.Faults.{IsRead}
use Rattle.frame_rows.proofs.Means.{kept_class, table_class}

-- the class of a frame that is read, by the port's table
read_class : (e : Entities) (port : ℕ) (bytes : List ℕ) (frame : Reading) (table : Option Table) → table_at e port ≡ table
    → ((t : Table) → table ≡ Some t → TreatmentsFit t.entries) → IsRead (input_tpid_of table) bytes frame
    → class_by (endings_at e port) (rows_by table (option_map unmarked_at (mapper_at e port))) (values_of bytes) ≡ Some (class_of e port bytes)
unfolding input_tpid_of tags_at
read_class e port bytes frame None at fits is =
    let read : frame_of (input_tpid_of (table_at e port)) bytes ≡ Ok frame = rw at is.read in
    kept_class e port bytes frame is ∙ ap (λ (c : FrameClass). Some c) (sym (rw at at (class_of_read e port bytes frame read)))
read_class e port bytes frame (Some table) at fits is =
    let read : frame_of (input_tpid_of (table_at e port)) bytes ≡ Ok frame = rw at is.read in
    table_class e port table bytes frame (fits table refl) is ∙ ap (λ (c : FrameClass). Some c) (sym (rw at at (class_of_read e port bytes frame read)))

-- the class of a frame with a fault
fault_class : (e : Entities) (port : ℕ) (bytes : List ℕ) (rest : List Row) (fault : FrameFault) (row : Row)
    → HasFault (input_tpid_of (table_at e port)) bytes fault row
    → class_by (endings_at e port) (fault_rows (input_tpid_of (table_at e port)) ++ rest) (values_of bytes) ≡ Some (class_of e port bytes)
fault_class e port bytes rest fault row is =
    ap (option_map (λ row. class_of_row (endings_at e port) row (values_of bytes))) (is.first rest)
    ∙ rw (is.used, is.ends) (ap (λ (c : FrameClass). Some c) (sym (class_of_fault e port bytes fault is.refused)))

-- ---- every frame

pub means : (e : Entities) (port : ℕ) → ((table : Table) → table_at e port ≡ Some table → TreatmentsFit table.entries)
    → Mean e port (endings_at e port) (rows_of e port)
means e port treatments = record { class = class }
  where
    class : (bytes : List ℕ) → All (λ b. b < 2 ^ 8) bytes
        → class_by (endings_at e port) (rows_of e port) (values_of bytes) ≡ Some (class_of e port bytes)
    class bytes fits =
        by_reading (input_tpid_of (table_at e port)) bytes
        (class_by (endings_at e port) (rows_of e port) (values_of bytes) ≡ Some (class_of e port bytes)) fits
        (fault_class e port bytes (table_rows (table_at e port) (option_map unmarked_at (mapper_at e port))))
        (λ frame is. read_class e port bytes frame (table_at e port) refl treatments is)

-- by what code makes of them
pub mean_along : (e : Entities) (port : ℕ) (endings : List Ending) (rows : List Row) → endings ≡ endings_at e port → rows ≡ rows_of e port
    → Mean e port (endings_at e port) (rows_of e port) → Mean e port endings rows
mean_along e port endings rows p q h =
    subst (λ (x : List Ending). Mean e port x rows) (sym p) (subst (λ (x : List Row). Mean e port (endings_at e port) x) (sym q) h)
