-- The class of a frame, by how it is read.
use Rattle.std.proofs.Common.{◌≡◌, ℕ, List, Option, Ok, Err, refl, ap, ◌∙◌}
use Rattle.std.specs.Prelude.{Result}
use Rattle.tag_view.specs.declared.fault.FrameFault.{FrameFault}
use Rattle.tag_view.specs.Tag.{TagFields}
use Rattle.tag_view.specs.Frame.{Reading, frame_of}
use Rattle.tag_view.specs.Dscp.{dscp_of}
use Rattle.mib_state.specs.Entities.{Entities}
use Rattle.frame_meaning.specs.declared.reason.Reason.{Reason}
use Rattle.frame_meaning.specs.Meaning.{Table, forwarded_by, found_then, gem_port_at, input_tpid_of, meaning, read_at, table_at, tags_at, verdict_of}
use Rattle.frame_meaning.specs.Reason.{reason_of_fault}
use Rattle.frame_rows.specs.declared.class.Use.{Use}
use Rattle.frame_rows.specs.declared.class.Use.TheVariants.{Unread}
use Rattle.frame_rows.specs.declared.class.Ending.{Ending}
use Rattle.frame_rows.specs.declared.class.Ending.TheVariants.{Dropped}
use Rattle.frame_rows.specs.declared.class.FrameClass.{FrameClass}
use Rattle.frame_rows.specs.Use.{use_by, use_of}
use Rattle.frame_rows.specs.Class.{class_of}
use Rattle.frame_rows.specs.Class.{ending_by as ending_of_verdict}
use Rattle.frame_rows.specs.Rows.{ending_by}

of_parts : Use → Ending → FrameClass
of_parts used ending = record { used = used; ending = ending }

-- ---- the ending

gem_ending : (gem : Result ℕ Reason) (frame : Reading) → ending_of_verdict (verdict_of (found_then gem (λ gem. Ok (gem, frame)))) ≡ ending_by gem
gem_ending (Ok gem) frame = refl
gem_ending (Err reason) frame = refl

tags_ending : (e : Entities) (port : ℕ) (tags : Result (List TagFields) Reason) (frame : Reading)
    → ending_of_verdict (verdict_of (found_then tags (λ tags. found_then (gem_port_at e port tags (dscp_of frame.rest)) (λ gem. Ok (gem, record frame { tags = tags })))))
    ≡ ending_by (found_then tags (λ tags. gem_port_at e port tags (dscp_of frame.rest)))
tags_ending e port (Ok tags) frame = gem_ending (gem_port_at e port tags (dscp_of frame.rest)) (record frame { tags = tags })
tags_ending e port (Err reason) frame = refl

-- ---- the class

-- the class by a table, of a frame that is read so or has a fault
class_with : Entities → ℕ → Option Table → Result Reading Reason → FrameClass
class_with e port table read =
    of_parts (use_by table read)
    (ending_of_verdict (verdict_of (found_then read (λ frame.
    found_then (tags_at table frame) (λ tags.
    found_then (gem_port_at e port tags (dscp_of frame.rest)) (λ gem. Ok (gem, record frame { tags = tags })))))))

class_is : (e : Entities) (port : ℕ) (bytes : List ℕ) → class_of e port bytes ≡ class_with e port (table_at e port) (read_at (table_at e port) bytes)
unfolding class_of use_of meaning forwarded_by class_with of_parts
class_is e port bytes = refl

-- of a frame with a fault
pub class_of_fault : (e : Entities) (port : ℕ) (bytes : List ℕ) (fault : FrameFault) → frame_of (input_tpid_of (table_at e port)) bytes ≡ Err fault
    → class_of e port bytes ≡ record { used = Unread; ending = Dropped (reason_of_fault fault) }
unfolding class_with of_parts
class_of_fault e port bytes fault is =
    class_is e port bytes ∙ rw is refl

-- of a frame that is read so
pub class_of_read : (e : Entities) (port : ℕ) (bytes : List ℕ) (frame : Reading) → frame_of (input_tpid_of (table_at e port)) bytes ≡ Ok frame
    → class_of e port bytes
    ≡ record {
      used = use_by (table_at e port) (Ok frame);
      ending = ending_by (found_then (tags_at (table_at e port) frame) (λ tags. gem_port_at e port tags (dscp_of frame.rest)));
    }
unfolding class_with of_parts
class_of_read e port bytes frame is =
    class_is e port bytes
    ∙ rw is (ap (of_parts (use_by (table_at e port) (Ok frame))) (tags_ending e port (tags_at (table_at e port) frame) frame))
