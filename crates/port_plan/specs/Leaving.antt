-- The plan of a port, and what it decides of a frame that was read.
use Rattle.std.specs.Prelude.{◌≡◌, ◌≤◌, ◌<◌, ◌⊎◌, ◌+◌, ◌*◌, ◌^◌, ℕ, drop, zero, suc, List, All, false, length, map, Option, Result, Ok, Err, slice_index, take}
use Rattle.std.specs.Option.{unwrap_or}
use Rattle.tag_view.specs.Tag.{TagFields, IsInRange}
use Rattle.tag_view.specs.Word.{tag_of}
use Rattle.tag_view.specs.Frame.{Reading, frame_bytes, frame_of, reading_of}
use Rattle.tag_view.specs.Dscp.{dscp_of}
use Rattle.rule_index.specs.Head.{FrameHead, head_of, tags_ahead}
use Rattle.treatment.specs.Compiled.{words_by}
use Rattle.managed_entity.specs.Instance.{Instance}
use Rattle.mib_state.specs.Entities.{Entities}
use Rattle.frame_meaning.specs.declared.reason.Reason.{Reason}
use Rattle.frame_meaning.specs.declared.verdict.Verdict.{Verdict}
use Rattle.frame_meaning.specs.declared.verdict.Verdict.TheVariants.{Forward, Drop}
use Rattle.port_plan.specs.declared.port_plan.PortPlan.{PortPlan}
use Rattle.port_plan.specs.declared.port_plan.Tagging.{Tagging}
use Rattle.frame_meaning.specs.Meaning.{found_then, table_at, tags_at, mapper_at, gem_port_at}
use Rattle.port_plan.specs.Plan.{AreRoutes, IsDscp, dscp_place, transparent, untagged_priority}

-- the plan of a port: that of its table, or of a transparent one, and the routes of its mapper, or those without one
pub record IsPlanOf (e : Entities) (port : ℕ) (plan : PortPlan) : Type 0 where
  pub table : plan.table.now.table ≡ unwrap_or (table_at e port) transparent
  pub routes : AreRoutes e (mapper_at e port) plan.routes.now

-- ---- the DSCP

-- neither table nor mapper asks for the DSCP, and the place is that of none
pub record IsUnasked (plan : PortPlan) (place : ℕ) : Type 0 where
  pub table : plan.table.now.uses_dscp ≡ false
  pub routes : plan.routes.now.uses_dscp ≡ false
  pub none : place ≡ 64

-- the place of a DSCP
pub record IsAsked (dscp : Option ℕ) (place : ℕ) : Type 0 where
  pub six_bits : IsDscp dscp
  pub there : place ≡ dscp_place dscp

-- the place that stands for the DSCP of a frame
abbrev pub IsPlaceFor : PortPlan → Option ℕ → ℕ → Type 0
IsPlaceFor plan dscp place = IsAsked dscp place ⊎ IsUnasked plan place

-- ---- a frame that was read

-- the GEM port by which it leaves, and the tags that it leaves with, or the first reason to drop it
unfoldable pub leaves_by : Entities → ℕ → Reading → Result (ℕ × List TagFields) Reason
leaves_by e port frame =
    found_then (tags_at (table_at e port) frame) (λ tags.
    found_then (gem_port_at e port tags (dscp_of frame.rest)) (λ gem. Ok (gem, tags)))

-- the words of the tags that are made, and others behind them
abbrev pub words_made : Tagging → List ℕ
words_made t = words_by t.treat.now.mixes t.first t.last t.marking

-- the tags that are made
abbrev pub tags_made : Tagging → List TagFields
tags_made t = map tag_of (take t.treat.now.count (words_made t))

-- the priority of a frame that leaves with so many of these tags
abbrev pub priority_made : Option Instance → Option ℕ → ℕ → List ℕ → ℕ
priority_made mapper dscp zero words = untagged_priority mapper dscp
priority_made mapper dscp (suc n) words = let outermost = tag_of (slice_index words 0) in outermost.pcp

-- a frame that was read, of which the head is looked at
pub record HasHead (head : FrameHead) (frame : Reading) : Type 0 where
  pub read : head_of frame ≡ head
  pub two : length frame.tags ≤ 2
  pub range : All IsInRange frame.tags

-- and what is behind its tags
pub record IsFrameOf (head : FrameHead) (rest : List ℕ) (frame : Reading) : Type 0 where
  pub ahead : HasHead head frame
  pub behind : frame.rest ≡ rest

-- the head of a frame that the port of a plan reads
pub record IsHeadOf (plan : PortPlan) (bytes : List ℕ) (head : FrameHead) : Type 0 where
  pub read : frame_of plan.table.now.table.settings.input_tpid bytes ≡ Ok (reading_of plan.table.now.table.settings.input_tpid bytes)
  pub of : IsFrameOf head (drop (12 + 4 * length head.tags) bytes) (reading_of plan.table.now.table.settings.input_tpid bytes)
  pub whole : 14 + 4 * length head.tags ≤ length bytes

-- a number under 3 is how many tags the port of a plan reads of a frame, by tag types that have two bytes each
pub record IsForeseen (plan : PortPlan) (bytes : List ℕ) (tags : ℕ) : Type 0 where
  pub type_fits : plan.table.now.table.settings.input_tpid < 2 ^ 16
  pub count : tags < 3 → tags ≡ tags_ahead plan.table.now.table.settings.input_tpid bytes

-- ---- what comes of a frame

-- the GEM port by which it leaves and how many bytes it has then, or why it is dropped
abbrev pub outcome_of : Verdict → Result (ℕ × ℕ) Reason
outcome_of (Forward gem frame) = Ok (gem, length (frame_bytes frame))
outcome_of (Drop reason) = Err reason
