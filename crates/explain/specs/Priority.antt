-- Where the priority of a frame comes from (ITU-T G.988, clause 9.3.10).
use Rattle.std.specs.Prelude.{◌≡◌, ℕ, List, [], ◌∷◌, Option, Some, None, if◌then◌else◌, ◌==◌}
use Rattle.tag_view.specs.Tag.{TagFields}
use Rattle.tag_view.specs.Dscp.{group_of}
use Rattle.treatment.specs.Treatment.{outer_of}
use Rattle.pmapper.specs.Mapper.{Unmarked, default_priority, priority_of}
use Rattle.explain.specs.declared.priority.PriorityOrigin.{PriorityOrigin}
use Rattle.explain.specs.declared.priority.PriorityOrigin.TheVariants.{OutermostTag, Dscp, Default}

-- of a frame without a tag, by the DSCP
abbrev pub dscp_origin : Option ℕ → PriorityOrigin
dscp_origin (Some dscp) = Dscp dscp
dscp_origin None = Default

-- of a frame that leaves with these tags, and with this DSCP if it has one
abbrev pub priority_origin : Unmarked → List TagFields → Option ℕ → PriorityOrigin
priority_origin unmarked [] dscp = if unmarked.option == 0 then dscp_origin dscp else Default
priority_origin unmarked (outermost ∷ inner) dscp = OutermostTag

-- ---- law

-- the priority that an origin gives
abbrev pub priority_from : PriorityOrigin → Unmarked → List TagFields → ℕ
priority_from OutermostTag unmarked tags = (outer_of tags).pcp
priority_from (Dscp dscp) unmarked tags = group_of unmarked.dscp_map dscp
priority_from Default unmarked tags = default_priority unmarked

-- the priority of each frame is that which its origin gives
pub record HasTruePriority : Type 0 where
  pub priority : (unmarked : Unmarked) (tags : List TagFields) (dscp : Option ℕ)
      → priority_of unmarked tags dscp ≡ priority_from (priority_origin unmarked tags dscp) unmarked tags
