-- The frames of an 802.1p mapper service profile (ITU-T G.988, 9.3.10): the priority of a frame that leaves by it, and
-- the interwork TP pointer of that priority. Attributes are numbered from 1, as there.
use Rattle.std.specs.Prelude.{ℕ, ◌%◌, ◌^◌, List, [], ◌∷◌, Option, Some, None, if◌then◌else◌, ◌==◌, slice_index}
use Rattle.tag_view.specs.Tag.{TagFields}
use Rattle.tag_view.specs.Dscp.{group_of}
use Rattle.pmapper.specs.declared.mapper.Mapper.{Mapper}
use Rattle.pmapper.specs.declared.unmarked.UnmarkedFrameOption.{UnmarkedFrameOption}
use Rattle.pmapper.specs.declared.unmarked.UnmarkedFrameOption.TheVariants.{ByDscp, ByDefault}

-- ---- frames without a tag

-- what a mapper says of them
pub record Unmarked : Type 0 where
  -- the unmarked frame option, attribute 10
  pub option : ℕ
  -- the DSCP to P-bit mapping, attribute 11, by its 24 bytes
  pub dscp_map : List ℕ
  -- the default P-bit assumption, attribute 12
  pub default_p_bit : ℕ

abbrev pub unmarked_of : Mapper → Unmarked
unmarked_of m = record { option = m.unmarked_frame_option; dscp_map = m.dscp_map.0; default_p_bit = m.default_p_bit_assumption }

-- option 0: by the DSCP; 1: the default. That every other option is as 1 is a choice of this project.
abbrev pub option_of : ℕ → UnmarkedFrameOption
option_of number = if number == 0 then ByDscp else ByDefault

-- the default priority; that the low three bits count is a choice of this project
abbrev pub default_priority : Unmarked → ℕ
default_priority unmarked = unmarked.default_p_bit % 2 ^ 3

-- the priority of a frame by its DSCP; that one without a DSCP has the default priority is a choice of this project
abbrev pub dscp_priority : Unmarked → Option ℕ → ℕ
dscp_priority unmarked (Some dscp) = group_of unmarked.dscp_map dscp
dscp_priority unmarked None = default_priority unmarked

abbrev pub unmarked_priority_by : UnmarkedFrameOption → Unmarked → Option ℕ → ℕ
unmarked_priority_by ByDscp unmarked dscp = dscp_priority unmarked dscp
unmarked_priority_by ByDefault unmarked dscp = default_priority unmarked

-- the priority of a frame without a tag, with its DSCP if it has one
abbrev pub unmarked_priority_of : Unmarked → Option ℕ → ℕ
unmarked_priority_of unmarked dscp = unmarked_priority_by (option_of unmarked.option) unmarked dscp

-- ---- all frames

-- the priority of a frame that leaves with these tags, the outermost first: that of the outermost, whatever its TPID
unfoldable pub priority_of : Unmarked → List TagFields → Option ℕ → ℕ
priority_of unmarked [] dscp = unmarked_priority_of unmarked dscp
priority_of unmarked (outermost ∷ inner) dscp = outermost.pcp

-- the pointer of a priority among the interwork TP pointers, attribute 2 for priority 0 up to attribute 9 for 7; 0xFFFF
-- points to nothing
unfoldable pub pointer_of : List ℕ → ℕ → Option ℕ
pointer_of pointers priority = let pointer = slice_index pointers priority in if pointer == 0xFFFF then None else Some pointer
