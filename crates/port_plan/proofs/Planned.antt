-- What the plan of a port decides of a frame.
use Rattle.std.proofs.Common.{◌≡◌, ℕ, ◌≤◌, true, false, List, [], ◌∷◌, map, take, length, Option, Some, None, Ok, Err, All, refl, ap, sym, ◌∙◌, arith, inl, inr, zero, suc, ◌-◌}
use Rattle.std.specs.Prelude.{slice_index_or}
use Rattle.std.proofs.lemmas.Bool.{true≢false}
use Rattle.std.specs.Option.{unwrap_or}
use Rattle.port_plan.specs.declared.port_plan.PortPlan.{PortPlan}
use Rattle.tag_view.specs.Tag.{TagFields, IsInRange, missing_tag}
use Rattle.tag_view.specs.Word.{tag_of, word_of}
use Rattle.tag_view.specs.Packed.{tag_back}
use Rattle.vlan_rule.specs.declared.settings.TableSettings.{TableSettings}
use Rattle.vlan_rule.specs.Meaning.{treatment_of}
use Rattle.treatment.specs.Compiled.{AreSources, Compiled, Treats, asks_dscp, words_by}
use Rattle.treatment.proofs.Sources.{words-treat_entry}
use Rattle.port_plan.proofs.Transparent.{transparent_tags}
use Rattle.tag_view.specs.Frame.{Reading}
use Rattle.tag_view.specs.Dscp.{dscp_of}
use Rattle.treatment.specs.Treatment.{dscp_priority, inner_of, outer_of, treated}
use Rattle.pmapper.specs.Mapper.{priority_of}
use Rattle.managed_entity.specs.Instance.{Instance}
use Rattle.mib_state.specs.Entities.{Entities}
use Rattle.frame_meaning.specs.declared.reason.Reason.{Reason}
use Rattle.frame_meaning.specs.Meaning.{Table, entry_for, gem_port_at, mapper_at, table_at, tags_at, tags_by}
use Rattle.port_plan.specs.Plan.{IsDscp, dscp_place, route_of, transparent, untagged_priority}
use Rattle.port_plan.specs.Leaving.{IsPlaceFor, leaves_by, priority_made}

-- ---- the tags

-- the tags by an entry's treatment
pub by_entry : (table : Table) (frame : Reading) (entry : List ℕ) (tags : List TagFields) → entry_for table frame ≡ Some entry
    → Some tags ≡ treated entry table.settings frame.tags (dscp_of frame.rest) → tags_by table frame ≡ Ok tags
unfolding tags_by
by_entry table frame entry tags used is = rw (used, sym is) refl

-- the first and the last tag, by what stands for one that isn't there
outer_first : (tags : List TagFields) → outer_of tags ≡ slice_index_or tags 0 missing_tag
outer_first [] = refl
outer_first (tag ∷ rest) = refl

inner_last : (tags : List TagFields) → length tags ≤ 2 → inner_of tags ≡ slice_index_or tags (length tags - 1) missing_tag
inner_last [] two = refl
inner_last (tag ∷ []) two = refl
inner_last (tag ∷ next ∷ []) two = refl
inner_last (tag ∷ next ∷ third ∷ rest) two = absurd (omega (arith, two))

-- the words of a head are sources of its tags' treatment
pub sources : (compiled : Compiled) (settings : TableSettings) (tags : List TagFields) (dscp : Option ℕ) (first last marking : ℕ)
    → length tags ≤ 2 → All IsInRange tags → tag_of first ≡ slice_index_or tags 0 missing_tag → tag_of last ≡ slice_index_or tags (length tags - 1) missing_tag
    → (asks_dscp compiled ≡ true → marking ≡ dscp_priority settings.dscp_map.0 dscp) → AreSources compiled settings tags dscp first last marking
sources compiled settings tags dscp first last marking two range is_first is_last marks =
    record {
      range = range;
      outer = sym (tag_back first) ∙ ap word_of (is_first ∙ sym (outer_first tags));
      inner = sym (tag_back last) ∙ ap word_of (is_last ∙ sym (inner_last tags two));
      marking = marks;
    }

-- the priority of the DSCP is right where a treatment asks for it
pub marked : (plan : PortPlan) (compiled : Compiled) (settings : TableSettings) (dscp : Option ℕ) (place marking : ℕ) → IsPlaceFor plan dscp place
    → (IsDscp dscp → place ≡ dscp_place dscp → marking ≡ dscp_priority settings.dscp_map.0 dscp)
    → (plan.table.now.uses_dscp ≡ false → asks_dscp compiled ≡ false) → asks_dscp compiled ≡ true
    → marking ≡ dscp_priority settings.dscp_map.0 dscp
marked plan compiled settings dscp place marking (inl there) value none asks = value there.six_bits there.there
marked plan compiled settings dscp place marking (inr unasked) value none asks = absurd (true≢false (sym asks ∙ none unasked.table))

-- a port without a table has a transparent one
pub planned_tags : (table : Option Table) (frame : Reading) → length frame.tags ≤ 2 → All IsInRange frame.tags
    → tags_at table frame ≡ tags_by (unwrap_or table transparent) frame
unfolding tags_at
planned_tags None frame two range = sym (transparent_tags frame two)
planned_tags (Some table) frame two range = refl

-- the tags that are made of a frame's words are those that the table of the port gives
pub made_tags : (e : Entities) (port : ℕ) (frame : Reading) (table : Table) (entry : List ℕ) (compiled : Compiled) (first last marking : ℕ)
    → table ≡ unwrap_or (table_at e port) transparent → length frame.tags ≤ 2 → All IsInRange frame.tags → entry_for table frame ≡ Some entry
    → Treats (treatment_of entry) table.settings (length frame.tags) (Some compiled)
    → AreSources compiled table.settings frame.tags (dscp_of frame.rest) first last marking
    → tags_at (table_at e port) frame ≡ Ok (map tag_of (take compiled.count (words_by compiled.mixes first last marking)))
made_tags e port frame table entry compiled first last marking planned two range used treats are =
    planned_tags (table_at e port) frame two range
    ∙ ap (λ t. tags_by t frame) (sym planned)
    ∙ by_entry table frame entry (map tag_of (take compiled.count (words_by compiled.mixes first last marking))) used
    (words-treat_entry compiled first last marking entry table.settings frame.tags (dscp_of frame.rest) treats are)

-- a frame is dropped for the reason of that table
pub planned_reason : (e : Entities) (port : ℕ) (frame : Reading) (table : Table) (reason : Reason)
    → table ≡ unwrap_or (table_at e port) transparent → length frame.tags ≤ 2 → All IsInRange frame.tags → tags_by table frame ≡ Err reason
    → tags_at (table_at e port) frame ≡ Err reason
planned_reason e port frame table reason planned two range is =
    planned_tags (table_at e port) frame two range ∙ ap (λ t. tags_by t frame) (sym planned) ∙ is

-- ---- the GEM port

-- of frames that leave without a tag
pub gem_untagged : (e : Entities) (port : ℕ) (dscp : Option ℕ)
    → route_of e (mapper_at e port) (untagged_priority (mapper_at e port) dscp) ≡ gem_port_at e port [] dscp
unfolding gem_port_at priority_of
gem_untagged e port dscp = by_case (mapper_at e port) refl
  where
    by_case : (m : Option Instance) → mapper_at e port ≡ m
        → route_of e (mapper_at e port) (untagged_priority (mapper_at e port) dscp) ≡ gem_port_at e port [] dscp
    by_case None is = rw is refl
    by_case (Some m) is = rw is refl

-- and with tags
pub gem_tagged : (e : Entities) (port : ℕ) (outermost : TagFields) (inner : List TagFields) (dscp : Option ℕ)
    → route_of e (mapper_at e port) outermost.pcp ≡ gem_port_at e port (outermost ∷ inner) dscp
unfolding gem_port_at priority_of
gem_tagged e port outermost inner dscp = by_case (mapper_at e port) refl
  where
    by_case : (m : Option Instance) → mapper_at e port ≡ m
        → route_of e (mapper_at e port) outermost.pcp ≡ gem_port_at e port (outermost ∷ inner) dscp
    by_case None is = rw is refl
    by_case (Some m) is = rw is refl

-- ---- both

pub leaves : (e : Entities) (port gem : ℕ) (frame : Reading) (tags : List TagFields) → tags_at (table_at e port) frame ≡ Ok tags
    → Ok gem ≡ gem_port_at e port tags (dscp_of frame.rest) → leaves_by e port frame ≡ Ok (gem, tags)
unfolding leaves_by
leaves e port gem frame tags kept found = rw (kept, sym found) refl

pub dropped_by_table : (e : Entities) (port : ℕ) (frame : Reading) (reason : Reason) → tags_at (table_at e port) frame ≡ Err reason
    → leaves_by e port frame ≡ Err reason
unfolding leaves_by
dropped_by_table e port frame reason is = rw is refl

pub dropped_by_route : (e : Entities) (port : ℕ) (frame : Reading) (tags : List TagFields) (reason : Reason) → tags_at (table_at e port) frame ≡ Ok tags
    → Err reason ≡ gem_port_at e port tags (dscp_of frame.rest) → leaves_by e port frame ≡ Err reason
unfolding leaves_by
dropped_by_route e port frame tags reason kept found = rw (kept, sym found) refl

-- the GEM port of a frame that leaves with so many of these tags
pub gem_made : (e : Entities) (port : ℕ) (dscp : Option ℕ) (count : ℕ) (words : List ℕ) → length words ≡ 4
    → route_of e (mapper_at e port) (priority_made (mapper_at e port) dscp count words) ≡ gem_port_at e port (map tag_of (take count words)) dscp
gem_made e port dscp zero words four = gem_untagged e port dscp
gem_made e port dscp (suc n) [] four = absurd (omega (arith, four))
gem_made e port dscp (suc n) (word ∷ words) four = gem_tagged e port (tag_of word) (map tag_of (take n words)) dscp
