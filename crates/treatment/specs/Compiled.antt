-- A treatment made ready for the frames with one number of received tags: mixes, one for each tag that
-- such a frame leaves with.
use Rattle.std.specs.Prelude.{◌≡◌, ℕ, ◌*◌, ◌^◌, Bool, true, false, ◌&&◌, ◌||◌, ◌==◌, nat_lt, List, [], ◌∷◌, ◌++◌, All, Option, Some, None, length, map, option_map, take}
use Rattle.std.specs.List.{list_any}
use Rattle.tag_view.specs.Tag.{TagFields, IsInRange}
use Rattle.tag_view.specs.Word.{tag_of, word_of}
use Rattle.vlan_rule.specs.declared.settings.TableSettings.{TableSettings}
use Rattle.vlan_rule.specs.declared.treatment.PrioritySource.{PrioritySource}
use Rattle.vlan_rule.specs.declared.treatment.PrioritySource.TheVariants as from_priority
use Rattle.vlan_rule.specs.declared.treatment.VidSource.TheVariants as from_vid
use Rattle.vlan_rule.specs.declared.treatment.TpidSource.TheVariants as from_tpid
use Rattle.vlan_rule.specs.declared.treatment.EligibleSource.TheVariants as from_eligible
use Rattle.vlan_rule.specs.declared.treatment.AddedTag.{AddedTag}
use Rattle.vlan_rule.specs.declared.treatment.Retag.{Retag}
use Rattle.vlan_rule.specs.declared.treatment.Treatment.{Treatment}
use Rattle.vlan_rule.specs.declared.treatment.Treatment.TheVariants as treatment
use Rattle.treatment.specs.Treatment.{dscp_priority, inner_of, outer_of, treated_by}
use Rattle.treatment.specs.declared.mix.Mix.{Mix}
use Rattle.treatment.specs.Mix.{mixed}

-- ---- a compiled treatment

-- places for mixes, of which the first so many are used
pub record Compiled : Type 0 where
  pub mixes : List Mix
  pub count : ℕ

abbrev pub used : Compiled → List Mix
used compiled = take compiled.count compiled.mixes

-- the words that mixes make of two words and a priority
abbrev pub words_by : List Mix → ℕ → ℕ → ℕ → List ℕ
words_by mixes first last priority = map (λ mix. mixed mix first last (priority * 2 ^ 13)) mixes

-- the tags that mixes make of the received ones
abbrev pub tags_by : List Mix → TableSettings → List TagFields → Option ℕ → List TagFields
tags_by mixes settings tags dscp =
    map tag_of (words_by mixes (word_of (outer_of tags)) (word_of (inner_of tags)) (dscp_priority settings.dscp_map.0 dscp))

-- Compiled so, a treatment gives each frame with so many received tags what it gives uncompiled. None
-- stands for one that drops the frame.
abbrev pub Treats : Treatment → TableSettings → ℕ → Option Compiled → Type 0
Treats by settings received compiled =
    (tags : List TagFields) (dscp : Option ℕ) → length tags ≡ received → All IsInRange tags
    → option_map (λ c. tags_by (used c) settings tags dscp) compiled ≡ treated_by by settings tags dscp

-- ---- the DSCP

-- a mix has bits of the DSCP's priority
abbrev pub asks_dscp : Compiled → Bool
asks_dscp compiled = list_any (λ mix. nat_lt 0 mix.dscp) (used compiled)

abbrev pub is_from_dscp : PrioritySource → Bool
is_from_dscp (from_priority.Fixed priority) = false
is_from_dscp from_priority.Inner = false
is_from_dscp from_priority.Outer = false
is_from_dscp from_priority.Dscp = true

abbrev pub adds_dscp : Option AddedTag → Bool
adds_dscp None = false
adds_dscp (Some added) = is_from_dscp added.priority

-- a tag is added whose priority is that of the DSCP
abbrev pub takes_dscp : Treatment → Bool
takes_dscp treatment.Discard = false
takes_dscp (treatment.Retag retag) = adds_dscp retag.outer || adds_dscp retag.inner

-- ---- what words are made of

-- What a frame's words are to be made of: its first tag, its last tag and, where a mix asks for it, the
-- priority of its DSCP. A frame without tags has the tag of which copies are made then.
pub record AreSources (compiled : Compiled) (settings : TableSettings) (tags : List TagFields) (dscp : Option ℕ) (first : ℕ) (last : ℕ) (priority : ℕ) : Type 0 where
  pub range : All IsInRange tags
  pub outer : first ≡ word_of (outer_of tags)
  pub inner : last ≡ word_of (inner_of tags)
  pub marking : asks_dscp compiled ≡ true → priority ≡ dscp_priority settings.dscp_map.0 dscp

-- ---- the tags that leave, each as one that is added

abbrev pub copy_of_outer : AddedTag
copy_of_outer = record { priority = from_priority.Outer; vid = from_vid.Outer; tpid = from_tpid.Outer; eligible = from_eligible.Outer }

abbrev pub copy_of_inner : AddedTag
copy_of_inner = record { priority = from_priority.Inner; vid = from_vid.Inner; tpid = from_tpid.Inner; eligible = from_eligible.Inner }

abbrev pub of_option : Option AddedTag → List AddedTag
of_option None = []
of_option (Some added) = added ∷ []

abbrev pub only_if : Bool → AddedTag → Option AddedTag
only_if true added = Some added
only_if false added = None

-- the first received tag, where none is removed
abbrev pub first_kept : ℕ → ℕ → Option AddedTag
first_kept remove received = only_if (remove == 0 && nat_lt 0 received) copy_of_outer

-- the second of two, where not both are removed
abbrev pub second_kept : ℕ → ℕ → Option AddedTag
second_kept remove received = only_if (nat_lt remove 2 && received == 2) copy_of_inner

unfoldable pub outgoing : Retag → ℕ → List AddedTag
outgoing retag received =
    (of_option retag.outer ++ of_option retag.inner) ++ (of_option (first_kept retag.remove received) ++ of_option (second_kept retag.remove received))
