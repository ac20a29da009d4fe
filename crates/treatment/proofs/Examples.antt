-- Worked examples, computed.
use Rattle.std.proofs.Common.{◌≡◌, ℕ, List, [], ◌∷◌, Some, None, false, refl}
use Rattle.tag_view.specs.Tag.{TagFields}
use Rattle.tag_view.specs.Dscp.{group_of}
use Rattle.vlan_rule.specs.declared.settings.TableSettings.{TableSettings}
use Rattle.vlan_rule.specs.Entry.{entry_of, number_of, value_of}
use Rattle.vlan_rule.specs.Meaning.{treatment_of}
use Rattle.vlan_rule.specs.declared.treatment.PrioritySource.TheVariants as from_priority
use Rattle.vlan_rule.specs.declared.treatment.VidSource.TheVariants as from_vid
use Rattle.vlan_rule.specs.declared.treatment.TpidSource.TheVariants as from_tpid
use Rattle.vlan_rule.specs.declared.treatment.EligibleSource.TheVariants as from_eligible
use Rattle.vlan_rule.specs.declared.treatment.AddedTag.{AddedTag}
use Rattle.treatment.specs.Treatment.{treated, treated_by}
use Rattle.treatment.specs.Mix.{mix_of, mixed}
use Rattle.treatment.specs.Compiled.{copy_of_outer}

-- DSCP 46 has priority 5
mapping : List ℕ
mapping =
    0 ∷ 0 ∷ 0 ∷ 0 ∷ 0 ∷ 0 ∷ 0 ∷ 0 ∷ 0 ∷ 0 ∷ 0 ∷ 0 ∷ 0 ∷ 0 ∷ 0 ∷ 0 ∷ 0 ∷ 0x28 ∷ 0 ∷ 0 ∷ 0 ∷ 0 ∷ 0 ∷ 0 ∷ []

settings : TableSettings
settings = record { input_tpid = 0x8100; output_tpid = 0x9100; dscp_map = record { 0 = mapping } }

tag : ℕ → ℕ → ℕ → TagFields
tag tpid pcp vid = record { tpid = tpid; pcp = pcp; dei = false; vid = vid }

-- an untagged frame leaves with VLAN 100
added : treated (entry_of 0xf8000000f8000000 0x000f000000000324) settings [] None ≡ Some (tag 0x8100 0 100 ∷ [])
unfolding treated treated_by treatment_of value_of number_of settings tag
added = refl

-- the VID changes and the priority stays
moved : treated (entry_of 0xf800000080320000 0x400f000000080644) settings (tag 0x8100 5 100 ∷ []) None ≡ Some (tag 0x8100 5 200 ∷ [])
unfolding treated treated_by treatment_of value_of number_of settings tag
moved = refl

-- the frame is dropped
dropped : treated (entry_of 0xf8000000e8000000 0xc00f0000000f0000) settings (tag 0x8100 5 100 ∷ []) None ≡ None
unfolding treated treated_by treatment_of value_of number_of settings tag
dropped = refl

-- the outer of two tags goes
peeled : treated (entry_of 0x8800000088000000 0x400f0000000f0000) settings (tag 0x88a8 0 100 ∷ tag 0x8100 0 200 ∷ []) None
    ≡ Some (tag 0x8100 0 200 ∷ [])
unfolding treated treated_by treatment_of value_of number_of settings tag
peeled = refl

-- two of one tag go
bare : treated (entry_of 0xf800000088000000 0x800f0000000f0000) settings (tag 0x8100 0 100 ∷ []) None ≡ Some []
unfolding treated treated_by treatment_of value_of number_of settings tag
bare = refl

-- copies of no tag
copied : treated (entry_of 0xf8000000f8000000 0x000f000000088000) settings [] None ≡ Some (tag 0x8100 0 0 ∷ [])
unfolding treated treated_by treatment_of value_of number_of settings tag
copied = refl

-- the priority of a DSCP
marked : treated (entry_of 0xf8000000f8000000 0x000f0000000a0324) settings [] (Some 46) ≡ Some (tag 0x8100 5 100 ∷ [])
unfolding treated treated_by treatment_of value_of number_of group_of mapping settings tag
marked = refl

-- ---- mixes

-- VID 200, the priority of the received inner tag, type 0x8100
changed : AddedTag
changed = record { priority = from_priority.Inner; vid = from_vid.Fixed 200; tpid = from_tpid.Standard; eligible = from_eligible.Clear }

changed_mix : mix_of settings changed ≡ record { fixed = 0x810000c8; outer = 0; inner = 0xe000; dscp = 0 }
unfolding mix_of settings changed
changed_mix = refl

changed_word : mixed (mix_of settings changed) 0x8100a064 0x8100a064 0 ≡ 0x8100a0c8
unfolding mix_of settings changed
changed_word = refl

-- a received tag that is kept
kept_mix : mix_of settings copy_of_outer ≡ record { fixed = 0; outer = 0xffffffff; inner = 0; dscp = 0 }
unfolding mix_of settings
kept_mix = refl

kept_word : mixed (mix_of settings copy_of_outer) 0x88a87064 0x8100c0c8 0xa000 ≡ 0x88a87064
unfolding mix_of settings
kept_word = refl

-- the priority of DSCP 46, the output type
marked_tag : AddedTag
marked_tag = record { priority = from_priority.Dscp; vid = from_vid.Fixed 100; tpid = from_tpid.Output; eligible = from_eligible.Set }

marked_mix : mix_of settings marked_tag ≡ record { fixed = 0x91001064; outer = 0; inner = 0; dscp = 0xe000 }
unfolding mix_of settings marked_tag
marked_mix = refl

marked_word : mixed (mix_of settings marked_tag) 0x81000000 0x81000000 0xa000 ≡ 0x9100b064
unfolding mix_of settings marked_tag
marked_word = refl
