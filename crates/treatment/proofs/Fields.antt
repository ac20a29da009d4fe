-- A field of a mix's word comes from its one source.
use Rattle.std.proofs.Common.{◌≡◌, ◌<◌, ℕ, ◌^◌, Bool, true, false, ◌&&◌, ◌||◌, List, Option, arith, refl, ◌∙◌, bit_and, bit_or}
use Rattle.std.specs.Int.Bits.{and_zero_r, or_zero_l, or_zero_r}
use Rattle.std.proofs.lemmas.Nat.{and_mask}
use Rattle.tag_view.specs.Tag.{TagFields, IsInRange}
use Rattle.vlan_rule.specs.declared.settings.TableSettings.{TableSettings}
use Rattle.vlan_rule.specs.declared.treatment.PrioritySource.{PrioritySource}
use Rattle.vlan_rule.specs.declared.treatment.PrioritySource.TheVariants as from_priority
use Rattle.vlan_rule.specs.declared.treatment.VidSource.{VidSource}
use Rattle.vlan_rule.specs.declared.treatment.VidSource.TheVariants as from_vid
use Rattle.vlan_rule.specs.declared.treatment.TpidSource.{TpidSource}
use Rattle.vlan_rule.specs.declared.treatment.TpidSource.TheVariants as from_tpid
use Rattle.vlan_rule.specs.declared.treatment.EligibleSource.{EligibleSource}
use Rattle.vlan_rule.specs.declared.treatment.EligibleSource.TheVariants as from_eligible
use Rattle.treatment.specs.Treatment.{dscp_priority, eligible_from, inner_of, outer_of, priority_from, tpid_from, vid_from}
use Rattle.treatment.specs.Mix.{fixed_tpid, fixed_priority, fixed_vid, fixed_eligible, outer_tpid, outer_priority, outer_eligible, outer_vid, inner_tpid, inner_priority, inner_eligible, inner_vid, dscp_priority_mask}

-- ---- all ones leave a field as it is

mask_tpid : (n : ℕ) → n < 2 ^ 16 → bit_and n 0xffff ≡ n
mask_tpid n h = and_mask n 16 ∙ omega arith

mask_priority : (n : ℕ) → n < 2 ^ 3 → bit_and n 7 ≡ n
mask_priority n h = and_mask n 3 ∙ omega arith

mask_vid : (n : ℕ) → n < 2 ^ 12 → bit_and n 0xfff ≡ n
mask_vid n h = and_mask n 12 ∙ omega arith

-- ---- a field of four sources, of which one alone has ones

-- what is fixed, and three numbers with their masks
abbrev field : ℕ → ℕ → ℕ → ℕ → ℕ → ℕ → ℕ → ℕ
field fixed f outer l inner q dscp = bit_or (bit_or (bit_or fixed (bit_and f outer)) (bit_and l inner)) (bit_and q dscp)

only_fixed : (n f l q : ℕ) → field n f 0 l 0 q 0 ≡ n
only_fixed n f l q = simp (and_zero_r, or_zero_r) refl

only_outer : (f mask l q : ℕ) → bit_and f mask ≡ f → field 0 f mask l 0 q 0 ≡ f
only_outer f mask l q e = rw e (simp (and_zero_r, or_zero_r) refl)

only_inner : (f l mask q : ℕ) → bit_and l mask ≡ l → field 0 f 0 l mask q 0 ≡ l
only_inner f l mask q e = rw e (simp (and_zero_r, or_zero_r, or_zero_l) refl)

only_dscp : (f l q mask : ℕ) → bit_and q mask ≡ q → field 0 f 0 l 0 q mask ≡ q
only_dscp f l q mask e = rw e (simp (and_zero_r, or_zero_l) refl)

-- ---- each field of a tag

pub vid-field : (s : VidSource) (tags : List TagFields) → IsInRange (outer_of tags) → IsInRange (inner_of tags)
    → field (fixed_vid s) (outer_of tags).vid (outer_vid s) (inner_of tags).vid (inner_vid s) 0 0 ≡ vid_from s tags
vid-field (from_vid.Fixed vid) tags hf hl = only_fixed vid (outer_of tags).vid (inner_of tags).vid 0
vid-field from_vid.Inner tags hf hl = only_inner (outer_of tags).vid (inner_of tags).vid 0xfff 0 (mask_vid _ hl.vid)
vid-field from_vid.Outer tags hf hl = only_outer (outer_of tags).vid 0xfff (inner_of tags).vid 0 (mask_vid _ hf.vid)

pub priority-field : (s : PrioritySource) (settings : TableSettings) (tags : List TagFields) (dscp : Option ℕ) → IsInRange (outer_of tags) → IsInRange (inner_of tags)
    → dscp_priority settings.dscp_map.0 dscp < 2 ^ 3
    → field (fixed_priority s) (outer_of tags).pcp (outer_priority s) (inner_of tags).pcp (inner_priority s) (dscp_priority settings.dscp_map.0 dscp) (dscp_priority_mask s)
    ≡ priority_from s settings tags dscp
priority-field (from_priority.Fixed priority) settings tags dscp hf hl hq = only_fixed priority (outer_of tags).pcp (inner_of tags).pcp (dscp_priority settings.dscp_map.0 dscp)
priority-field from_priority.Inner settings tags dscp hf hl hq = only_inner (outer_of tags).pcp (inner_of tags).pcp 7 (dscp_priority settings.dscp_map.0 dscp) (mask_priority _ hl.pcp)
priority-field from_priority.Outer settings tags dscp hf hl hq = only_outer (outer_of tags).pcp 7 (inner_of tags).pcp (dscp_priority settings.dscp_map.0 dscp) (mask_priority _ hf.pcp)
priority-field from_priority.Dscp settings tags dscp hf hl hq = only_dscp (outer_of tags).pcp (inner_of tags).pcp (dscp_priority settings.dscp_map.0 dscp) 7 (mask_priority _ hq)

pub tpid-field : (s : TpidSource) (settings : TableSettings) (tags : List TagFields) → IsInRange (outer_of tags) → IsInRange (inner_of tags)
    → field (fixed_tpid settings s) (outer_of tags).tpid (outer_tpid s) (inner_of tags).tpid (inner_tpid s) 0 0 ≡ tpid_from s settings tags
tpid-field from_tpid.Inner settings tags hf hl = only_inner (outer_of tags).tpid (inner_of tags).tpid 0xffff 0 (mask_tpid _ hl.tpid)
tpid-field from_tpid.Outer settings tags hf hl = only_outer (outer_of tags).tpid 0xffff (inner_of tags).tpid 0 (mask_tpid _ hf.tpid)
tpid-field from_tpid.Output settings tags hf hl = only_fixed settings.output_tpid (outer_of tags).tpid (inner_of tags).tpid 0
tpid-field from_tpid.Standard settings tags hf hl = only_fixed 0x8100 (outer_of tags).tpid (inner_of tags).tpid 0

and-true : (b : Bool) → (b && true) ≡ b
and-true true = refl
and-true false = refl

and-false : (b : Bool) → (b && false) ≡ false
and-false true = refl
and-false false = refl

or-false : (b : Bool) → (b || false) ≡ b
or-false true = refl
or-false false = refl

pub eligible-field : (s : EligibleSource) (tags : List TagFields)
    → ((fixed_eligible s || (outer_of tags).dei && outer_eligible s) || (inner_of tags).dei && inner_eligible s) || false && false ≡ eligible_from s tags
eligible-field from_eligible.Inner tags = simp (and-true, and-false, or-false) refl
eligible-field from_eligible.Outer tags = simp (and-true, and-false, or-false) refl
eligible-field from_eligible.Clear tags = simp (and-false, or-false) refl
eligible-field from_eligible.Set tags = simp or-false refl
