-- The mixes of a treatment make the tags that it gives.
use Rattle.std.proofs.Common.{◌≡◌, ◌<◌, ◌≤◌, ℕ, zero, suc, ◌^◌, Bool, true, false, ◌&&◌, ◌||◌, List, [], ◌∷◌, ◌++◌, Option, Some, None, length, map, arith, refl, ap, ◌∙◌}
use Rattle.std.specs.Prelude.{All, ◌==◌, nat_le, nat_lt}
use Rattle.std.specs.List.{list_any}
use Rattle.std.proofs.lemmas.Nat.{mod_below}
use Rattle.std.proofs.lemmas.Bool.{and_parts, leb-true}
use Rattle.std.proofs.lemmas.List.{map-append}
use Rattle.std.proofs.lemmas.List.Folds.{list_any-append}
use Rattle.tag_view.specs.Tag.{TagFields, IsInRange}
use Rattle.tag_view.specs.Word.{word_of}
use Rattle.tag_view.specs.Dscp.{group_of}
use Rattle.vlan_rule.specs.declared.settings.TableSettings.{TableSettings}
use Rattle.vlan_rule.specs.declared.treatment.PrioritySource.{PrioritySource}
use Rattle.vlan_rule.specs.declared.treatment.PrioritySource.TheVariants as from_priority
use Rattle.vlan_rule.specs.declared.treatment.AddedTag.{AddedTag}
use Rattle.vlan_rule.specs.declared.treatment.Retag.{Retag}
use Rattle.vlan_rule.specs.declared.treatment.Treatment.TheVariants as treatment
use Rattle.vlan_rule.specs.Meaning.{addition_fits, treatment_fits}
use Rattle.treatment.specs.Treatment.{addition_from, additions_from, dscp_priority, inner_of, left_of, outer_of, treated_by}
use Rattle.treatment.specs.declared.mix.Mix.{Mix}
use Rattle.treatment.specs.Mix.{dscp_priority_mask, mix_of}
use Rattle.treatment.specs.Compiled.{Compiled, Treats, adds_dscp, asks_dscp, copy_of_inner, copy_of_outer, first_kept, is_from_dscp, of_option, only_if, outgoing, second_kept, tags_by, takes_dscp, used}
use Rattle.treatment.proofs.Mixes.{mix-makes}

-- ---- the tags that leave

option-makes : (o : Option AddedTag) (settings : TableSettings) (tags : List TagFields) (dscp : Option ℕ) → addition_fits o ≡ true
    → IsInRange (outer_of tags) → IsInRange (inner_of tags) → dscp_priority settings.dscp_map.0 dscp < 2 ^ 3
    → tags_by (map (mix_of settings) (of_option o)) settings tags dscp ≡ addition_from o settings tags dscp
option-makes None settings tags dscp fits hf hl hq = refl
option-makes (Some added) settings tags dscp fits hf hl hq = ap (λ (t : TagFields). t ∷ []) (mix-makes added settings tags dscp fits hf hl hq)

options-make : (a b c d : Option AddedTag) (settings : TableSettings) (tags : List TagFields) (dscp : Option ℕ)
    → addition_fits a ≡ true → addition_fits b ≡ true → addition_fits c ≡ true → addition_fits d ≡ true
    → IsInRange (outer_of tags) → IsInRange (inner_of tags) → dscp_priority settings.dscp_map.0 dscp < 2 ^ 3
    → tags_by (map (mix_of settings) ((of_option a ++ of_option b) ++ (of_option c ++ of_option d))) settings tags dscp
    ≡ (addition_from a settings tags dscp ++ addition_from b settings tags dscp) ++ (addition_from c settings tags dscp ++ addition_from d settings tags dscp)
options-make a b c d settings tags dscp ha hb hc hd hf hl hq =
    let ea = option-makes a settings tags dscp ha hf hl hq in
    let eb = option-makes b settings tags dscp hb hf hl hq in
    let ec = option-makes c settings tags dscp hc hf hl hq in
    let ed = option-makes d settings tags dscp hd hf hl hq in
    simp (map-append, ea, eb, ec, ed) refl

-- the received tags that are kept, made as added ones, are those that are left
kept-left : (r : ℕ) (settings : TableSettings) (tags : List TagFields) (dscp : Option ℕ) → r ≤ 2 → length tags ≤ 2
    → addition_from (first_kept r (length tags)) settings tags dscp ++ addition_from (second_kept r (length tags)) settings tags dscp ≡ left_of r tags
kept-left zero settings [] dscp two short = refl
kept-left zero settings (a ∷ []) dscp two short = refl
kept-left zero settings (a ∷ b ∷ []) dscp two short = refl
kept-left zero settings (a ∷ b ∷ c ∷ rest) dscp two short = absurd (omega arith)
kept-left (suc zero) settings [] dscp two short = refl
kept-left (suc zero) settings (a ∷ []) dscp two short = refl
kept-left (suc zero) settings (a ∷ b ∷ []) dscp two short = refl
kept-left (suc zero) settings (a ∷ b ∷ c ∷ rest) dscp two short = absurd (omega arith)
kept-left (suc (suc zero)) settings [] dscp two short = refl
kept-left (suc (suc zero)) settings (a ∷ []) dscp two short = refl
kept-left (suc (suc zero)) settings (a ∷ b ∷ []) dscp two short = refl
kept-left (suc (suc zero)) settings (a ∷ b ∷ c ∷ rest) dscp two short = absurd (omega arith)
kept-left (suc (suc (suc r))) settings tags dscp two short = absurd (omega arith)

only-fits : (b c : Bool) → (addition_fits (only_if b copy_of_outer) ≡ true) × (addition_fits (only_if c copy_of_inner) ≡ true)
only-fits true true = (refl, refl)
only-fits true false = (refl, refl)
only-fits false true = (refl, refl)
only-fits false false = (refl, refl)

-- ---- ranges

outer-range : (tags : List TagFields) → All IsInRange tags → IsInRange (outer_of tags)
outer-range [] h = record { tpid = omega arith; pcp = omega arith; vid = omega arith }
outer-range (tag ∷ rest) h = h 0 tag (omega arith)

inner-range : (tags : List TagFields) → All IsInRange tags → IsInRange (inner_of tags)
inner-range [] h = record { tpid = omega arith; pcp = omega arith; vid = omega arith }
inner-range (tag ∷ []) h = h 0 tag (omega arith)
inner-range (tag ∷ next ∷ rest) h = inner-range (next ∷ rest) (λ i x lt. h (suc i) x (omega arith))

dscp-range : (map : List ℕ) (dscp : Option ℕ) → dscp_priority map dscp < 2 ^ 3
unfolding group_of
dscp-range map None = omega arith
dscp-range map (Some dscp) = mod_below _ 8 (omega arith)

-- ---- a whole treatment

pub compiled-treats : (retag : Retag) (settings : TableSettings) (received : ℕ) (compiled : Compiled) → treatment_fits (treatment.Retag retag) ≡ true → received ≤ 2
    → used compiled ≡ map (mix_of settings) (outgoing retag received) → Treats (treatment.Retag retag) settings received (Some compiled)
unfolding outgoing treated_by
compiled-treats retag settings received compiled fits two mixes tags dscp same range =
    let parts = and_parts (nat_le retag.remove 2) (addition_fits retag.outer && addition_fits retag.inner) fits in
    let adds = and_parts (addition_fits retag.outer) (addition_fits retag.inner) parts.1 in
    let keeps = only-fits (retag.remove == 0 && nat_lt 0 (length tags)) (nat_lt retag.remove 2 && length tags == 2) in
    let all = options-make retag.outer retag.inner (first_kept retag.remove (length tags)) (second_kept retag.remove (length tags)) settings tags dscp
    adds.0 adds.1 keeps.0 keeps.1 (outer-range tags range) (inner-range tags range) (dscp-range settings.dscp_map.0 dscp) in
    let short : length tags ≤ 2 = rw same two in
    let left = kept-left retag.remove settings tags dscp (leb-true _ _ parts.0) short in
    rw (mixes, ← same) (ap (λ (ts : List TagFields). Some ts) (all ∙ ap (λ (ts : List TagFields). additions_from retag settings tags dscp ++ ts) left))

-- ---- the DSCP

abbrev takes : Mix → Bool
takes mix = nat_lt 0 mix.dscp

option-asks : (o : Option AddedTag) (settings : TableSettings) → list_any takes (map (mix_of settings) (of_option o)) ≡ adds_dscp o
unfolding mix_of
option-asks None settings = refl
option-asks (Some added) settings = one added.priority
  where
    one : (s : PrioritySource) → (nat_lt 0 (word_of (record { tpid = 0; pcp = dscp_priority_mask s; dei = false; vid = 0 })) || false) ≡ is_from_dscp s
    one (from_priority.Fixed priority) = refl
    one from_priority.Inner = refl
    one from_priority.Outer = refl
    one from_priority.Dscp = refl

kept-ask : (b c : Bool) → (adds_dscp (only_if b copy_of_outer) ≡ false) × (adds_dscp (only_if c copy_of_inner) ≡ false)
kept-ask true true = (refl, refl)
kept-ask true false = (refl, refl)
kept-ask false true = (refl, refl)
kept-ask false false = (refl, refl)

or-false : (b : Bool) → (b || false) ≡ b
or-false true = refl
or-false false = refl

-- a compiled treatment asks for the DSCP exactly where a tag that is added takes its priority
pub compiled-asks : (retag : Retag) (settings : TableSettings) (received : ℕ) (compiled : Compiled)
    → used compiled ≡ map (mix_of settings) (outgoing retag received) → asks_dscp compiled ≡ takes_dscp (treatment.Retag retag)
unfolding outgoing
compiled-asks retag settings received compiled mixes =
    let keeps = kept-ask (retag.remove == 0 && nat_lt 0 received) (nat_lt retag.remove 2 && received == 2) in
    rw mixes
    (simp (map-append, list_any-append, option-asks, keeps.0, keeps.1, or-false) refl)
