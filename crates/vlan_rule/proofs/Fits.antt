-- What an entry that isn't refused adds can stand in a tag.
use Rattle.std.proofs.Common.{◌≡◌, ℕ, ◌+◌, ◌-◌, ◌^◌, ◌<◌, ◌≤◌, List, [], ◌∷◌, ◌++◌, Bool, true, false, Some, None, Option, if◌then◌else◌, refl, sym, ◌∙◌, arith, nat_eq}
use Rattle.std.specs.List.{list_any}
use Rattle.std.specs.Option.{option_or}
use Rattle.std.proofs.lemmas.Nat.{mod_below, pow_pos}
use Rattle.std.proofs.lemmas.Bool.{and_from, eqb-false, le-leb, or_parts}
use Rattle.std.proofs.lemmas.List.Folds.{list_any-append}
use Rattle.std.proofs.lemmas.Bool.Decides.{nat_tests}
use Rattle.vlan_rule.specs.declared.fault.RuleFault.TheVariants.{TreatPriority, TreatVid, TreatTpid}
use Rattle.vlan_rule.specs.declared.layout.Field.{Field}
use Rattle.vlan_rule.specs.declared.layout.TagCodes.{TagCodes}
use Rattle.vlan_rule.specs.declared.treatment.Treatment.TheVariants as treatment
use Rattle.vlan_rule.specs.Entry.{added, adds_bad_priority, adds_bad_tpid, adds_bad_vid, codes_of, discards, refusal_of, tags_to_remove, treatment_inner, treatment_outer, treatment_refusal, value_of}
use Rattle.vlan_rule.specs.Meaning.{addition, addition_fits, eligible_source, tpid_source, priority_fits, priority_source, treatment_fits, treatment_of, vid_fits, vid_source}

-- a priority of four bits that is added
priority-fits : (p : ℕ) → p < 16 → nat_eq p 15 ≡ false → adds_bad_priority (record { priority = p; vid = 0; tpid = 0 }) ≡ false → priority_fits (priority_source p) ≡ true
priority-fits p below adds good = grind (arith, nat_tests)

vid-fits : (v : ℕ) → adds_bad_vid (record { priority = 0; vid = v; tpid = 0 }) ≡ false → vid_fits (vid_source v) ≡ true
vid-fits v good = grind (arith, nat_tests)

-- nothing is refused of the priorities and the VIDs
none_refused : (additions : List TagCodes) → treatment_refusal additions ≡ None → (list_any adds_bad_priority additions ≡ false) × (list_any adds_bad_vid additions ≡ false)
none_refused additions = by_case (list_any adds_bad_priority additions) (list_any adds_bad_vid additions) (list_any adds_bad_tpid additions)
  where
    by_case : (priority vid tpid : Bool) → (if priority then Some TreatPriority else (if vid then Some TreatVid else (if tpid then Some TreatTpid else None))) ≡ None → (priority ≡ false) × (vid ≡ false)
    by_case true vid tpid h = cc
    by_case false true tpid h = cc
    by_case false false tpid h = (refl, refl)

-- a tag whose codes aren't refused
addition-fits : (c : TagCodes) → c.priority < 16 → list_any adds_bad_priority (added c) ≡ false → list_any adds_bad_vid (added c) ≡ false → addition_fits (addition c) ≡ true
addition-fits c below priorities vids = by_case (nat_eq c.priority 15) refl priorities vids
  where
    by_case : (none : Bool) → nat_eq c.priority 15 ≡ none
        → list_any adds_bad_priority (if none then [] else c ∷ []) ≡ false
        → list_any adds_bad_vid (if none then [] else c ∷ []) ≡ false
        → addition_fits (if none then None else Some (record { priority = priority_source c.priority; vid = vid_source c.vid; tpid = tpid_source c.tpid; eligible = eligible_source c.tpid })) ≡ true
    by_case true is p v = refl
    by_case false is p v =
        and_from _ _ (priority-fits c.priority below is (or_parts _ _ p).0) (vid-fits c.vid (or_parts _ _ v).0)

-- what is added to a frame that isn't dropped, where nothing is refused
retag-fits : (remove : ℕ) (outer inner : TagCodes) → remove ≤ 2 → outer.priority < 16 → inner.priority < 16
    → treatment_refusal (added outer ++ added inner) ≡ None
    → treatment_fits (treatment.Retag (record { remove = remove; outer = addition outer; inner = addition inner })) ≡ true
retag-fits remove outer inner two below_outer below_inner none =
    let good = none_refused (added outer ++ added inner) none in
    let priorities = or_parts _ _ (sym (list_any-append adds_bad_priority (added outer) (added inner)) ∙ good.0) in
    let vids = or_parts _ _ (sym (list_any-append adds_bad_vid (added outer) (added inner)) ∙ good.1) in
    and_from _ _ (le-leb remove 2 two)
    (and_from _ _ (addition-fits outer below_outer priorities.0 vids.0) (addition-fits inner below_inner priorities.1 vids.1))

-- where the second of two isn't there, and the first neither
option_or-none : {A : Type 0} (a b : Option A) → option_or a b ≡ None → b ≡ None
option_or-none None b h = h
option_or-none (Some x) b h = cc

-- a field is below the power of two of its width
value-below : (at : Field) (entry : List ℕ) → value_of at entry < 2 ^ (at.high + 1 - at.low)
unfolding value_of
value-below at entry = mod_below _ _ (pow_pos (at.high + 1 - at.low))

-- the treatment of an entry that isn't refused
pub treatment-fits : (entry : List ℕ) → refusal_of entry ≡ None → treatment_fits (treatment_of entry) ≡ true
unfolding refusal_of treatment_of
treatment-fits entry accepted = by_case (discards entry) refl (option_or-none _ _ accepted)
  where
    by_case : (dropped : Bool) → nat_eq (value_of tags_to_remove entry) 3 ≡ dropped
        → treatment_refusal (if dropped then [] else added (codes_of treatment_outer entry) ++ added (codes_of treatment_inner entry)) ≡ None
        → treatment_fits (if dropped then treatment.Discard else treatment.Retag (record { remove = value_of tags_to_remove entry; outer = addition (codes_of treatment_outer entry); inner = addition (codes_of treatment_inner entry) })) ≡ true
    by_case true is none = refl
    by_case false is none =
        let bits = value-below tags_to_remove entry in
        let other = eqb-false _ _ is in
        retag-fits _ _ _ (omega arith) (value-below treatment_outer.priority entry) (value-below treatment_inner.priority entry) none
