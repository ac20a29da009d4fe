-- What an entry means can be spelled as an entry.
use Rattle.std.proofs.Common.{◌≡◌, ℕ, zero, suc, ◌+◌, ◌-◌, ◌/◌, ◌%◌, ◌^◌, ◌<◌, ◌≤◌, List, [], ◌∷◌, ◌++◌, Bool, true, false, ◌&&◌, ◌||◌, Some, None, Option, if◌then◌else◌, refl, sym, ap, ◌∙◌, arith, nat_eq, nat_lt, nat_le, slice_index}
use Rattle.std.specs.Int.{is_in_range}
use Rattle.std.specs.List.{list_any, EachIndex}
use Rattle.std.specs.Option.{option_or}
use Rattle.std.proofs.lemmas.Bool.{and_from, and_parts, eqb-false, eqb-true, le-leb, or_parts}
use Rattle.std.proofs.lemmas.Bool.Decides.{nat_tests}
use Rattle.std.proofs.lemmas.List.Folds.{list_any-append}
use Rattle.std.proofs.lemmas.Nat.{mod_below, pow_pos}
use Rattle.vlan_rule.specs.declared.fault.RuleFault.TheVariants.{Priority, Mixed, Vid, Tpid, Ethertype, TreatPriority, TreatVid, TreatTpid}
use Rattle.vlan_rule.specs.declared.filter.EthertypeFilter.{EthertypeFilter}
use Rattle.vlan_rule.specs.declared.filter.Filter.{Filter}
use Rattle.vlan_rule.specs.declared.filter.Filter.TheVariants as filter
use Rattle.vlan_rule.specs.declared.kind.Kind.{Kind}
use Rattle.vlan_rule.specs.declared.kind.Kind.TheVariants.{NoTag, OneTagDefault, OneTag, TwoTagDefault, TwoTag}
use Rattle.vlan_rule.specs.declared.layout.Field.{Field}
use Rattle.vlan_rule.specs.declared.layout.TagCodes.{TagCodes}
use Rattle.vlan_rule.specs.declared.rank.Rank.{Rank}
use Rattle.vlan_rule.specs.declared.treatment.AddedTag.{AddedTag}
use Rattle.vlan_rule.specs.declared.treatment.PrioritySource.{PrioritySource}
use Rattle.vlan_rule.specs.declared.treatment.PrioritySource.TheVariants as from_priority
use Rattle.vlan_rule.specs.declared.treatment.VidSource.{VidSource}
use Rattle.vlan_rule.specs.declared.treatment.VidSource.TheVariants as from_vid
use Rattle.vlan_rule.specs.declared.treatment.Treatment.{Treatment}
use Rattle.vlan_rule.specs.declared.treatment.Treatment.TheVariants as treatment
use Rattle.vlan_rule.specs.Entry.{added, adds_bad_priority, adds_bad_tpid, adds_bad_vid, bad_priorities, codes_of, discards, filter_ethertype, filter_inner, filter_outer, filter_refusal, has_bad_tpid, has_bad_vid, key_of, kind_by, kind_of, mixed_priorities, refusal_of, tags_to_remove, treatment_inner, treatment_outer, treatment_refusal, value_of}
use Rattle.vlan_rule.specs.Meaning.{addition, addition_fits, eligible_source, ethertype_filter, ethertype_of, filter_by, filter_of, priority_filter, priority_fits, priority_source, rank_by, rank_of, tag_filter, tpid_source, treatment_fits, treatment_of, vid_filter, vid_fits, vid_source, Means}
use Rattle.vlan_rule.specs.Spelling.{addition_is_codable, are_codable, filter_is_codable, filter_rank, is_spellable, priority_filter_is_codable, priority_source_is_codable, rank_is_codable, tag_filter_is_codable, tpid_source_is_codable, treatment_is_codable, vid_filter_is_codable, vid_source_is_codable}
use Rattle.vlan_rule.proofs.Fields.{field-of_key}
use Rattle.vlan_rule.proofs.ReadBack.{counted_codes}

-- ---- filters

priority-under : (p : ℕ) → p < 16 → is_in_range 9 13 p ≡ false → nat_eq p 14 ≡ false → nat_eq p 15 ≡ false → nat_eq p 8 ≡ false → nat_lt p 8 ≡ true
priority-under p below range a b c = grind (arith, nat_tests)

priority-codable : (p : ℕ) → p < 16 → is_in_range 9 13 p ≡ false → nat_eq p 14 ≡ false → nat_eq p 15 ≡ false → priority_filter_is_codable (priority_filter p) ≡ true
priority-codable p below range a b = by_case (nat_eq p 8) refl
  where
    by_case : (any : Bool) → nat_eq p 8 ≡ any → priority_filter_is_codable (priority_filter p) ≡ true
    by_case true is = rw is refl
    by_case false is = rw is (priority-under p below range a b is)

vid-under : (v : ℕ) → nat_lt 4096 v ≡ false → nat_eq v 4096 ≡ false → nat_lt v 4096 ≡ true
vid-under v h n = grind (arith, nat_tests)

vid-codable : (v : ℕ) → nat_lt 4096 v ≡ false → vid_filter_is_codable (vid_filter v) ≡ true
vid-codable v h = by_case (nat_eq v 4096) refl
  where
    by_case : (any : Bool) → nat_eq v 4096 ≡ any → vid_filter_is_codable (vid_filter v) ≡ true
    by_case true is = rw is refl
    by_case false is = rw is (vid-under v h is)

tag-codable : (c : TagCodes) → c.priority < 16 → is_in_range 9 13 c.priority ≡ false → nat_eq c.priority 14 ≡ false → nat_eq c.priority 15 ≡ false → has_bad_vid c ≡ false → tag_filter_is_codable (tag_filter c) ≡ true
tag-codable c below range a b v = and_from _ _ (priority-codable c.priority below range a b) (vid-codable c.vid v)

-- what isn't refused of the filters
record IsAcceptedFilter (outer inner : ℕ) (filters : List TagCodes) : Type 0 where
  priorities : bad_priorities outer inner ≡ false
  mixed : mixed_priorities outer inner ≡ false
  vids : list_any has_bad_vid filters ≡ false

accepted-filter : (outer inner : ℕ) (filters : List TagCodes) (e : ℕ) → filter_refusal outer inner filters e ≡ None → IsAcceptedFilter outer inner filters
accepted-filter outer inner filters e h =
    let all = by_case (bad_priorities outer inner) (mixed_priorities outer inner) (list_any has_bad_vid filters) (list_any has_bad_tpid filters) (nat_lt 5 e) h in
    record { priorities = all.0; mixed = all.1; vids = all.2 }
  where
    by_case : (p m v t y : Bool) → (if p then Some Priority else (if m then Some Mixed else (if v then Some Vid else (if t then Some Tpid else (if y then Some Ethertype else None))))) ≡ None
        → (p ≡ false) × (m ≡ false) × (v ≡ false)
    by_case true m v t y h = cc
    by_case false true v t y h = cc
    by_case false false true t y h = cc
    by_case false false false t y h = (refl, refl, refl)

-- an outer priority of a two-tag entry, and then its inner one
outer-in_range : (o i : ℕ) → bad_priorities o i ≡ false → nat_eq i 15 ≡ false → is_in_range 9 13 o ≡ false
outer-in_range o i h n = grind (arith, nat_tests)

inner-not_default : (o i : ℕ) → o < 16 → is_in_range 9 13 o ≡ false → nat_eq o 14 ≡ false → nat_eq o 15 ≡ false → mixed_priorities o i ≡ false → nat_eq i 14 ≡ false
inner-not_default o i below range a b mixed = grind (arith, nat_tests)

filter-codable : (o i : TagCodes) → o.priority < 16 → i.priority < 16
    → IsAcceptedFilter o.priority i.priority (counted_codes (kind_by o.priority i.priority) o i)
    → filter_is_codable (filter_by (kind_by o.priority i.priority) o i) ≡ true
filter-codable o i ob ib accepted =
    by_case (nat_eq i.priority 15) (nat_eq o.priority 15) (nat_eq i.priority 14) (nat_eq o.priority 14) refl refl refl refl accepted.vids
  where
    by_case : (none one default two : Bool) → nat_eq i.priority 15 ≡ none → nat_eq o.priority 15 ≡ one → nat_eq i.priority 14 ≡ default → nat_eq o.priority 14 ≡ two
        → list_any has_bad_vid (counted_codes (if none then NoTag else (if one && default then OneTagDefault else (if one then OneTag else (if two then TwoTagDefault else TwoTag)))) o i) ≡ false
        → filter_is_codable (filter_by (if none then NoTag else (if one && default then OneTagDefault else (if one then OneTag else (if two then TwoTagDefault else TwoTag)))) o i) ≡ true
    by_case true one default two a b c d v = refl
    by_case false true true two a b c d v = refl
    by_case false true false two a b c d v =
        tag-codable i ib (or_parts _ _ accepted.priorities).0 c a (or_parts _ _ v).0
    by_case false false default true a b c d v = refl
    by_case false false default false a b c d v =
        let range = outer-in_range o.priority i.priority accepted.priorities a in
        let ordinary = inner-not_default o.priority i.priority ob range d b accepted.mixed in
        let vids = or_parts _ _ v in
        and_from _ _ (tag-codable o ob range d b vids.0)
        (tag-codable i ib (or_parts _ _ accepted.priorities).0 ordinary a (or_parts _ _ vids.1).0)

-- ---- treatments

source-under : (p : ℕ) → p < 16 → is_in_range 11 14 p ≡ false → nat_eq p 15 ≡ false → nat_eq p 8 ≡ false → nat_eq p 9 ≡ false → nat_eq p 10 ≡ false → nat_lt p 8 ≡ true
source-under p below range n a b c = grind (arith, nat_tests)

source-codable : (p : ℕ) → p < 16 → is_in_range 11 14 p ≡ false → nat_eq p 15 ≡ false → priority_source_is_codable (priority_source p) ≡ true
source-codable p below range n = by_case (nat_eq p 8) (nat_eq p 9) (nat_eq p 10) refl refl refl
  where
    by_case : (inner outer dscp : Bool) → nat_eq p 8 ≡ inner → nat_eq p 9 ≡ outer → nat_eq p 10 ≡ dscp → priority_source_is_codable (priority_source p) ≡ true
    by_case true outer dscp a b c = rw a refl
    by_case false true dscp a b c = rw (a, b) refl
    by_case false false true a b c = rw (a, b, c) refl
    by_case false false false a b c = rw (a, b, c) (source-under p below range n a b c)

vid-source-under : (v : ℕ) → (nat_eq v 4095 || nat_lt 4097 v) ≡ false → nat_eq v 4096 ≡ false → nat_eq v 4097 ≡ false → nat_lt v 4095 ≡ true
vid-source-under v h a b = grind (arith, nat_tests)

vid-source-codable : (v : ℕ) → (nat_eq v 4095 || nat_lt 4097 v) ≡ false → vid_source_is_codable (vid_source v) ≡ true
vid-source-codable v h = by_case (nat_eq v 4096) (nat_eq v 4097) refl refl
  where
    by_case : (inner outer : Bool) → nat_eq v 4096 ≡ inner → nat_eq v 4097 ≡ outer → vid_source_is_codable (vid_source v) ≡ true
    by_case true outer a b = rw a refl
    by_case false true a b = rw (a, b) refl
    by_case false false a b = rw (a, b) (vid-source-under v h a b)

tpid-source-codable : (t : ℕ) → tpid_source_is_codable (tpid_source t) (eligible_source t) ≡ true
tpid-source-codable t = by_case (nat_eq t 0) (nat_eq t 1) (nat_eq t 4) refl refl refl
  where
    by_case : (inner outer standard : Bool) → nat_eq t 0 ≡ inner → nat_eq t 1 ≡ outer → nat_eq t 4 ≡ standard → tpid_source_is_codable (tpid_source t) (eligible_source t) ≡ true
    by_case true outer standard a b c = rw (eqb-true t 0 a) refl
    by_case false true standard a b c = rw (eqb-true t 1 b) refl
    by_case false false true a b c = rw (eqb-true t 4 c) refl
    by_case false false false a b c = rw (a, b, c) refl

-- what isn't refused of the tags that are added
accepted-treatment : (additions : List TagCodes) → treatment_refusal additions ≡ None → (list_any adds_bad_priority additions ≡ false) × (list_any adds_bad_vid additions ≡ false)
accepted-treatment additions = by_case (list_any adds_bad_priority additions) (list_any adds_bad_vid additions) (list_any adds_bad_tpid additions)
  where
    by_case : (priority vid tpid : Bool) → (if priority then Some TreatPriority else (if vid then Some TreatVid else (if tpid then Some TreatTpid else None))) ≡ None → (priority ≡ false) × (vid ≡ false)
    by_case true vid tpid h = cc
    by_case false true tpid h = cc
    by_case false false tpid h = (refl, refl)

addition-codable : (c : TagCodes) → c.priority < 16 → list_any adds_bad_priority (added c) ≡ false → list_any adds_bad_vid (added c) ≡ false → addition_is_codable (addition c) ≡ true
addition-codable c below priorities vids = by_case (nat_eq c.priority 15) refl priorities vids
  where
    by_case : (none : Bool) → nat_eq c.priority 15 ≡ none
        → list_any adds_bad_priority (if none then [] else c ∷ []) ≡ false
        → list_any adds_bad_vid (if none then [] else c ∷ []) ≡ false
        → addition_is_codable (if none then None else Some (record { priority = priority_source c.priority; vid = vid_source c.vid; tpid = tpid_source c.tpid; eligible = eligible_source c.tpid })) ≡ true
    by_case true is p v = refl
    by_case false is p v =
        and_from _ _ (source-codable c.priority below (or_parts _ _ p).0 is)
        (and_from _ _ (vid-source-codable c.vid (or_parts _ _ v).0) (tpid-source-codable c.tpid))

retag-codable : (remove : ℕ) (outer inner : TagCodes) → remove ≤ 2 → outer.priority < 16 → inner.priority < 16
    → treatment_refusal (added outer ++ added inner) ≡ None
    → treatment_is_codable (treatment.Retag (record { remove = remove; outer = addition outer; inner = addition inner })) ≡ true
retag-codable remove outer inner two below_outer below_inner none =
    let good = accepted-treatment (added outer ++ added inner) none in
    let priorities = or_parts _ _ (sym (list_any-append adds_bad_priority (added outer) (added inner)) ∙ good.0) in
    let vids = or_parts _ _ (sym (list_any-append adds_bad_vid (added outer) (added inner)) ∙ good.1) in
    and_from _ _ (le-leb remove 2 two)
    (and_from _ _ (addition-codable outer below_outer priorities.0 vids.0) (addition-codable inner below_inner priorities.1 vids.1))

-- ---- entries

-- where the first of two isn't there, and the second neither
option_or-nones : {A : Type 0} (a b : Option A) → option_or a b ≡ None → (a ≡ None) × (b ≡ None)
option_or-nones None b h = (refl, h)
option_or-nones (Some x) b h = cc

-- a field is below the power of two of its width
value-below : (at : Field) (entry : List ℕ) → value_of at entry < 2 ^ (at.high + 1 - at.low)
unfolding value_of
value-below at entry = mod_below _ _ (pow_pos (at.high + 1 - at.low))

filter-of-codable : (entry : List ℕ) → refusal_of entry ≡ None → filter_is_codable (filter_of entry) ≡ true
unfolding refusal_of kind_of filter_of
filter-of-codable entry accepted =
    filter-codable (codes_of filter_outer entry) (codes_of filter_inner entry) (value-below filter_outer.priority entry) (value-below filter_inner.priority entry)
    (accepted-filter _ _ _ _ (option_or-nones _ _ accepted).0)

treatment-of-codable : (entry : List ℕ) → refusal_of entry ≡ None → treatment_is_codable (treatment_of entry) ≡ true
unfolding refusal_of treatment_of
treatment-of-codable entry accepted = by_case (discards entry) refl (option_or-nones _ _ accepted).1
  where
    by_case : (dropped : Bool) → nat_eq (value_of tags_to_remove entry) 3 ≡ dropped
        → treatment_refusal (if dropped then [] else added (codes_of treatment_outer entry) ++ added (codes_of treatment_inner entry)) ≡ None
        → treatment_is_codable (if dropped then treatment.Discard else treatment.Retag (record { remove = value_of tags_to_remove entry; outer = addition (codes_of treatment_outer entry); inner = addition (codes_of treatment_inner entry) })) ≡ true
    by_case true is none = refl
    by_case false is none =
        let bits = value-below tags_to_remove entry in
        let other = eqb-false _ _ is in
        retag-codable _ _ _ (omega arith) (value-below treatment_outer.priority entry) (value-below treatment_inner.priority entry) none

-- what an entry that isn't refused means, has codes
pub parts-codable : (entry : List ℕ) → refusal_of entry ≡ None → are_codable (filter_of entry) (treatment_of entry) ≡ true
parts-codable entry accepted = and_from _ _ (filter-of-codable entry accepted) (treatment-of-codable entry accepted)

-- ---- ranks

ordinary-codable : (kind : Kind) (o i : TagCodes) (e : ℕ) → rank_is_codable (filter_by kind o i) (ethertype_filter e) (rank_by false kind) ≡ true
ordinary-codable NoTag o i e = refl
ordinary-codable OneTagDefault o i e = refl
ordinary-codable OneTag o i e = refl
ordinary-codable TwoTagDefault o i e = refl
ordinary-codable TwoTag o i e = refl

ordinary-of-codable : (entry : List ℕ) → rank_is_codable (filter_of entry) (ethertype_of entry) (rank_by false (kind_of entry)) ≡ true
unfolding filter_of ethertype_of
ordinary-of-codable entry = ordinary-codable (kind_of entry) (codes_of filter_outer entry) (codes_of filter_inner entry) (value_of filter_ethertype entry)

-- the fields of an entry by its key
record HasKey (entry : List ℕ) (key : ℕ) : Type 0 where
  outer : value_of filter_outer.priority entry ≡ key / 2 ^ 60 % 2 ^ 4
  inner : value_of filter_inner.priority entry ≡ key / 2 ^ 28 % 2 ^ 4
  ethertype : value_of filter_ethertype entry ≡ key / 2 ^ 0 % 2 ^ 4

has-key : (entry : List ℕ) (key : ℕ) → ((i : ℕ) → slice_index entry i < 256) → key ≡ key_of entry → HasKey entry key
unfolding value_of
has-key entry key bytes is = record {
  outer = field-of_key entry 0 4 60 bytes refl ∙ ap (λ (k : ℕ). k / 2 ^ 60 % 2 ^ 4) (sym is);
  inner = field-of_key entry 32 4 28 bytes refl ∙ ap (λ (k : ℕ). k / 2 ^ 28 % 2 ^ 4) (sym is);
  ethertype = field-of_key entry 60 4 0 bytes refl ∙ ap (λ (k : ℕ). k / 2 ^ 0 % 2 ^ 4) (sym is);
}

predefined-codable : (entry : List ℕ) (key : ℕ) → ((i : ℕ) → slice_index entry i < 256) → key ≡ key_of entry
    → rank_is_codable (filter_by (kind_by (key / 2 ^ 60 % 2 ^ 4) (key / 2 ^ 28 % 2 ^ 4)) (codes_of filter_outer entry) (codes_of filter_inner entry)) (ethertype_filter (key / 2 ^ 0 % 2 ^ 4)) (rank_by true (kind_by (key / 2 ^ 60 % 2 ^ 4) (key / 2 ^ 28 % 2 ^ 4))) ≡ true
    → rank_is_codable (filter_of entry) (ethertype_of entry) (rank_by true (kind_of entry)) ≡ true
unfolding filter_of ethertype_of kind_of
predefined-codable entry key bytes is h =
    let has = has-key entry key bytes is in
    let P : ℕ → ℕ → ℕ → Bool = λ a b e. rank_is_codable (filter_by (kind_by a b) (codes_of filter_outer entry) (codes_of filter_inner entry)) (ethertype_filter e) (rank_by true (kind_by a b)) in
    ap (λ (a : ℕ). P a (value_of filter_inner.priority entry) (value_of filter_ethertype entry)) has.outer
    ∙ ap (λ (b : ℕ). P (key / 2 ^ 60 % 2 ^ 4) b (value_of filter_ethertype entry)) has.inner
    ∙ ap (P (key / 2 ^ 60 % 2 ^ 4) (key / 2 ^ 28 % 2 ^ 4)) has.ethertype
    ∙ h

pub rank-codable : (entry : List ℕ) → ((i : ℕ) → slice_index entry i < 256) → rank_is_codable (filter_of entry) (ethertype_of entry) (rank_of entry) ≡ true
unfolding rank_of
rank-codable entry bytes =
    by_case (nat_eq 0xF0000000F0000000 (key_of entry)) (nat_eq 0xF0000000E0000000 (key_of entry)) (nat_eq 0xE0000000E0000000 (key_of entry)) refl refl refl
  where
    by_case : (none one two : Bool) → nat_eq 0xF0000000F0000000 (key_of entry) ≡ none → nat_eq 0xF0000000E0000000 (key_of entry) ≡ one → nat_eq 0xE0000000E0000000 (key_of entry) ≡ two
        → rank_is_codable (filter_of entry) (ethertype_of entry) (rank_by (none || (one || (two || false))) (kind_of entry)) ≡ true
    by_case true one two a b c = predefined-codable entry 0xF0000000F0000000 bytes (eqb-true _ _ a) refl
    by_case false true two a b c = predefined-codable entry 0xF0000000E0000000 bytes (eqb-true _ _ b) refl
    by_case false false true a b c = predefined-codable entry 0xE0000000E0000000 bytes (eqb-true _ _ c) refl
    by_case false false false a b c = ordinary-of-codable entry

-- a rule that an entry means can be spelled
pub means-spellable : (entry : List ℕ) → refusal_of entry ≡ None → ((i : ℕ) → slice_index entry i < 256)
    → is_spellable (filter_of entry) (ethertype_of entry) (treatment_of entry) (rank_of entry) ≡ true
means-spellable entry accepted bytes = and_from _ _ (parts-codable entry accepted) (rank-codable entry bytes)

-- each byte of a list, its end passed too
all-bytes : (xs : List ℕ) → EachIndex xs (λ k. slice_index xs k < 256) → (i : ℕ) → slice_index xs i < 256
all-bytes [] h i = omega arith
all-bytes (x ∷ xs) h zero = h 0 (omega arith)
all-bytes (x ∷ xs) h (suc i) = all-bytes xs (λ k lt. h (suc k) (omega arith)) i

pub rule-spellable : (entry : List ℕ) (f : Filter) (type : EthertypeFilter) (t : Treatment) (rank : Rank) → Means entry f type t rank
    → EachIndex entry (λ k. slice_index entry k < 256) → is_spellable f type t rank ≡ true
rule-spellable entry f type t rank means bytes =
    ap (λ (x : Filter). is_spellable x type t rank) means.filter
    ∙ ap (λ (x : EthertypeFilter). is_spellable (filter_of entry) x t rank) means.ethertype
    ∙ ap (λ (x : Treatment). is_spellable (filter_of entry) (ethertype_of entry) x rank) means.treatment
    ∙ ap (is_spellable (filter_of entry) (ethertype_of entry) (treatment_of entry)) means.rank
    ∙ means-spellable entry means.accepted (all-bytes entry bytes)

-- parts without codes are those of no entry
pub none-means : (entry : List ℕ) (f : Filter) (type : EthertypeFilter) (t : Treatment) (rank : Rank) → are_codable f t ≡ false → ¬ Means entry f type t rank
none-means entry f type t rank none means =
    let codable : are_codable f t ≡ true =
    ap (λ (x : Filter). are_codable x t) means.filter
    ∙ ap (are_codable (filter_of entry)) means.treatment
    ∙ parts-codable entry means.accepted in
    cc

-- ---- parts

priority-codable-fits : (s : PrioritySource) → priority_source_is_codable s ≡ true → priority_fits s ≡ true
priority-codable-fits (from_priority.Fixed p) h = h
priority-codable-fits from_priority.Inner h = refl
priority-codable-fits from_priority.Outer h = refl
priority-codable-fits from_priority.Dscp h = refl

vid-codable-fits : (s : VidSource) → vid_source_is_codable s ≡ true → vid_fits s ≡ true
vid-codable-fits (from_vid.Fixed v) h = h
vid-codable-fits from_vid.Inner h = refl
vid-codable-fits from_vid.Outer h = refl

addition-codable-fits : (a : Option AddedTag) → addition_is_codable a ≡ true → addition_fits a ≡ true
addition-codable-fits None h = refl
addition-codable-fits (Some tag) h =
    let parts = and_parts (priority_source_is_codable tag.priority) (vid_source_is_codable tag.vid && tpid_source_is_codable tag.tpid tag.eligible) h in
    and_from _ _ (priority-codable-fits tag.priority parts.0) (vid-codable-fits tag.vid (and_parts _ _ parts.1).0)

treatment-codable-fits : (t : Treatment) → treatment_is_codable t ≡ true → treatment_fits t ≡ true
treatment-codable-fits treatment.Discard h = refl
treatment-codable-fits (treatment.Retag retag) h =
    let parts = and_parts (nat_le retag.remove 2) (addition_is_codable retag.outer && addition_is_codable retag.inner) h in
    let both = and_parts (addition_is_codable retag.outer) (addition_is_codable retag.inner) parts.1 in
    and_from _ _ parts.0 (and_from _ _ (addition-codable-fits retag.outer both.0) (addition-codable-fits retag.inner both.1))

filter-rank-codable : (f : Filter) (type : EthertypeFilter) → rank_is_codable f type (filter_rank f) ≡ true
filter-rank-codable filter.NoTag type = refl
filter-rank-codable filter.OneTagDefault type = refl
filter-rank-codable (filter.OneTag inner) type = refl
filter-rank-codable filter.TwoTagDefault type = refl
filter-rank-codable (filter.TwoTag outer inner) type = refl

-- parts that have codes, with the rank of their filter
pub made-spellable : (f : Filter) (type : EthertypeFilter) (t : Treatment) (rank : Rank) → filter_is_codable f ≡ true → treatment_is_codable t ≡ true → rank ≡ filter_rank f
    → (is_spellable f type t rank ≡ true) × (treatment_fits t ≡ true)
made-spellable f type t rank filters treats is =
    (and_from _ _ (and_from _ _ filters treats) (ap (rank_is_codable f type) is ∙ filter-rank-codable f type), treatment-codable-fits t treats)

-- one of two tests that fails
pub first-false : (a b : Bool) → a ≡ false → (a && b) ≡ false
first-false true b h = cc
first-false false b h = refl

pub second-false : (a b : Bool) → b ≡ false → (a && b) ≡ false
second-false true b h = h
second-false false b h = refl
