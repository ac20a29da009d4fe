-- What the codes of a rule's parts mean: these parts, and nothing of them is refused.
use Rattle.std.proofs.Common.{◌≡◌, ℕ, ◌<◌, ◌≤◌, List, [], ◌∷◌, ◌++◌, true, false, ◌&&◌, ◌||◌, Some, None, Option, if◌then◌else◌, refl, ap, ◌∙◌, arith, nat_eq, nat_lt, nat_le}
use Rattle.std.specs.Int.{is_in_range}
use Rattle.std.specs.List.{list_any}
use Rattle.std.proofs.lemmas.Bool.{and_parts}
use Rattle.std.proofs.Math.Bool.{and-false}
use Rattle.std.proofs.lemmas.Bool.Decides.{nat_tests}
use Rattle.std.proofs.lemmas.List.Folds.{list_any-append}
use Rattle.vlan_rule.specs.declared.filter.PriorityFilter.{PriorityFilter}
use Rattle.vlan_rule.specs.declared.filter.PriorityFilter.TheVariants as priority
use Rattle.vlan_rule.specs.declared.filter.VidFilter.{VidFilter}
use Rattle.vlan_rule.specs.declared.filter.VidFilter.TheVariants as vid
use Rattle.vlan_rule.specs.declared.filter.TpidFilter.{TpidFilter}
use Rattle.vlan_rule.specs.declared.filter.TpidFilter.TheVariants as tpid
use Rattle.vlan_rule.specs.declared.filter.EthertypeFilter.{EthertypeFilter}
use Rattle.vlan_rule.specs.declared.filter.EthertypeFilter.TheVariants as ethertype
use Rattle.vlan_rule.specs.declared.filter.TagFilter.{TagFilter}
use Rattle.vlan_rule.specs.declared.filter.Filter.{Filter}
use Rattle.vlan_rule.specs.declared.filter.Filter.TheVariants as filter
use Rattle.vlan_rule.specs.declared.kind.Kind.{Kind}
use Rattle.vlan_rule.specs.declared.kind.Kind.TheVariants.{NoTag, OneTagDefault, OneTag, TwoTagDefault, TwoTag}
use Rattle.vlan_rule.specs.declared.layout.TagCodes.{TagCodes}
use Rattle.vlan_rule.specs.declared.rank.Rank.{Rank}
use Rattle.vlan_rule.specs.declared.rank.Rank.TheVariants.{Ordinary, Default, Predefined}
use Rattle.vlan_rule.specs.declared.treatment.PrioritySource.{PrioritySource}
use Rattle.vlan_rule.specs.declared.treatment.PrioritySource.TheVariants as from_priority
use Rattle.vlan_rule.specs.declared.treatment.VidSource.{VidSource}
use Rattle.vlan_rule.specs.declared.treatment.VidSource.TheVariants as from_vid
use Rattle.vlan_rule.specs.declared.treatment.TpidSource.{TpidSource}
use Rattle.vlan_rule.specs.declared.treatment.TpidSource.TheVariants as from_tpid
use Rattle.vlan_rule.specs.declared.treatment.EligibleSource.{EligibleSource}
use Rattle.vlan_rule.specs.declared.treatment.EligibleSource.TheVariants as from_eligible
use Rattle.vlan_rule.specs.declared.treatment.AddedTag.{AddedTag}
use Rattle.vlan_rule.specs.declared.treatment.Treatment.{Treatment}
use Rattle.vlan_rule.specs.declared.treatment.Treatment.TheVariants as treatment
use Rattle.vlan_rule.specs.Entry.{added, adds_bad_priority, adds_bad_tpid, adds_bad_vid, filter_refusal, has_bad_tpid, has_bad_vid, inner_counts, kind_by, outer_counts, treatment_refusal}
use Rattle.vlan_rule.specs.Meaning.{addition, eligible_source, ethertype_filter, filter_by, priority_filter, priority_source, rank_by, tag_filter, tpid_filter, tpid_source, vid_filter, vid_source}
use Rattle.vlan_rule.specs.Spelling.{addition_codes, addition_is_codable, ethertype_code, filter_is_codable, inner_addition_codes, inner_filter_codes, outer_addition_codes, outer_filter_codes, priority_filter_code, priority_filter_is_codable, priority_source_code, priority_source_is_codable, rank_is_codable, removal_code, spelled_key_of, tag_filter_codes, tag_filter_is_codable, tpid_filter_code, tpid_source_code, tpid_source_is_codable, treatment_is_codable, vid_filter_code, vid_filter_is_codable, vid_source_code, vid_source_is_codable, IsTagCodes}
use Rattle.vlan_rule.specs.Table.{is_predefined}

-- ---- numbers

-- a number below a bound isn't one at it or above
below-not : (p n m : ℕ) → nat_lt p n ≡ true → n ≤ m → nat_eq p m ≡ false
below-not p n m h le = grind (arith, nat_tests)

below-in_range : (p n lo hi : ℕ) → nat_lt p n ≡ true → n ≤ lo → is_in_range lo hi p ≡ false
below-in_range p n lo hi h le = grind (arith, nat_tests)

below-lt : (p n : ℕ) → nat_lt p n ≡ true → p < n
below-lt p n h = grind (arith, nat_tests)

below-more : (p n m : ℕ) → nat_lt p n ≡ true → n ≤ m → nat_lt p m ≡ true
below-more p n m h le = grind (arith, nat_tests)

-- ---- filters

priority-code : (f : PriorityFilter) → priority_filter_is_codable f ≡ true → nat_lt (priority_filter_code f) 9 ≡ true
priority-code priority.Any h = refl
priority-code (priority.Exactly p) h = below-more p 8 9 h (omega arith)

priority-reads : (f : PriorityFilter) → priority_filter_is_codable f ≡ true → priority_filter (priority_filter_code f) ≡ f
priority-reads priority.Any h = refl
priority-reads (priority.Exactly p) h = rw (below-not p 8 8 h (omega arith)) refl

vid-code : (f : VidFilter) → vid_filter_is_codable f ≡ true → nat_lt (vid_filter_code f) 4097 ≡ true
vid-code vid.Any h = refl
vid-code (vid.Exactly v) h = below-more v 4096 4097 h (omega arith)

vid-reads : (f : VidFilter) → vid_filter_is_codable f ≡ true → vid_filter (vid_filter_code f) ≡ f
vid-reads vid.Any h = refl
vid-reads (vid.Exactly v) h = rw (below-not v 4096 4096 h (omega arith)) refl

tpid-code : (f : TpidFilter) → nat_lt (tpid_filter_code f) 8 ≡ true
tpid-code tpid.Any = refl
tpid-code tpid.Standard = refl
tpid-code tpid.Input = refl
tpid-code tpid.InputNotEligible = refl
tpid-code tpid.InputEligible = refl

tpid-good : (f : TpidFilter) → is_in_range 1 3 (tpid_filter_code f) ≡ false
tpid-good tpid.Any = refl
tpid-good tpid.Standard = refl
tpid-good tpid.Input = refl
tpid-good tpid.InputNotEligible = refl
tpid-good tpid.InputEligible = refl

tpid-reads : (f : TpidFilter) → tpid_filter (tpid_filter_code f) ≡ f
tpid-reads tpid.Any = refl
tpid-reads tpid.Standard = refl
tpid-reads tpid.Input = refl
tpid-reads tpid.InputNotEligible = refl
tpid-reads tpid.InputEligible = refl

pub ethertype-reads : (f : EthertypeFilter) → ethertype_filter (ethertype_code f) ≡ f
ethertype-reads ethertype.Any = refl
ethertype-reads ethertype.Ipv4 = refl
ethertype-reads ethertype.Pppoe = refl
ethertype-reads ethertype.Arp = refl
ethertype-reads ethertype.Ipv6 = refl
ethertype-reads ethertype.Eapol = refl

pub ethertype-code : (f : EthertypeFilter) → ethertype_code f < 6
ethertype-code ethertype.Any = omega arith
ethertype-code ethertype.Ipv4 = omega arith
ethertype-code ethertype.Pppoe = omega arith
ethertype-code ethertype.Arp = omega arith
ethertype-code ethertype.Ipv6 = omega arith
ethertype-code ethertype.Eapol = omega arith

ethertype-good : (f : EthertypeFilter) → nat_lt 5 (ethertype_code f) ≡ false
ethertype-good ethertype.Any = refl
ethertype-good ethertype.Ipv4 = refl
ethertype-good ethertype.Pppoe = refl
ethertype-good ethertype.Arp = refl
ethertype-good ethertype.Ipv6 = refl
ethertype-good ethertype.Eapol = refl

-- the codes of what is asked of one tag
record IsGoodFilter (f : TagFilter) : Type 0 where
  reads : tag_filter (tag_filter_codes f) ≡ f
  fits : IsTagCodes (tag_filter_codes f)
  priority : nat_lt (tag_filter_codes f).priority 9 ≡ true
  vid : has_bad_vid (tag_filter_codes f) ≡ false
  tpid : has_bad_tpid (tag_filter_codes f) ≡ false

vid-good : (v : ℕ) → nat_lt v 4097 ≡ true → nat_lt 4096 v ≡ false
vid-good v h = grind (arith, nat_tests)

good-filter : (f : TagFilter) → tag_filter_is_codable f ≡ true → IsGoodFilter f
good-filter f h =
    let parts = and_parts (priority_filter_is_codable f.priority) (vid_filter_is_codable f.vid) h in
    let p = priority-code f.priority parts.0 in
    let v = vid-code f.vid parts.1 in
    let pl = below-lt (priority_filter_code f.priority) 9 p in
    let vl = below-lt (vid_filter_code f.vid) 4097 v in
    let tl = below-lt (tpid_filter_code f.tpid) 8 (tpid-code f.tpid) in
    record {
      reads = rw (priority-reads f.priority parts.0, vid-reads f.vid parts.1, tpid-reads f.tpid) refl;
      fits = record { priority = omega arith; vid = omega arith; tpid = tl };
      priority = p;
      vid = vid-good (vid_filter_code f.vid) v;
      tpid = tpid-good f.tpid;
    }

-- the codes of the filters that count
abbrev pub counted_codes : Kind → TagCodes → TagCodes → List TagCodes
counted_codes kind outer inner = (if outer_counts kind then outer ∷ [] else []) ++ (if inner_counts kind then inner ∷ [] else [])

abbrev pub filter_kind : Filter → Kind
filter_kind filter.NoTag = NoTag
filter_kind filter.OneTagDefault = OneTagDefault
filter_kind (filter.OneTag inner) = OneTag
filter_kind filter.TwoTagDefault = TwoTagDefault
filter_kind (filter.TwoTag outer inner) = TwoTag

-- the codes of a filter, where a VID that isn't asked for has this code
pub record IsReadFilter (f : Filter) (type : EthertypeFilter) (any : ℕ) : Type 0 where
  pub kind : kind_by (outer_filter_codes f any).priority (inner_filter_codes f any).priority ≡ filter_kind f
  pub reads : filter_by (filter_kind f) (outer_filter_codes f any) (inner_filter_codes f any) ≡ f
  pub outer : IsTagCodes (outer_filter_codes f any)
  pub inner : IsTagCodes (inner_filter_codes f any)
  pub accepted : filter_refusal (outer_filter_codes f any).priority (inner_filter_codes f any).priority (counted_codes (filter_kind f) (outer_filter_codes f any) (inner_filter_codes f any)) (ethertype_code type) ≡ None

unsaid-fits : (p any : ℕ) → p < 16 → any < 8192 → IsTagCodes (record { priority = p; vid = any; tpid = 0 })
unsaid-fits p any pf af = record { priority = pf; vid = af; tpid = omega arith }

one-accepted : (inner : TagFilter) (e : ℕ) → IsGoodFilter inner → nat_lt 5 e ≡ false → filter_refusal 15 (tag_filter_codes inner).priority (tag_filter_codes inner ∷ []) e ≡ None
one-accepted inner e good type =
    rw (below-in_range (tag_filter_codes inner).priority 9 9 13 good.priority (omega arith), good.vid, good.tpid, type) refl

two-accepted : (outer inner : TagFilter) (e : ℕ) → IsGoodFilter outer → IsGoodFilter inner → nat_lt 5 e ≡ false
    → filter_refusal (tag_filter_codes outer).priority (tag_filter_codes inner).priority (tag_filter_codes outer ∷ tag_filter_codes inner ∷ []) e ≡ None
two-accepted outer inner e good well type =
    rw (
      below-in_range (tag_filter_codes outer).priority 9 9 13 good.priority (omega arith),
      below-in_range (tag_filter_codes inner).priority 9 9 13 well.priority (omega arith),
      below-not (tag_filter_codes inner).priority 9 14 well.priority (omega arith),
      and-false,
      good.vid,
      well.vid,
      good.tpid,
      well.tpid,
      type,
    ) refl

pub read-filter : (f : Filter) (type : EthertypeFilter) (any : ℕ) → filter_is_codable f ≡ true → any < 8192 → IsReadFilter f type any
read-filter filter.NoTag type any h af = record {
  kind = refl;
  reads = refl;
  outer = unsaid-fits 15 any (omega arith) af;
  inner = unsaid-fits 15 any (omega arith) af;
  accepted = rw (ethertype-good type) refl;
}
read-filter filter.OneTagDefault type any h af = record {
  kind = refl;
  reads = refl;
  outer = unsaid-fits 15 any (omega arith) af;
  inner = unsaid-fits 14 any (omega arith) af;
  accepted = rw (ethertype-good type) refl;
}
read-filter (filter.OneTag inner) type any h af =
    let good = good-filter inner h in
    let code = (tag_filter_codes inner).priority in
    record {
      kind = rw (below-not code 9 15 good.priority (omega arith), below-not code 9 14 good.priority (omega arith)) refl;
      reads = ap filter.OneTag good.reads;
      outer = unsaid-fits 15 any (omega arith) af;
      inner = good.fits;
      accepted = one-accepted inner (ethertype_code type) good (ethertype-good type);
    }
read-filter filter.TwoTagDefault type any h af = record {
  kind = refl;
  reads = refl;
  outer = unsaid-fits 14 any (omega arith) af;
  inner = unsaid-fits 14 any (omega arith) af;
  accepted = rw (ethertype-good type) refl;
}
read-filter (filter.TwoTag outer inner) type any h af =
    let parts = and_parts (tag_filter_is_codable outer) (tag_filter_is_codable inner) h in
    let good = good-filter outer parts.0 in
    let well = good-filter inner parts.1 in
    let a = (tag_filter_codes outer).priority in
    let b = (tag_filter_codes inner).priority in
    record {
      kind = rw (below-not b 9 15 well.priority (omega arith), below-not a 9 15 good.priority (omega arith), below-not a 9 14 good.priority (omega arith)) refl;
      reads = ap (λ (o : TagFilter). filter.TwoTag o (tag_filter (tag_filter_codes inner))) good.reads ∙ ap (filter.TwoTag outer) well.reads;
      outer = good.fits;
      inner = well.fits;
      accepted = two-accepted outer inner (ethertype_code type) good well (ethertype-good type);
    }

-- ---- treatments

source-code : (s : PrioritySource) → priority_source_is_codable s ≡ true → nat_lt (priority_source_code s) 11 ≡ true
source-code (from_priority.Fixed p) h = below-more p 8 11 h (omega arith)
source-code from_priority.Inner h = refl
source-code from_priority.Outer h = refl
source-code from_priority.Dscp h = refl

source-reads : (s : PrioritySource) → priority_source_is_codable s ≡ true → priority_source (priority_source_code s) ≡ s
source-reads (from_priority.Fixed p) h =
    rw (below-not p 8 8 h (omega arith), below-not p 8 9 h (omega arith), below-not p 8 10 h (omega arith)) refl
source-reads from_priority.Inner h = refl
source-reads from_priority.Outer h = refl
source-reads from_priority.Dscp h = refl

vid-source-code : (s : VidSource) → vid_source_is_codable s ≡ true → nat_lt (vid_source_code s) 4098 ≡ true
vid-source-code (from_vid.Fixed v) h = below-more v 4095 4098 h (omega arith)
vid-source-code from_vid.Inner h = refl
vid-source-code from_vid.Outer h = refl

vid-source-reads : (s : VidSource) → vid_source_is_codable s ≡ true → vid_source (vid_source_code s) ≡ s
vid-source-reads (from_vid.Fixed v) h = rw (below-not v 4095 4096 h (omega arith), below-not v 4095 4097 h (omega arith)) refl
vid-source-reads from_vid.Inner h = refl
vid-source-reads from_vid.Outer h = refl

good-vid : (v : ℕ) → nat_lt v 4095 ≡ true → (nat_eq v 4095 || nat_lt 4097 v) ≡ false
good-vid v h = grind (arith, nat_tests)

vid-source-good : (s : VidSource) → vid_source_is_codable s ≡ true → (nat_eq (vid_source_code s) 4095 || nat_lt 4097 (vid_source_code s)) ≡ false
vid-source-good (from_vid.Fixed v) h = good-vid v h
vid-source-good from_vid.Inner h = refl
vid-source-good from_vid.Outer h = refl

-- the code of a TPID and a drop eligible indicator
record IsGoodTpid (t : TpidSource) (e : EligibleSource) : Type 0 where
  tpid : tpid_source (tpid_source_code t e) ≡ t
  eligible : eligible_source (tpid_source_code t e) ≡ e
  below : nat_lt (tpid_source_code t e) 8 ≡ true
  accepted : nat_eq (tpid_source_code t e) 5 ≡ false

good-tpid : (t : TpidSource) (e : EligibleSource) → tpid_source_is_codable t e ≡ true → IsGoodTpid t e
good-tpid from_tpid.Inner from_eligible.Inner h = record { tpid = refl; eligible = refl; below = refl; accepted = refl }
good-tpid from_tpid.Inner from_eligible.Outer h = cc
good-tpid from_tpid.Inner from_eligible.Clear h = cc
good-tpid from_tpid.Inner from_eligible.Set h = cc
good-tpid from_tpid.Outer from_eligible.Inner h = cc
good-tpid from_tpid.Outer from_eligible.Outer h = record { tpid = refl; eligible = refl; below = refl; accepted = refl }
good-tpid from_tpid.Outer from_eligible.Clear h = cc
good-tpid from_tpid.Outer from_eligible.Set h = cc
good-tpid from_tpid.Output from_eligible.Inner h = record { tpid = refl; eligible = refl; below = refl; accepted = refl }
good-tpid from_tpid.Output from_eligible.Outer h = record { tpid = refl; eligible = refl; below = refl; accepted = refl }
good-tpid from_tpid.Output from_eligible.Clear h = record { tpid = refl; eligible = refl; below = refl; accepted = refl }
good-tpid from_tpid.Output from_eligible.Set h = record { tpid = refl; eligible = refl; below = refl; accepted = refl }
good-tpid from_tpid.Standard from_eligible.Inner h = cc
good-tpid from_tpid.Standard from_eligible.Outer h = cc
good-tpid from_tpid.Standard from_eligible.Clear h = record { tpid = refl; eligible = refl; below = refl; accepted = refl }
good-tpid from_tpid.Standard from_eligible.Set h = cc

-- the codes of a tag that is added, or of none
record IsGoodAddition (a : Option AddedTag) : Type 0 where
  reads : addition (addition_codes a) ≡ a
  fits : IsTagCodes (addition_codes a)
  priority : list_any adds_bad_priority (added (addition_codes a)) ≡ false
  vid : list_any adds_bad_vid (added (addition_codes a)) ≡ false
  tpid : list_any adds_bad_tpid (added (addition_codes a)) ≡ false

good-addition : (a : Option AddedTag) → addition_is_codable a ≡ true → IsGoodAddition a
good-addition None h = record {
  reads = refl;
  fits = record { priority = omega arith; vid = omega arith; tpid = omega arith };
  priority = refl;
  vid = refl;
  tpid = refl;
}
good-addition (Some tag) h =
    let outer = and_parts (priority_source_is_codable tag.priority) (vid_source_is_codable tag.vid && tpid_source_is_codable tag.tpid tag.eligible) h in
    let inner = and_parts (vid_source_is_codable tag.vid) (tpid_source_is_codable tag.tpid tag.eligible) outer.1 in
    let p = source-code tag.priority outer.0 in
    let v = vid-source-code tag.vid inner.0 in
    let t = good-tpid tag.tpid tag.eligible inner.1 in
    let adds = below-not (priority_source_code tag.priority) 11 15 p (omega arith) in
    let pl = below-lt (priority_source_code tag.priority) 11 p in
    let vl = below-lt (vid_source_code tag.vid) 4098 v in
    record {
      reads = rw (adds, source-reads tag.priority outer.0, vid-source-reads tag.vid inner.0, t.tpid, t.eligible) refl;
      fits = record { priority = omega arith; vid = omega arith; tpid = below-lt (tpid_source_code tag.tpid tag.eligible) 8 t.below };
      priority = rw (adds, below-in_range (priority_source_code tag.priority) 11 11 14 p (omega arith)) refl;
      vid = rw (adds, vid-source-good tag.vid inner.0) refl;
      tpid = rw (adds, t.accepted) refl;
    }

-- the treatment that codes mean, and the tags that they add
abbrev pub treatment_by : ℕ → TagCodes → TagCodes → Treatment
treatment_by r p q = if nat_eq r 3 then treatment.Discard else treatment.Retag (record { remove = r; outer = addition p; inner = addition q })

abbrev pub additions_by : ℕ → TagCodes → TagCodes → List TagCodes
additions_by r p q = if nat_eq r 3 then [] else added p ++ added q

pub record IsReadTreatment (t : Treatment) : Type 0 where
  pub reads : treatment_by (removal_code t) (outer_addition_codes t) (inner_addition_codes t) ≡ t
  pub remove : removal_code t < 4
  pub outer : IsTagCodes (outer_addition_codes t)
  pub inner : IsTagCodes (inner_addition_codes t)
  pub accepted : treatment_refusal (additions_by (removal_code t) (outer_addition_codes t) (inner_addition_codes t)) ≡ None

le-not : (p n m : ℕ) → nat_le p n ≡ true → n < m → nat_eq p m ≡ false
le-not p n m h lt = grind (arith, nat_tests)

le-lt : (p n m : ℕ) → nat_le p n ≡ true → n < m → p < m
le-lt p n m h lt = grind (arith, nat_tests)

both-accepted : (p q : TagCodes)
    → list_any adds_bad_priority (added p) ≡ false → list_any adds_bad_priority (added q) ≡ false
    → list_any adds_bad_vid (added p) ≡ false → list_any adds_bad_vid (added q) ≡ false
    → list_any adds_bad_tpid (added p) ≡ false → list_any adds_bad_tpid (added q) ≡ false
    → treatment_refusal (added p ++ added q) ≡ None
both-accepted p q pp qp pv qv pt qt =
    rw (
      list_any-append adds_bad_priority (added p) (added q),
      pp,
      qp,
      list_any-append adds_bad_vid (added p) (added q),
      pv,
      qv,
      list_any-append adds_bad_tpid (added p) (added q),
      pt,
      qt,
    ) refl

pub read-treatment : (t : Treatment) → treatment_is_codable t ≡ true → IsReadTreatment t
read-treatment treatment.Discard h = record {
  reads = refl;
  remove = omega arith;
  outer = record { priority = omega arith; vid = omega arith; tpid = omega arith };
  inner = record { priority = omega arith; vid = omega arith; tpid = omega arith };
  accepted = refl;
}
read-treatment (treatment.Retag retag) h =
    let parts = and_parts (nat_le retag.remove 2) (addition_is_codable retag.outer && addition_is_codable retag.inner) h in
    let both = and_parts (addition_is_codable retag.outer) (addition_is_codable retag.inner) parts.1 in
    let outer = good-addition retag.outer both.0 in
    let inner = good-addition retag.inner both.1 in
    let kept = le-not retag.remove 2 3 parts.0 (omega arith) in
    record {
      reads = rw (kept, outer.reads, inner.reads) refl;
      remove = le-lt retag.remove 2 4 parts.0 (omega arith);
      outer = outer.fits;
      inner = inner.fits;
      accepted = rw kept (both-accepted (addition_codes retag.outer) (addition_codes retag.inner) outer.priority inner.priority outer.vid inner.vid outer.tpid inner.tpid);
    }

-- ---- ranks

above-predefined : (k : ℕ) → 0xF0000000F0000000 < k → is_predefined k ≡ false
above-predefined k h = grind (arith, nat_tests)

below-predefined : (k : ℕ) → k < 0xE0000000E0000000 → is_predefined k ≡ false
below-predefined k h = grind (arith, nat_tests)

between-predefined : (k : ℕ) → 0xE0000000E0000000 < k → k < 0xF0000000E0000000 → is_predefined k ≡ false
between-predefined k h g = grind (arith, nat_tests)

zero-code : (type : EthertypeFilter) → nat_eq (ethertype_code type) 0 ≡ true → ethertype_code type ≡ 0
zero-code ethertype.Any h = refl
zero-code ethertype.Ipv4 h = cc
zero-code ethertype.Pppoe h = cc
zero-code ethertype.Arp h = cc
zero-code ethertype.Ipv6 h = cc
zero-code ethertype.Eapol h = cc

pub read-rank : (f : Filter) (type : EthertypeFilter) (rank : Rank) → filter_is_codable f ≡ true → rank_is_codable f type rank ≡ true
    → rank_by (is_predefined (spelled_key_of f type rank)) (filter_kind f) ≡ rank
read-rank filter.NoTag type Ordinary c h = rw (above-predefined (spelled_key_of filter.NoTag type Ordinary) (omega arith)) refl
read-rank filter.NoTag type Default c h = cc
read-rank filter.NoTag type Predefined c h = rw (zero-code type h) refl
read-rank filter.OneTagDefault type Ordinary c h = cc
read-rank filter.OneTagDefault type Default c h = rw (above-predefined (spelled_key_of filter.OneTagDefault type Default) (omega arith)) refl
read-rank filter.OneTagDefault type Predefined c h = rw (zero-code type h) refl
read-rank (filter.OneTag inner) type Ordinary c h =
    rw (above-predefined (spelled_key_of (filter.OneTag inner) type Ordinary) (omega arith)) refl
read-rank (filter.OneTag inner) type Default c h = cc
read-rank (filter.OneTag inner) type Predefined c h = cc
read-rank filter.TwoTagDefault type Ordinary c h = cc
read-rank filter.TwoTagDefault type Default c h =
    let e = ethertype-code type in
    rw (between-predefined (spelled_key_of filter.TwoTagDefault type Default) (omega arith) (omega arith)) refl
read-rank filter.TwoTagDefault type Predefined c h = rw (zero-code type h) refl
read-rank (filter.TwoTag outer inner) type Ordinary c h =
    let e = ethertype-code type in
    let parts = and_parts (tag_filter_is_codable outer) (tag_filter_is_codable inner) c in
    let good = good-filter outer parts.0 in
    let well = good-filter inner parts.1 in
    let o = good.fits in
    let i = well.fits in
    let p = below-lt (tag_filter_codes outer).priority 9 good.priority in
    rw (below-predefined (spelled_key_of (filter.TwoTag outer inner) type Ordinary) (omega arith)) refl
read-rank (filter.TwoTag outer inner) type Default c h = cc
read-rank (filter.TwoTag outer inner) type Predefined c h = cc
