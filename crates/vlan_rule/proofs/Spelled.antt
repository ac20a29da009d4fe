-- The entry that a rule is spelled as is read as that rule.
use Rattle.std.proofs.Common.{◌≡◌, ℕ, ◌+◌, ◌*◌, ◌/◌, ◌%◌, ◌^◌, ◌<◌, true, List, Option, None, refl, ap, sym, ◌∙◌, arith}
use Rattle.std.specs.Option.{option_or}
use Rattle.std.proofs.lemmas.Bool.{and_parts}
use Rattle.vlan_rule.specs.declared.fault.RuleFault.{RuleFault}
use Rattle.vlan_rule.specs.declared.filter.EthertypeFilter.{EthertypeFilter}
use Rattle.vlan_rule.specs.declared.filter.Filter.{Filter}
use Rattle.vlan_rule.specs.declared.kind.Kind.{Kind}
use Rattle.vlan_rule.specs.declared.layout.TagCodes.{TagCodes}
use Rattle.vlan_rule.specs.declared.rank.Rank.{Rank}
use Rattle.vlan_rule.specs.declared.rank.Rank.TheVariants.{Ordinary, Default, Predefined}
use Rattle.vlan_rule.specs.declared.treatment.Treatment.{Treatment}
use Rattle.vlan_rule.specs.Entry.{codes_of, entry_of, filter_ethertype, filter_inner, filter_outer, filter_refusal, key_of, kind_by, kind_of, number_of, refusal_of, tags_to_remove, treatment_inner, treatment_outer, treatment_refusal, value_of}
use Rattle.vlan_rule.specs.Meaning.{ethertype_filter, ethertype_of, filter_by, filter_of, rank_by, rank_of, treatment_of, Means}
use Rattle.vlan_rule.specs.Spelling.{any_vid_code, are_codable, ethertype_code, filter_is_codable, inner_addition_codes, inner_filter_codes, is_spellable, outer_addition_codes, outer_filter_codes, rank_is_codable, removal_code, spelled, spelled_key, spelled_rest, tag_number, treatment_is_codable, IsTagCodes}
use Rattle.vlan_rule.specs.Table.{is_predefined}
use Rattle.vlan_rule.proofs.Fields.{entry-bytes, field-of_key, field-of_rest, key-of_entry, picked, rest-of_entry}
use Rattle.vlan_rule.proofs.ReadBack.{additions_by, counted_codes, ethertype-code, ethertype-reads, read-filter, read-rank, read-treatment, treatment_by, IsReadTreatment}

-- ---- fields

-- the entry has these codes
pub record HasCodes (entry : List ℕ) (o i : TagCodes) (e r : ℕ) (p q : TagCodes) : Type 0 where
  pub outer : codes_of filter_outer entry ≡ o
  pub inner : codes_of filter_inner entry ≡ i
  pub ethertype : value_of filter_ethertype entry ≡ e
  pub remove : value_of tags_to_remove entry ≡ r
  pub adds_outer : codes_of treatment_outer entry ≡ p
  pub adds_inner : codes_of treatment_inner entry ≡ q

-- a number of the 20 bits of a tag
tag-below : (c : TagCodes) → IsTagCodes c → tag_number c < 1048576
tag-below c fits = omega arith

key-below : (o i : TagCodes) (e : ℕ) → IsTagCodes o → IsTagCodes i → e < 16 → spelled_key o i e < 2 ^ 64
key-below o i e of if ef = omega arith

rest-below : (r : ℕ) (o i : TagCodes) → r < 4 → IsTagCodes o → IsTagCodes i → spelled_rest r o i < 2 ^ 64
rest-below r o i rf of if = omega arith

-- a field of the key, and of the rest
in_key : (key rest hi W c K lo h w l : ℕ) → key < 2 ^ 64 → 64 ≡ h + w + l → K ≡ 2 ^ l → W ≡ 2 ^ w
    → key ≡ (hi * W + c) * K + lo → lo < K → c < W
    → number_of (entry_of key rest) / 2 ^ (64 + l) % 2 ^ w ≡ c
in_key key rest hi W c K lo h w l below whole isK isW sum low fits =
    field-of_key (entry_of key rest) h w l (entry-bytes key rest) whole
    ∙ ap (λ (n : ℕ). n / 2 ^ l % 2 ^ w) (key-of_entry key rest below)
    ∙ ap (λ (n : ℕ). key / n % 2 ^ w) (sym isK)
    ∙ ap (λ (n : ℕ). key / K % n) (sym isW)
    ∙ picked key hi W c K lo sum low fits

in_rest : (key rest hi W c K lo h w l : ℕ) → rest < 2 ^ 64 → 64 ≡ h + w + l → K ≡ 2 ^ l → W ≡ 2 ^ w
    → rest ≡ (hi * W + c) * K + lo → lo < K → c < W
    → number_of (entry_of key rest) / 2 ^ l % 2 ^ w ≡ c
in_rest key rest hi W c K lo h w l below whole isK isW sum low fits =
    field-of_rest (entry_of key rest) h w l (entry-bytes key rest) whole
    ∙ ap (λ (n : ℕ). n / 2 ^ l % 2 ^ w) (rest-of_entry key rest below)
    ∙ ap (λ (n : ℕ). rest / n % 2 ^ w) (sym isK)
    ∙ ap (λ (n : ℕ). rest / K % n) (sym isW)
    ∙ picked rest hi W c K lo sum low fits

pub has-codes : (o i : TagCodes) (e r : ℕ) (p q : TagCodes) → IsTagCodes o → IsTagCodes i → e < 16 → r < 4 → IsTagCodes p → IsTagCodes q
    → HasCodes (entry_of (spelled_key o i e) (spelled_rest r p q)) o i e r p q
unfolding value_of
has-codes o i e r p q of if ef rf pf qf =
    let key = spelled_key o i e in
    let rest = spelled_rest r p q in
    let kb = key-below o i e of if ef in
    let rb = rest-below r p q rf pf qf in
    let ob = tag-below o of in
    let ib = tag-below i if in
    let pb = tag-below p pf in
    let qb = tag-below q qf in
    let op : number_of (entry_of key rest) / 2 ^ 124 % 2 ^ 4 ≡ o.priority = in_key key rest 0 16 o.priority (2 ^ 60) (o.vid * 2 ^ 47 + (o.tpid * 4294967296 + tag_number i) * 4096 + e) 0 4 60 kb refl refl refl (omega arith) (omega arith) (omega arith) in
    let ov : number_of (entry_of key rest) / 2 ^ 111 % 2 ^ 13 ≡ o.vid = in_key key rest o.priority 8192 o.vid (2 ^ 47) ((o.tpid * 4294967296 + tag_number i) * 4096 + e) 4 13 47 kb refl refl refl (omega arith) (omega arith) (omega arith) in
    let ot : number_of (entry_of key rest) / 2 ^ 108 % 2 ^ 3 ≡ o.tpid = in_key key rest (o.priority * 8192 + o.vid) 8 o.tpid (2 ^ 44) (tag_number i * 4096 + e) 17 3 44 kb refl refl refl (omega arith) (omega arith) (omega arith) in
    let ip : number_of (entry_of key rest) / 2 ^ 92 % 2 ^ 4 ≡ i.priority = in_key key rest (tag_number o * 4096) 16 i.priority (2 ^ 28) ((i.vid * 8 + i.tpid) * 4096 + e) 32 4 28 kb refl refl refl (omega arith) (omega arith) (omega arith) in
    let iv : number_of (entry_of key rest) / 2 ^ 79 % 2 ^ 13 ≡ i.vid = in_key key rest (tag_number o * 65536 + i.priority) 8192 i.vid (2 ^ 15) (i.tpid * 4096 + e) 36 13 15 kb refl refl refl (omega arith) (omega arith) (omega arith) in
    let it : number_of (entry_of key rest) / 2 ^ 76 % 2 ^ 3 ≡ i.tpid = in_key key rest (tag_number o * 536870912 + i.priority * 8192 + i.vid) 8 i.tpid (2 ^ 12) e 49 3 12 kb refl refl refl (omega arith) (omega arith) (omega arith) in
    let ee : number_of (entry_of key rest) / 2 ^ 64 % 2 ^ 4 ≡ e = in_key key rest ((tag_number o * 4294967296 + tag_number i) * 256) 16 e 1 0 60 4 0 kb refl refl refl (omega arith) (omega arith) (omega arith) in
    let rr : number_of (entry_of key rest) / 2 ^ 62 % 2 ^ 2 ≡ r = in_rest key rest 0 4 r (2 ^ 62) (tag_number p * 4294967296 + tag_number q) 0 2 62 rb refl refl refl (omega arith) (omega arith) (omega arith) in
    let pp : number_of (entry_of key rest) / 2 ^ 48 % 2 ^ 4 ≡ p.priority = in_rest key rest (r * 1024) 16 p.priority (2 ^ 48) ((p.vid * 8 + p.tpid) * 4294967296 + tag_number q) 12 4 48 rb refl refl refl (omega arith) (omega arith) (omega arith) in
    let pv : number_of (entry_of key rest) / 2 ^ 35 % 2 ^ 13 ≡ p.vid = in_rest key rest (r * 16384 + p.priority) 8192 p.vid (2 ^ 35) (p.tpid * 4294967296 + tag_number q) 16 13 35 rb refl refl refl (omega arith) (omega arith) (omega arith) in
    let pt : number_of (entry_of key rest) / 2 ^ 32 % 2 ^ 3 ≡ p.tpid = in_rest key rest (r * 134217728 + p.priority * 8192 + p.vid) 8 p.tpid (2 ^ 32) (tag_number q) 29 3 32 rb refl refl refl (omega arith) (omega arith) (omega arith) in
    let qp : number_of (entry_of key rest) / 2 ^ 16 % 2 ^ 4 ≡ q.priority = in_rest key rest ((r * 1073741824 + tag_number p) * 4096) 16 q.priority (2 ^ 16) (q.vid * 8 + q.tpid) 44 4 16 rb refl refl refl (omega arith) (omega arith) (omega arith) in
    let qv : number_of (entry_of key rest) / 2 ^ 3 % 2 ^ 13 ≡ q.vid = in_rest key rest ((r * 1073741824 + tag_number p) * 65536 + q.priority) 8192 q.vid 8 q.tpid 48 13 3 rb refl refl refl (omega arith) (omega arith) (omega arith) in
    let qt : number_of (entry_of key rest) / 2 ^ 0 % 2 ^ 3 ≡ q.tpid = in_rest key rest ((r * 1073741824 + tag_number p) * 536870912 + q.priority * 8192 + q.vid) 8 q.tpid 1 0 61 3 0 rb refl refl refl (omega arith) (omega arith) (omega arith) in
    record {
      outer = rw (op, ov, ot) refl;
      inner = rw (ip, iv, it) refl;
      ethertype = ee;
      remove = rr;
      adds_outer = rw (pp, pv, pt) refl;
      adds_inner = rw (qp, qv, qt) refl;
    }

-- ---- meaning

unfoldable refusal_by : TagCodes → TagCodes → ℕ → ℕ → TagCodes → TagCodes → Option RuleFault
refusal_by o i e r p q =
    option_or
    (filter_refusal o.priority i.priority (counted_codes (kind_by o.priority i.priority) o i) e)
    (treatment_refusal (additions_by r p q))

unfoldable filter_from : TagCodes → TagCodes → Filter
filter_from o i = filter_by (kind_by o.priority i.priority) o i

unfoldable treatment_from : ℕ → TagCodes → TagCodes → Treatment
treatment_from r p q = treatment_by r p q

-- each part by the codes of an entry
refusal-by : (entry : List ℕ) → refusal_of entry ≡ refusal_by (codes_of filter_outer entry) (codes_of filter_inner entry) (value_of filter_ethertype entry) (value_of tags_to_remove entry) (codes_of treatment_outer entry) (codes_of treatment_inner entry)
unfolding refusal_of kind_of refusal_by
refusal-by entry = refl

filter-from : (entry : List ℕ) → filter_of entry ≡ filter_from (codes_of filter_outer entry) (codes_of filter_inner entry)
unfolding filter_of kind_of filter_from
filter-from entry = refl

treatment-from : (entry : List ℕ) → treatment_of entry ≡ treatment_from (value_of tags_to_remove entry) (codes_of treatment_outer entry) (codes_of treatment_inner entry)
unfolding treatment_of treatment_from
treatment-from entry = refl

-- the kind by the codes of the filters
kind-by : (entry : List ℕ) (o i : TagCodes) → codes_of filter_outer entry ≡ o → codes_of filter_inner entry ≡ i → kind_of entry ≡ kind_by o.priority i.priority
unfolding kind_of
kind-by entry o i ho hi =
    ap (λ (c : TagCodes). kind_by c.priority (codes_of filter_inner entry).priority) ho
    ∙ ap (λ (c : TagCodes). kind_by o.priority c.priority) hi

-- an entry of codes that mean these parts
means-by : (entry : List ℕ) (o i : TagCodes) (e r : ℕ) (p q : TagCodes) (f : Filter) (type : EthertypeFilter) (t : Treatment) (rank : Rank)
    → HasCodes entry o i e r p q
    → refusal_by o i e r p q ≡ None → filter_from o i ≡ f → ethertype_filter e ≡ type → treatment_from r p q ≡ t
    → rank_by (is_predefined (key_of entry)) (kind_by o.priority i.priority) ≡ rank
    → Means entry f type t rank
unfolding ethertype_of rank_of
means-by entry o i e r p q f type t rank has accepted filter ethertype treatment ranks =
    let ho = has.outer in
    let hi = has.inner in
    let he = has.ethertype in
    let hr = has.remove in
    let hp = has.adds_outer in
    let hq = has.adds_inner in
    let byr = refusal-by entry in
    let byf = filter-from entry in
    let byt = treatment-from entry in
    record {
      accepted = cc;
      filter = cc;
      ethertype = sym (ap ethertype_filter he ∙ ethertype);
      treatment = cc;
      rank = sym (ap (rank_by (is_predefined (key_of entry))) (kind-by entry o i ho hi) ∙ ranks);
    }

any-vid-below : (rank : Rank) → any_vid_code rank < 8192
any-vid-below Ordinary = omega arith
any-vid-below Default = omega arith
any-vid-below Predefined = omega arith

-- the codes of the filters and of the treatment fit their fields
pub filter-codes-fit : (f : Filter) (type : EthertypeFilter) (t : Treatment) (rank : Rank) → is_spellable f type t rank ≡ true
    → IsTagCodes (outer_filter_codes f (any_vid_code rank)) × IsTagCodes (inner_filter_codes f (any_vid_code rank))
filter-codes-fit f type t rank h =
    let parts = and_parts (are_codable f t) (rank_is_codable f type rank) h in
    let both = and_parts (filter_is_codable f) (treatment_is_codable t) parts.0 in
    let read = read-filter f type (any_vid_code rank) both.0 (any-vid-below rank) in
    (read.outer, read.inner)

pub treatment-codes-fit : (f : Filter) (type : EthertypeFilter) (t : Treatment) (rank : Rank) → is_spellable f type t rank ≡ true → IsReadTreatment t
treatment-codes-fit f type t rank h =
    let parts = and_parts (are_codable f t) (rank_is_codable f type rank) h in
    read-treatment t (and_parts (filter_is_codable f) (treatment_is_codable t) parts.0).1

-- what is spelled of parts that an entry can have means them
pub spelled-means : (f : Filter) (type : EthertypeFilter) (t : Treatment) (rank : Rank) → is_spellable f type t rank ≡ true → Means (spelled f type t rank) f type t rank
unfolding refusal_by filter_from treatment_from
spelled-means f type t rank h =
    let parts = and_parts (are_codable f t) (rank_is_codable f type rank) h in
    let both = and_parts (filter_is_codable f) (treatment_is_codable t) parts.0 in
    let any = any_vid_code rank in
    let o = outer_filter_codes f any in
    let i = inner_filter_codes f any in
    let e = ethertype_code type in
    let r = removal_code t in
    let p = outer_addition_codes t in
    let q = inner_addition_codes t in
    let ef = ethertype-code type in
    let read = read-filter f type any both.0 (any-vid-below rank) in
    let treats = read-treatment t both.1 in
    let has = has-codes o i e r p q read.outer read.inner (omega arith) treats.remove treats.outer treats.inner in
    let key = key-of_entry (spelled_key o i e) (spelled_rest r p q) (key-below o i e read.outer read.inner (omega arith)) in
    let filters : filter_refusal o.priority i.priority (counted_codes (kind_by o.priority i.priority) o i) e ≡ None =
    ap (λ (k : Kind). filter_refusal o.priority i.priority (counted_codes k o i) e) read.kind ∙ read.accepted in
    let accepted : option_or (filter_refusal o.priority i.priority (counted_codes (kind_by o.priority i.priority) o i) e) (treatment_refusal (additions_by r p q)) ≡ None =
    ap (λ (x : Option RuleFault). option_or x (treatment_refusal (additions_by r p q))) filters ∙ treats.accepted in
    means-by (spelled f type t rank) o i e r p q f type t rank has
    accepted
    (ap (λ (k : Kind). filter_by k o i) read.kind ∙ read.reads)
    (ethertype-reads type)
    treats.reads
    (ap (λ (k : ℕ). rank_by (is_predefined k) (kind_by o.priority i.priority)) key
    ∙ ap (rank_by (is_predefined (spelled_key o i e))) read.kind
    ∙ read-rank f type rank both.0 parts.1)
