-- Masks by codes.
use Rattle.std.proofs.Common.{◌≡◌, ◌≢◌, ◌==◌, ℕ, zero, suc, ◌^◌, ◌+◌, ◌*◌, ◌/◌, ◌%◌, ◌<◌, ◌≤◌, Bool, true, false, not, ◌&&◌, ◌||◌, cond, List, [], length, get_or, replicate, refl, ap, ap₂, sym, ◌∙◌, arith, bit_or, bit_and, ◌⊎◌, inl, inr, nat_lt}
use Rattle.std.proofs.lemmas.Bool.Decides.{eqb_tells}
use Rattle.std.proofs.lemmas.Bool.{ne_eqb, eq-eqb, ltb-true, ltb-false}
use Rattle.std.proofs.lemmas.List.{get_or-replicate}
use Rattle.std.proofs.Math.Bool.{and-true, and-false, or-false}
use Rattle.tag_view.specs.Tag.{TagFields}
use Rattle.vlan_rule.specs.Choice.{has_priority, has_tpid}
use Rattle.vlan_rule.specs.declared.filter.PriorityFilter.{PriorityFilter}
use Rattle.vlan_rule.specs.declared.filter.PriorityFilter.TheVariants as priority
use Rattle.vlan_rule.specs.declared.filter.TpidFilter.{TpidFilter}
use Rattle.vlan_rule.specs.declared.filter.TpidFilter.TheVariants as tpid
use Rattle.vlan_rule.specs.declared.filter.TagFilter.{TagFilter}
use Rattle.rule_index.specs.Masks.{bit_of, mask_of, AreGroups}
use Rattle.rule_index.specs.Filters.{admits_code, admits_priority, admits_tpid, code_by, code_of, priority_key, tpid_key}
use Rattle.rule_index.specs.Codes.{joined_code, joined_tpid, only_if}
use Rattle.rule_index.proofs.MaskLaws.{mask-and, mask-none, mask-or, mask-same}

pub groups-none : {A : Type 0} (key : A → ℕ) (n : ℕ) (masks : List ℕ) → masks ≡ replicate n 0 → length masks ≡ n → AreGroups key masks []
unfolding mask_of
groups-none key n masks is long = λ k h. ap (λ m. get_or m k 0) is ∙ get_or-replicate n k 0 0 (omega arith)

-- ---- the mask of a code

only-if : {A : Type 0} (b : Bool) (p : A → Bool) (xs : List A) → only_if b (mask_of p xs) ≡ mask_of (λ x. b && p x) xs
only-if true p xs = refl
only-if false p xs = sym (mask-none xs)

-- the tests of a TPID and a DEI by keys
keyed : Bool → Bool → Bool → ℕ → Bool
keyed s i d k = (((k == 0 || (s && k == 1)) || (i && k == 2)) || ((i && not d) && k == 3)) || ((i && d) && k == 4)

keyed-admits : (s i d : Bool) (f : TpidFilter) → keyed s i d (tpid_key f) ≡ admits_tpid s i d f
unfolding keyed
keyed-admits s i d tpid.Any = refl
keyed-admits s i d tpid.Standard = simp (and-true, and-false, or-false)
keyed-admits s i d tpid.Input = simp (and-true, and-false, or-false)
keyed-admits s i d tpid.InputNotEligible = simp (and-true, and-false, or-false)
keyed-admits s i d tpid.InputEligible = simp (and-true, and-false)

tpid-mask : (masks : List ℕ) (filters : List TagFilter) (s i d : Bool) → length masks ≡ 5 → AreGroups (λ f. tpid_key f.tpid) masks filters
    → joined_tpid masks s i d ≡ mask_of (λ f. admits_tpid s i d f.tpid) filters
unfolding keyed
tpid-mask masks filters s i d long groups =
    ap₂ bit_or (ap₂ bit_or (ap₂ bit_or (ap₂ bit_or (at 0 (omega arith)) (if_at s 1 (omega arith)) ∙ mask-or _ _ filters) (if_at i 2 (omega arith)) ∙ mask-or _ _ filters) (if_at (i && not d) 3 (omega arith)) ∙ mask-or _ _ filters)
    (if_at (i && d) 4 (omega arith)) ∙ mask-or _ _ filters
    ∙ mask-same (λ f. keyed s i d (tpid_key f.tpid)) (λ f. admits_tpid s i d f.tpid) filters (λ f. keyed-admits s i d f.tpid)
  where
    at : (k : ℕ) → k < 5 → get_or masks k 0 ≡ mask_of (λ f. tpid_key f.tpid == k) filters
    at k h = groups k (omega arith)

    if_at : (b : Bool) (k : ℕ) → k < 5 → only_if b (get_or masks k 0) ≡ mask_of (λ f. b && tpid_key f.tpid == k) filters
    if_at b k h = ap (only_if b) (at k h) ∙ only-if b (λ f. tpid_key f.tpid == k) filters

pub code-mask : (priorities tpids : List ℕ) (filters : List TagFilter) (code : ℕ) → length priorities ≡ 10 → length tpids ≡ 5
    → AreGroups (λ f. priority_key f.priority) priorities filters → AreGroups (λ f. tpid_key f.tpid) tpids filters
    → joined_code priorities tpids code ≡ mask_of (λ f. admits_code code f) filters
code-mask priorities tpids filters code ten five of_priority of_tpid =
    ap₂ bit_and
    (ap₂ bit_or (of_priority 8 (omega arith)) (of_priority (code / 2 % 8) (omega arith)) ∙ mask-or (λ f. priority_key f.priority == 8) (λ f. priority_key f.priority == code / 2 % 8) filters)
    (tpid-mask tpids filters (code / 32 == 1) (code / 16 % 2 == 1) (code % 2 == 1) five of_tpid)
    ∙ mask-and (λ f. admits_priority (code / 2 % 8) f.priority) (λ f. admits_tpid (code / 32 == 1) (code / 16 % 2 == 1) (code % 2 == 1) f.tpid) filters

-- the TPID and the DEI of a code by bits 5, 4 and 0
pub tpid-bits : (masks : List ℕ) (k code : ℕ) → k / 4 ≡ code / 32 → k / 2 % 2 ≡ code / 16 % 2 → k % 2 ≡ code % 2
    → joined_tpid masks (k / 4 == 1) (k / 2 % 2 == 1) (k % 2 == 1) ≡ joined_tpid masks (code / 32 == 1) (code / 16 % 2 == 1) (code % 2 == 1)
tpid-bits masks k code a b d = rw (a, b, d) refl

-- ---- what a code says of its tag

bit_of-test : (b : Bool) → (bit_of b == 1) ≡ b
bit_of-test true = refl
bit_of-test false = refl

bit_of-le : (b : Bool) → bit_of b ≤ 1
bit_of-le true = omega arith
bit_of-le false = omega arith

record IsDecoded (s i d : Bool) (p c : ℕ) : Type 0 where
  standard : (c / 32 == 1) ≡ s
  input : (c / 16 % 2 == 1) ≡ i
  dei : (c % 2 == 1) ≡ d
  pcp : c / 2 % 8 ≡ p

decoded : (s i d : Bool) (p : ℕ) → p < 8 → IsDecoded s i d p (code_by s i p d)
decoded s i d p small =
    let hs = bit_of-le s in let hi = bit_of-le i in let hd = bit_of-le d in
    record {
      standard = ap (λ n. n == 1) (parts (bit_of s) (bit_of i) p (bit_of d) hs hi small hd).0 ∙ bit_of-test s;
      input = ap (λ n. n == 1) (parts (bit_of s) (bit_of i) p (bit_of d) hs hi small hd).1 ∙ bit_of-test i;
      dei = ap (λ n. n == 1) (parts (bit_of s) (bit_of i) p (bit_of d) hs hi small hd).2 ∙ bit_of-test d;
      pcp = (parts (bit_of s) (bit_of i) p (bit_of d) hs hi small hd).3;
    }
  where
    parts : (a b p e : ℕ) → a ≤ 1 → b ≤ 1 → p < 8 → e ≤ 1
        → let c = a * 32 + b * 16 + p * 2 + e in (c / 32 ≡ a) × (c / 16 % 2 ≡ b) × (c % 2 ≡ e) × (c / 2 % 8 ≡ p)
    parts a b p e ha hb hp he = (omega arith, omega arith, omega arith, omega arith)

eqb-sym : (a b : ℕ) → (a == b) ≡ (b == a)
eqb-sym a b = by_case (eqb_tells a b)
  where
    by_case : ((a == b) ≡ true × (a ≡ b)) ⊎ ((a == b) ≡ false × (a ≢ b)) → (a == b) ≡ (b == a)
    by_case (inl e) = e.0 ∙ sym (eq-eqb b a (sym e.1))
    by_case (inr e) = e.0 ∙ sym (ne_eqb b a (λ h. e.1 (sym h)))

priority-admits : (pcp : ℕ) (f : PriorityFilter) (tag : TagFields) → tag.pcp ≡ pcp → pcp < 8 → admits_priority pcp f ≡ has_priority f tag
priority-admits pcp priority.Any tag is small = refl
priority-admits pcp (priority.Exactly p) tag is small = by_case (nat_lt p 8) refl
  where
    by_case : (b : Bool) → nat_lt p 8 ≡ b → ((cond b p 9 == 8) || (cond b p 9 == pcp)) ≡ (tag.pcp == p)
    by_case true less =
        let below : p < 8 = ltb-true p 8 less in
        ap (λ b. b || (p == pcp)) (ne_eqb p 8 (λ e. omega (arith, e))) ∙ eqb-sym p pcp ∙ ap (λ n. n == p) (sym is)
    by_case false less =
        let above : 8 ≤ p = ltb-false p 8 less in
        ne_eqb 9 pcp (λ e. omega (arith, e)) ∙ sym (ne_eqb tag.pcp p (λ e. omega (arith, e, is)))

tpid-admits : (input : ℕ) (tag : TagFields) (f : TpidFilter) → admits_tpid (tag.tpid == 0x8100) (tag.tpid == input) tag.dei f ≡ has_tpid input f tag
tpid-admits input tag tpid.Any = refl
tpid-admits input tag tpid.Standard = refl
tpid-admits input tag tpid.Input = refl
tpid-admits input tag tpid.InputNotEligible = refl
tpid-admits input tag tpid.InputEligible = refl

bit_of-back : (m : ℕ) → m < 2 → bit_of (m == 1) ≡ m
bit_of-back zero small = refl
bit_of-back (suc zero) small = refl
bit_of-back (suc (suc m)) small = absurd (omega (arith, small))

-- the priority and the DEI of a control word are its upper four bits
pub code-word : (control : ℕ) → control / 2 ^ 13 * 2 + bit_of (control / 2 ^ 12 % 2 == 1) ≡ control / 2 ^ 12
code-word control = rw (bit_of-back (control / 2 ^ 12 % 2) (omega arith)) (omega arith)

pub code-admits : (input : ℕ) (tag : TagFields) (f : TagFilter) → tag.pcp < 8
    → admits_code (code_of input tag) f ≡ (has_priority f.priority tag && has_tpid input f.tpid tag)
code-admits input tag f small =
    let d = decoded (tag.tpid == 0x8100) (tag.tpid == input) tag.dei tag.pcp small in
    let code = code_of input tag in
    let below : code / 2 % 8 < 8 = omega arith in
    ap₂ (λ a b. a && b) (priority-admits (code / 2 % 8) f.priority tag (sym d.pcp) below)
    ((λ i. admits_tpid (d.standard i) (d.input i) (d.dei i) f.tpid) ∙ tpid-admits input tag f.tpid)

pub code-below : (input : ℕ) (tag : TagFields) → tag.pcp < 8 → code_of input tag < 64
code-below input tag small =
    let a = bit_of-le (tag.tpid == 0x8100) in let b = bit_of-le (tag.tpid == input) in let c = bit_of-le tag.dei in omega arith
