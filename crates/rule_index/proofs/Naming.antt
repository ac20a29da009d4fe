-- Masks by VID, while they are built and then.
use Rattle.std.proofs.Common.{◌≡◌, ◌≢◌, ◌==◌, ℕ, ◌+◌, ◌^◌, ◌<◌, ◌≤◌, true, false, ◌||◌, List, [], ◌∷◌, ◌++◌, length, get_or, set, refl, ap, ap₂, sym, ◌∙◌, arith, bit_or, ◌⊎◌, inl, inr}
use Rattle.std.proofs.lemmas.Bool.Decides.{eqb_tells}
use Rattle.std.proofs.lemmas.Bool.{ne_eqb}
use Rattle.std.proofs.lemmas.Grind.{get_or-set_at}
use Rattle.std.proofs.Math.Bool.{or-false}
use Rattle.std.proofs.lemmas.List.{get_or-set_other}
use Rattle.vlan_rule.specs.declared.filter.VidFilter.{VidFilter}
use Rattle.vlan_rule.specs.declared.filter.VidFilter.TheVariants as vid
use Rattle.rule_index.specs.Masks.{mask_of}
use Rattle.rule_index.specs.Filters.{admits_vid, is_any_vid, names_vid}
use Rattle.rule_index.specs.Vids.{class_at, mask_at, AreClasses, AreVids, IsVidGrouping}
use Rattle.rule_index.proofs.MaskLaws.{mask-keep, mask-none, mask-or, mask-same, mask-set}

pub naming-none : (class masks : List ℕ) → ((v : ℕ) → v < 4096 → class_at class v ≡ 0) → get_or masks 0 0 ≡ 0 → IsVidGrouping class masks 0 []
unfolding mask_of
naming-none class masks none empty = record {
  names = record {
    own = λ v w hv hw e. inr (none v hv);
    each = λ v hv. ap (λ k. get_or masks k 0) (none v hv) ∙ empty;
    others = empty;
  };
  any_mask = refl;
}

-- a VID that gets a class
pub classes-new : (class masks : List ℕ) (mask : ℕ → ℕ) (none named at : ℕ) → length class ≡ 4096 → length masks ≡ 129 → at < 4096 → named < 128
    → ((v : ℕ) → v < 4096 → class_at class v ≤ named) → class_at class at ≡ 0
    → AreClasses class masks mask none → AreClasses (set class at (named + 1)) (set masks (named + 1) (get_or masks 0 0)) mask none
classes-new class masks mask none named at whole room inside few below absent is = record {
  own = λ v w hv hw e. own v w hv hw e (eqb_tells v at) (eqb_tells w at);
  each = λ v hv. each v hv (eqb_tells v at);
  others = get_or-set_other masks (named + 1) 0 (get_or masks 0 0) 0 (λ e. omega (arith, e)) ∙ is.others;
}
  where
    here : (v : ℕ) → v ≡ at → class_at (set class at (named + 1)) v ≡ named + 1
    here v e = get_or-set_at class at v (named + 1) 0 e (omega arith)

    else : (v : ℕ) → v ≢ at → class_at (set class at (named + 1)) v ≡ class_at class v
    else v e = get_or-set_other class at v (named + 1) 0 e

    own : (v w : ℕ) → v < 4096 → w < 4096 → class_at (set class at (named + 1)) v ≡ class_at (set class at (named + 1)) w
        → ((v == at) ≡ true × (v ≡ at)) ⊎ ((v == at) ≡ false × (v ≢ at)) → ((w == at) ≡ true × (w ≡ at)) ⊎ ((w == at) ≡ false × (w ≢ at))
        → (v ≡ w) ⊎ (class_at (set class at (named + 1)) v ≡ 0)
    own v w hv hw e (inl a) (inl b) = inl (a.1 ∙ sym b.1)
    own v w hv hw e (inl a) (inr b) = absurd (omega (arith, sym (here v a.1) ∙ e ∙ else w b.1, below w hw))
    own v w hv hw e (inr a) (inl b) = absurd (omega (arith, sym (else v a.1) ∙ e ∙ here w b.1, below v hv))
    own v w hv hw e (inr a) (inr b) = rw (else v a.1) (is.own v w hv hw (sym (else v a.1) ∙ e ∙ else w b.1))

    each : (v : ℕ) → v < 4096 → ((v == at) ≡ true × (v ≡ at)) ⊎ ((v == at) ≡ false × (v ≢ at))
        → mask_at (set class at (named + 1)) (set masks (named + 1) (get_or masks 0 0)) v ≡ mask v
    each v hv (inl a) =
        ap (λ k. get_or (set masks (named + 1) (get_or masks 0 0)) k 0) (here v a.1)
        ∙ get_or-set_at masks (named + 1) (named + 1) (get_or masks 0 0) 0 refl (omega arith)
        ∙ ap (λ k. get_or masks k 0) (sym (ap (λ k. class_at class k) a.1 ∙ absent)) ∙ is.each v hv
    each v hv (inr a) =
        ap (λ k. get_or (set masks (named + 1) (get_or masks 0 0)) k 0) (else v a.1)
        ∙ get_or-set_other masks (named + 1) (class_at class v) (get_or masks 0 0) 0 (λ e. omega (arith, e, below v hv))
        ∙ is.each v hv

-- a filter more that names no VID
pub naming-any : (class masks : List ℕ) (any : ℕ) (filters : List VidFilter)
    → IsVidGrouping class masks any filters → IsVidGrouping class masks (bit_or any (2 ^ length filters)) (filters ++ vid.Any ∷ [])
naming-any class masks any filters is = record {
  names = record {
    own = is.names.own;
    each = λ v hv. is.names.each v hv ∙ mask-keep (λ f. names_vid v f) filters vid.Any refl;
    others = is.names.others;
  };
  any_mask = mask-set (λ f. is_any_vid f) filters vid.Any any is.any_mask refl;
}

-- one that names a VID
pub naming-exact : (class masks : List ℕ) (any at : ℕ) (filters : List VidFilter) → at < 4096 → 0 < class_at class at → class_at class at < length masks
    → IsVidGrouping class masks any filters
    → IsVidGrouping class (set masks (class_at class at) (bit_or (get_or masks (class_at class at) 0) (2 ^ length filters))) any (filters ++ vid.Exactly at ∷ [])
naming-exact class masks any at filters inside some room is = record {
  names = record {
    own = is.names.own;
    each = λ v hv. names v hv (eqb_tells v at);
    others = get_or-set_other masks (class_at class at) 0 (bit_or (get_or masks (class_at class at) 0) (2 ^ length filters)) 0 (λ e. omega (arith, e)) ∙ is.names.others;
  };
  any_mask = is.any_mask ∙ mask-keep (λ f. is_any_vid f) filters (vid.Exactly at) refl;
}
  where
    new : ℕ
    new = bit_or (get_or masks (class_at class at) 0) (2 ^ length filters)

    differ : (v : ℕ) → v ≢ at → (v ≡ at) ⊎ (class_at class v ≡ 0) → class_at class v ≡ class_at class at → ⊥
    differ v e (inl same) h = e same
    differ v e (inr none) h = omega (arith, none, h)

    names : (v : ℕ) → v < 4096 → ((v == at) ≡ true × (v ≡ at)) ⊎ ((v == at) ≡ false × (v ≢ at))
        → mask_at class (set masks (class_at class at) new) v ≡ mask_of (λ f. names_vid v f) (filters ++ vid.Exactly at ∷ [])
    names v hv (inl a) =
        get_or-set_at masks (class_at class at) (class_at class v) new 0 (ap (λ k. class_at class k) a.1) room
        ∙ mask-set (λ f. names_vid v f) filters (vid.Exactly at) (get_or masks (class_at class at) 0)
        (ap (λ k. mask_at class masks k) (sym a.1) ∙ is.names.each v hv) a.0
    names v hv (inr a) =
        get_or-set_other masks (class_at class at) (class_at class v) new 0 (λ e. differ v a.1 (is.names.own v at hv inside e) e)
        ∙ is.names.each v hv ∙ mask-keep (λ f. names_vid v f) filters (vid.Exactly at) a.0

-- one that names what no tag has
pub naming-never : (class masks : List ℕ) (any at : ℕ) (filters : List VidFilter) → 4096 ≤ at
    → IsVidGrouping class masks any filters → IsVidGrouping class masks any (filters ++ vid.Exactly at ∷ [])
naming-never class masks any at filters beyond is = record {
  names = record {
    own = is.names.own;
    each = λ v hv. is.names.each v hv ∙ mask-keep (λ f. names_vid v f) filters (vid.Exactly at) (ne_eqb v at (λ e. omega (arith, e)));
    others = is.names.others;
  };
  any_mask = is.any_mask ∙ mask-keep (λ f. is_any_vid f) filters (vid.Exactly at) refl;
}

-- all are added
pub naming-done : (class masks masks' : List ℕ) (any named : ℕ) (filters : List VidFilter)
    → ((v : ℕ) → v < 4096 → class_at class v ≤ named)
    → ((k : ℕ) → k < named + 1 → get_or masks' k 0 ≡ bit_or (get_or masks k 0) any)
    → IsVidGrouping class masks any filters → AreVids class masks' filters
naming-done class masks masks' any named filters below joined is = record {
  admits = record {
    own = is.names.own;
    each = λ v hv. joined (class_at class v) (omega (arith, below v hv))
        ∙ ap (λ m. bit_or m any) (is.names.each v hv) ∙ ap (λ m. bit_or (mask_of (λ f. names_vid v f) filters) m) is.any_mask
        ∙ mask-or (λ f. names_vid v f) (λ f. is_any_vid f) filters
        ∙ mask-same (λ f. names_vid v f || is_any_vid f) (λ f. admits_vid v f) filters (admits v);
    others = joined 0 (omega arith)
        ∙ ap₂ bit_or (is.names.others ∙ sym (mask-none filters)) is.any_mask
        ∙ mask-or (λ f. false) (λ f. is_any_vid f) filters;
  };
}
  where
    admits : (v : ℕ) (f : VidFilter) → (names_vid v f || is_any_vid f) ≡ admits_vid v f
    admits v vid.Any = refl
    admits v (vid.Exactly w) = or-false (v == w)
