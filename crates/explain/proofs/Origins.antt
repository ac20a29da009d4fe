-- The tags that a frame leaves with, and their origins.
use Rattle.std.proofs.Common.{◌≡◌, ℕ, zero, suc, ◌+◌, List, [], ◌∷◌, ◌++◌, Option, Some, None, refl, ap, ◌∙◌, arith, drop, length}
use Rattle.std.specs.Prelude.{All, IfSome, min, option_map, slice_get}
use Rattle.std.proofs.lemmas.List.{map-append}
use Rattle.std.proofs.lemmas.List.Elements.{All-append, All-cons, All-nil}
use Rattle.tag_view.specs.Tag.{TagFields}
use Rattle.vlan_rule.specs.declared.settings.TableSettings.{TableSettings}
use Rattle.vlan_rule.specs.declared.treatment.AddedTag.{AddedTag}
use Rattle.vlan_rule.specs.declared.treatment.Retag.{Retag}
use Rattle.vlan_rule.specs.declared.treatment.Treatment.{Treatment}
use Rattle.vlan_rule.specs.declared.treatment.Treatment.TheVariants as treatment
use Rattle.vlan_rule.specs.Meaning.{treatment_of}
use Rattle.treatment.specs.Treatment.{additions_from, addition_from, left_of, treated, treated_by}
use Rattle.explain.specs.declared.outgoing.OutgoingTag.{OutgoingTag}
use Rattle.explain.specs.Outgoing.{added_by, kept_after, kept_from, outgoing, outgoing_by, plain, retagged_by, IsFrom, HasTrueOrigins}

-- ---- the tags alone

plain-added : (added : Option AddedTag) (settings : TableSettings) (tags : List TagFields) (dscp : Option ℕ)
    → plain (added_by added settings tags dscp) ≡ addition_from added settings tags dscp
plain-added None settings tags dscp = refl
plain-added (Some added) settings tags dscp = refl

plain-kept : (i : ℕ) (tags : List TagFields) → plain (kept_from i tags) ≡ tags
plain-kept i [] = refl
plain-kept i (tag ∷ rest) = ap (λ (l : List TagFields). tag ∷ l) (plain-kept (i + 1) rest)

plain-append : (first second : List OutgoingTag) → plain (first ++ second) ≡ plain first ++ plain second
plain-append first second = map-append (λ (o : OutgoingTag). o.tag) first second

plain-retagged : (retag : Retag) (settings : TableSettings) (tags : List TagFields) (dscp : Option ℕ)
    → plain (retagged_by retag settings tags dscp) ≡ additions_from retag settings tags dscp ++ left_of retag.remove tags
plain-retagged retag settings tags dscp =
    let outer = added_by retag.outer settings tags dscp in
    let inner = added_by retag.inner settings tags dscp in
    plain-append (outer ++ inner) (kept_after retag.remove tags)
    ∙ ap (λ (l : List TagFields). l ++ plain (kept_after retag.remove tags)) (plain-append outer inner)
    ∙ ap (λ (l : List TagFields). (l ++ plain inner) ++ plain (kept_after retag.remove tags)) (plain-added retag.outer settings tags dscp)
    ∙ ap (λ (l : List TagFields). (addition_from retag.outer settings tags dscp ++ l) ++ plain (kept_after retag.remove tags)) (plain-added retag.inner settings tags dscp)
    ∙ ap (λ (l : List TagFields). additions_from retag settings tags dscp ++ l) (plain-kept (min retag.remove (length tags)) (left_of retag.remove tags))

plain-by : (by : Treatment) (settings : TableSettings) (tags : List TagFields) (dscp : Option ℕ)
    → option_map plain (outgoing_by by settings tags dscp) ≡ treated_by by settings tags dscp
unfolding treated_by
plain-by treatment.Discard settings tags dscp = refl
plain-by (treatment.Retag retag) settings tags dscp = ap (λ (l : List TagFields). Some l) (plain-retagged retag settings tags dscp)

pub plain-outgoing : (entry : List ℕ) (settings : TableSettings) (tags : List TagFields) (dscp : Option ℕ)
    → option_map plain (outgoing entry settings tags dscp) ≡ treated entry settings tags dscp
unfolding outgoing treated
plain-outgoing entry settings tags dscp = plain-by (treatment_of entry) settings tags dscp

pub plain-unchanged : (tags : List TagFields) → plain (kept_after 0 tags) ≡ tags
plain-unchanged tags =
    let gone = min 0 (length tags) in
    let none : gone ≡ 0 = omega arith in
    plain-kept gone (drop gone tags) ∙ ap (λ (n : ℕ). drop n tags) none

-- ---- the origins

module _ (settings : TableSettings) (tags : List TagFields) (dscp : Option ℕ) where
  abbrev IsTrue : OutgoingTag → Type 0
  IsTrue o = IsFrom settings tags dscp o.tag o.origin

  added_true : (added : Option AddedTag) → All IsTrue (added_by added settings tags dscp)
  added_true None = All-nil IsTrue
  added_true (Some added) = All-cons IsTrue _ [] refl (All-nil IsTrue)

  -- received tags behind place i, where these stand among all
  kept_true : (i : ℕ) (rest : List TagFields) → ((j : ℕ) → slice_get tags (i + j) ≡ slice_get rest j) → All IsTrue (kept_from i rest)
  kept_true i [] same = All-nil IsTrue
  kept_true i (tag ∷ rest) same =
      let place : i ≡ i + 0 = omega arith in
      let further : (j : ℕ) → slice_get tags (i + 1 + j) ≡ slice_get rest j =
      λ j. let behind : i + 1 + j ≡ i + suc j = omega arith in ap (slice_get tags) behind ∙ same (suc j) in
      All-cons IsTrue _ (kept_from (i + 1) rest) (ap (slice_get tags) place ∙ same 0) (kept_true (i + 1) rest further)

-- an element behind the first i
slice_get-drop : (i j : ℕ) (tags : List TagFields) → slice_get tags (i + j) ≡ slice_get (drop i tags) j
slice_get-drop zero j tags = let place : 0 + j ≡ j = omega arith in ap (slice_get tags) place
slice_get-drop (suc i) j [] = refl
slice_get-drop (suc i) j (tag ∷ rest) = let place : suc i + j ≡ suc (i + j) = omega arith in ap (slice_get (tag ∷ rest)) place ∙ slice_get-drop i j rest

kept_after_true : (settings : TableSettings) (tags : List TagFields) (dscp : Option ℕ) (remove : ℕ)
    → All (λ o. IsFrom settings tags dscp o.tag o.origin) (kept_after remove tags)
kept_after_true settings tags dscp remove =
    let gone = min remove (length tags) in kept_true settings tags dscp gone (drop gone tags) (λ j. slice_get-drop gone j tags)

by_true : (by : Treatment) (settings : TableSettings) (tags : List TagFields) (dscp : Option ℕ)
    → IfSome (outgoing_by by settings tags dscp) (All (λ o. IsFrom settings tags dscp o.tag o.origin))
by_true treatment.Discard settings tags dscp = tt
by_true (treatment.Retag retag) settings tags dscp =
    let outer = added_by retag.outer settings tags dscp in
    let inner = added_by retag.inner settings tags dscp in
    let IsTrueTag : OutgoingTag → Type 0 = λ o. IsFrom settings tags dscp o.tag o.origin in
    All-append IsTrueTag (outer ++ inner) (kept_after retag.remove tags)
    (All-append IsTrueTag outer inner (added_true settings tags dscp retag.outer) (added_true settings tags dscp retag.inner))
    (kept_after_true settings tags dscp retag.remove)

origins_true : (entry : List ℕ) (settings : TableSettings) (tags : List TagFields) (dscp : Option ℕ)
    → IfSome (outgoing entry settings tags dscp) (All (λ o. IsFrom settings tags dscp o.tag o.origin))
unfolding outgoing
origins_true entry settings tags dscp = by_true (treatment_of entry) settings tags dscp

pub true_origins : HasTrueOrigins
true_origins = record {
  treated = plain-outgoing;
  origins = origins_true;
  unchanged = plain-unchanged;
  received = λ settings tags dscp. kept_after_true settings tags dscp 0;
}
