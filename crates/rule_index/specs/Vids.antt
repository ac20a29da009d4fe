-- Masks by VID: each VID that a filter names has a class of its own, and all others have class 0.
use Rattle.std.specs.Prelude.{◌≡◌, ◌<◌, ◌⊎◌, ℕ, List, slice_index_or}
use Rattle.vlan_rule.specs.declared.filter.VidFilter.{VidFilter}
use Rattle.rule_index.specs.Masks.{mask_of}
use Rattle.rule_index.specs.Filters.{admits_vid, is_any_vid, names_vid}

abbrev pub class_at : List ℕ → ℕ → ℕ
class_at class v = slice_index_or class v 0

abbrev pub mask_at : List ℕ → List ℕ → ℕ → ℕ
mask_at class masks v = slice_index_or masks (class_at class v) 0

-- each VID has its mask, class 0 has the mask of none, and a VID of another class shares it with no other
pub record AreClasses (class masks : List ℕ) (mask : ℕ → ℕ) (none : ℕ) : Type 0 where
  pub own : (v w : ℕ) → v < 4096 → w < 4096 → class_at class v ≡ class_at class w → (v ≡ w) ⊎ (class_at class v ≡ 0)
  pub each : (v : ℕ) → v < 4096 → mask_at class masks v ≡ mask v
  pub others : slice_index_or masks 0 0 ≡ none

-- while it is built: the mask of a VID is of the filters that name it
pub record IsVidGrouping (class masks : List ℕ) (any : ℕ) (filters : List VidFilter) : Type 0 where
  pub names : AreClasses class masks (λ v. mask_of (λ f. names_vid v f) filters) 0
  pub any_mask : any ≡ mask_of (λ f. is_any_vid f) filters

-- built: it is of the filters that admit the VID
pub record AreVids (class masks : List ℕ) (filters : List VidFilter) : Type 0 where
  pub admits : AreClasses class masks (λ v. mask_of (λ f. admits_vid v f) filters) (mask_of (λ f. is_any_vid f) filters)
