-- What is read from an index: masks of the entries in the order of rank and place.
use Rattle.std.specs.Prelude.{◌≡◌, ℕ, zero, suc, Bool, false, not, ◌||◌, List, [], ◌∷◌, ◌==◌}
use Rattle.std.specs.Int.{bit_at}
use Rattle.vlan_rule.specs.declared.kind.Kind.{Kind}
use Rattle.vlan_rule.specs.declared.kind.Kind.TheVariants.{NoTag, OneTagDefault, OneTag, TwoTagDefault, TwoTag}
use Rattle.vlan_rule.specs.Entry.{filter_inner, inner_counts, kind_of, value_of}
use Rattle.vlan_rule.specs.Choice.{entry_at}
use Rattle.vlan_rule.specs.Meaning.{vid_filter}
use Rattle.rule_index.specs.Masks.{bit_of, mask_of}
use Rattle.rule_index.specs.Filters.{admits_vid}
use Rattle.rule_index.specs.Order.{order_of}

-- there is an element number j, and it passes
abbrev pub is_at : {A : Type 0} → (A → Bool) → List A → ℕ → Bool
is_at p [] j = false
is_at p (x ∷ xs) zero = p x
is_at p (x ∷ xs) (suc j) = is_at p xs j

-- bit j is set exactly where there is an entry number j in the order of rank and place, and it passes
abbrev pub IsMaskInOrder : (List ℕ → Bool) → List (List ℕ) → ℕ → Type 0
IsMaskInOrder test entries mask = (j : ℕ) → bit_at mask j ≡ bit_of (is_at (λ place. test (entry_at entries place)) (order_of entries) j)

-- the same, computed
abbrev pub mask_in_order : (List ℕ → Bool) → List (List ℕ) → ℕ
mask_in_order test entries = mask_of (λ place. test (entry_at entries place)) (order_of entries)

-- the number of tags of a kind
abbrev pub kind_tags : Kind → ℕ
kind_tags NoTag = 0
kind_tags OneTagDefault = 1
kind_tags OneTag = 1
kind_tags TwoTagDefault = 2
kind_tags TwoTag = 2

-- an entry is of a kind with this number of tags
abbrev pub has_tags : ℕ → List ℕ → Bool
has_tags tags entry = kind_tags (kind_of entry) == tags

-- an entry admits an inner VID: its filter does, or doesn't count
abbrev pub has_inner_vid : ℕ → List ℕ → Bool
has_inner_vid v entry = not (inner_counts (kind_of entry)) || admits_vid v (vid_filter (value_of filter_inner.vid entry))
