-- Masks by the number of tags and the type behind them.
use Rattle.std.specs.Prelude.{◌≡◌, ◌<◌, ℕ, ◌/◌, ◌%◌, Bool, ◌&&◌, List, ◌==◌, slice_index_or, bit_and, bit_or}
use Rattle.rule_index.specs.declared.row.Row.{Row}
use Rattle.rule_index.specs.Masks.{mask_of, AreGroups}
use Rattle.rule_index.specs.Filters.{admits_type, tags_in, type_key}

abbrev pub joined_kind : List ℕ → List ℕ → ℕ → ℕ
joined_kind tags types k = bit_and (slice_index_or tags (k / 6) 0) (bit_or (slice_index_or types 0 0) (slice_index_or types (k % 6) 0))

abbrev pub admits_kind : ℕ → Row → Bool
admits_kind k row = tags_in row.filter == k / 6 && admits_type (k % 6) row.ethertype

abbrev pub AreTags : List ℕ → List Row → Type 0
AreTags tags rows = AreGroups (λ (row : Row). tags_in row.filter) tags rows

abbrev pub AreTypes : List ℕ → List Row → Type 0
AreTypes types rows = AreGroups (λ (row : Row). type_key row.ethertype) types rows

abbrev pub AreKinds : List ℕ → List Row → Type 0
AreKinds joined rows = (k : ℕ) → k < 18 → slice_index_or joined k 0 ≡ mask_of (λ row. admits_kind k row) rows
