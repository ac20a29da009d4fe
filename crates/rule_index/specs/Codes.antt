-- Masks by what a tag has beside its VID.
use Rattle.std.specs.Prelude.{◌≡◌, ◌<◌, ℕ, ◌/◌, ◌%◌, Bool, not, ◌&&◌, List, ◌==◌, if◌then◌else◌, slice_index_or, bit_and, bit_or}
use Rattle.vlan_rule.specs.declared.filter.TagFilter.{TagFilter}
use Rattle.rule_index.specs.Masks.{mask_of}
use Rattle.rule_index.specs.Filters.{admits_code}

abbrev pub only_if : Bool → ℕ → ℕ
only_if b mask = if b then mask else 0

-- of the masks by keys, that of a priority
abbrev pub joined_priority : List ℕ → ℕ → ℕ
joined_priority masks pcp = bit_or (slice_index_or masks 8 0) (slice_index_or masks pcp 0)

-- that of a TPID and a DEI
abbrev pub joined_tpid : List ℕ → Bool → Bool → Bool → ℕ
joined_tpid masks standard input dei =
    bit_or
    (bit_or
    (bit_or
    (bit_or (slice_index_or masks 0 0) (only_if standard (slice_index_or masks 1 0)))
    (only_if input (slice_index_or masks 2 0)))
    (only_if (input && not dei) (slice_index_or masks 3 0)))
    (only_if (input && dei) (slice_index_or masks 4 0))

-- that of a code
abbrev pub joined_code : List ℕ → List ℕ → ℕ → ℕ
joined_code priorities tpids code =
    bit_and (joined_priority priorities (code / 2 % 8)) (joined_tpid tpids (code / 32 == 1) (code / 16 % 2 == 1) (code % 2 == 1))

-- the mask at each code is of the filters that admit it
abbrev pub AreCodes : List ℕ → List TagFilter → Type 0
AreCodes codes filters = (code : ℕ) → code < 64 → slice_index_or codes code 0 ≡ mask_of (λ f. admits_code code f) filters
