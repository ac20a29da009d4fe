-- The order of a table's entries by rank and place.
use Rattle.std.specs.Prelude.{◌≡◌, ◌<◌, ℕ, ◌+◌, Bool, true, ◌&&◌, List, [], ◌∷◌, ◌++◌, if◌then◌else◌, ◌==◌, nat_le, nat_lt, ◌-◌, length, map, slice_index_or}
use Rattle.tag_view.specs.Tag.{TagFields}
use Rattle.vlan_rule.specs.Choice.{are_tags, has_type, is_before}
use Rattle.vlan_rule.specs.Meaning.{ethertype_of, filter_of, rank_number, rank_of}
use Rattle.rule_index.specs.declared.row.Row.{Row}

-- what is kept of an entry, with its place
abbrev pub row_of : ℕ → List ℕ → Row
row_of place entry = record { place = place; filter = filter_of entry; ethertype = ethertype_of entry }

-- of entries of which the first stands at a place, those of a rank
unfoldable pub rows_from : ℕ → ℕ → List (List ℕ) → List Row
rows_from rank place [] = []
rows_from rank place (e ∷ rest) =
    if rank_number (rank_of e) == rank then row_of place e ∷ rows_from rank (place + 1) rest
    else rows_from rank (place + 1) rest

-- all entries, those of a smaller rank before others
unfoldable pub rows_of : List (List ℕ) → List Row
rows_of entries = rows_from 0 0 entries ++ (rows_from 1 0 entries ++ rows_from 2 0 entries)

-- the places of the entries in this order
abbrev pub order_of : List (List ℕ) → List ℕ
order_of entries = map (λ row. row.place) (rows_of entries)

-- what an order by rank and place is: strictly ascending, and each entry stands in it
pub record IsOrder (entries : List (List ℕ)) (order : List ℕ) : Type 0 where
  pub within : (a : ℕ) → a < length order → slice_index_or order a 0 < length entries
  pub ascending : (a b : ℕ) → a < b → b < length order → is_before entries (slice_index_or order a 0) (slice_index_or order b 0) ≡ true
  pub whole : (i : ℕ) → i < length entries → (a : ℕ) × (a < length order) × (slice_index_or order a 0 ≡ i)

-- a row is for a frame
abbrev pub row_matches : ℕ → List TagFields → ℕ → Row → Bool
row_matches input tags type row = are_tags input row.filter tags && has_type row.ethertype type

-- two entries are for the same frames, and of one rank
pub record IsAlike (a b : List ℕ) : Type 0 where
  pub filter : filter_of a ≡ filter_of b
  pub ethertype : ethertype_of a ≡ ethertype_of b
  pub rank : rank_of a ≡ rank_of b

-- how many entries are of a rank or of a smaller one
unfoldable pub up_to_rank : ℕ → List (List ℕ) → ℕ
up_to_rank rank [] = 0
up_to_rank rank (e ∷ rest) = if nat_le (rank_number (rank_of e)) rank then up_to_rank rank rest + 1 else up_to_rank rank rest

-- a row in a table that has one entry more, at a place: the places from there on are one higher
abbrev pub raised : ℕ → Row → Row
raised place row = record { place = if nat_lt row.place place then row.place else row.place + 1; filter = row.filter; ethertype = row.ethertype }

-- a row in a table that has one entry less: the places behind the one that it had are one lower
abbrev pub lowered : ℕ → Row → Row
lowered place row = record { place = if nat_lt place row.place then row.place - 1 else row.place; filter = row.filter; ethertype = row.ethertype }
