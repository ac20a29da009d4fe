-- A frame by its values.
use Rattle.std.specs.Prelude.{ℕ, ◌-◌, List, [], ◌∷◌, ◌++◌, if◌then◌else◌, max, min, nat_lt, replicate, take}
use Rattle.std.specs.Int.{to_be_bytes, w16, w64}
use Rattle.std.specs.List.{flat_map}
use Rattle.frame_rows.specs.declared.field.Field.TheVariants.{Length}
use Rattle.frame_rows.specs.declared.field.Values.{Values}
use Rattle.frame_rows.specs.Field.{counted_length, value_at}
use Rattle.frame_rows.specs.Words.{words_by}

-- how many bytes a frame with these values has, of those with at least so many: one that a link carries, where its length is free
abbrev pub frame_length : Values → ℕ → ℕ
frame_length values least = if nat_lt (value_at Length values) counted_length then value_at Length values else max 60 least

-- the addresses, each administered locally, the words, and a number behind them
abbrev pub head_by : Values → ℕ → List ℕ
head_by values number =
    (2 ∷ 0 ∷ 0 ∷ 0 ∷ 0 ∷ 1 ∷ 2 ∷ 0 ∷ 0 ∷ 0 ∷ 0 ∷ 2 ∷ []) ++ (flat_map (to_be_bytes w16) (words_by values) ++ to_be_bytes w64 number)

abbrev pub frame_by : Values → ℕ → ℕ → List ℕ
frame_by values least number =
    let length = frame_length values least in take (min length 32) (head_by values number) ++ replicate (length - 32) 0
