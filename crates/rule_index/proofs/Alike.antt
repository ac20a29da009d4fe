-- Entries of one key are for the same frames.
use Rattle.std.proofs.Common.{◌≡◌, ◌==◌, ℕ, suc, ◌+◌, ◌-◌, ◌*◌, ◌/◌, ◌%◌, ◌^◌, ◌<◌, cond, List, [], ◌∷◌, ◌++◌, length, get_or, slice_index, refl, ap, ap₂, sym, ◌∙◌, arith}
use Rattle.byteorder.specs.Endian.{big_number}
use Rattle.vlan_rule.specs.declared.layout.Field.{Field}
use Rattle.vlan_rule.specs.Entry.{filter_ethertype, filter_inner, filter_outer, key_of, kind_of, number_of, value_of}
use Rattle.vlan_rule.specs.Meaning.{ethertype_of, filter_of, rank_number, rank_of}
use Rattle.tag_view.proofs.Bytes.{bits_within, bytes_within}
use Rattle.rule_index.specs.declared.row.Row.{Row}
use Rattle.rule_index.specs.Order.{row_of, rows_from, rows_of, IsAlike}

-- a field of the first two words is one of the key, the field above the lowest k bits and below the highest h
by_key : (h k : ℕ) (at : Field) (entry : List ℕ) → ((i : ℕ) → slice_index entry i < 256) → 32 * (4 - at.word) + at.low ≡ 64 + k → h + (at.high + 1 - at.low) + k ≡ 64
    → value_of at entry ≡ key_of entry / 2 ^ k % 2 ^ (at.high + 1 - at.low)
unfolding value_of number_of key_of
by_key h k at entry fits place whole =
    let w = at.high + 1 - at.low in
    let n = big_number 16 entry in
    ap (λ (p : ℕ). n / 2 ^ p % 2 ^ w) place
    ∙ sym (bits_within n 64 h w k)
    ∙ ap (λ (p : ℕ). n / 2 ^ 64 % 2 ^ p / 2 ^ k % 2 ^ w) whole
    ∙ ap (λ (m : ℕ). m / 2 ^ k % 2 ^ w) (bytes_within 0 8 8 16 entry refl fits)

one_value : (h k : ℕ) (at : Field) (a b : List ℕ) → ((i : ℕ) → slice_index a i < 256) → ((i : ℕ) → slice_index b i < 256)
    → 32 * (4 - at.word) + at.low ≡ 64 + k → h + (at.high + 1 - at.low) + k ≡ 64 → key_of a ≡ key_of b → value_of at a ≡ value_of at b
one_value h k at a b fits_a fits_b place whole same =
    by_key h k at a fits_a place whole ∙ ap (λ n. n / 2 ^ k % 2 ^ (at.high + 1 - at.low)) same ∙ sym (by_key h k at b fits_b place whole)

pub alike : (a b : List ℕ) → ((i : ℕ) → slice_index a i < 256) → ((i : ℕ) → slice_index b i < 256) → key_of a ≡ key_of b → IsAlike a b
unfolding filter_of ethertype_of rank_of kind_of
alike a b fits_a fits_b same =
    let o0 = one_value 0 60 filter_outer.priority a b fits_a fits_b refl refl same in
    let o1 = one_value 4 47 filter_outer.vid a b fits_a fits_b refl refl same in
    let o2 = one_value 17 44 filter_outer.tpid a b fits_a fits_b refl refl same in
    let i0 = one_value 32 28 filter_inner.priority a b fits_a fits_b refl refl same in
    let i1 = one_value 36 15 filter_inner.vid a b fits_a fits_b refl refl same in
    let i2 = one_value 49 12 filter_inner.tpid a b fits_a fits_b refl refl same in
    let t = one_value 60 0 filter_ethertype a b fits_a fits_b refl refl same in
    record {
      filter = rw (o0, o1, o2, i0, i1, i2) refl;
      ethertype = rw t refl;
      rank = rw (same, o0, i0) refl;
    }

rows_from-alike : (rank n : ℕ) (xs ys : List (List ℕ)) → length xs ≡ length ys → ((k : ℕ) → k < length xs → IsAlike (get_or xs k []) (get_or ys k [])) → rows_from rank n xs ≡ rows_from rank n ys
unfolding rows_from
rows_from-alike rank n [] [] long each = refl
rows_from-alike rank n [] (y ∷ ys) long each = absurd (omega arith)
rows_from-alike rank n (x ∷ xs) [] long each = absurd (omega arith)
rows_from-alike rank n (x ∷ xs) (y ∷ ys) long each =
    let rest = rows_from-alike rank (n + 1) xs ys (omega arith) (λ k h. each (suc k) (omega arith)) in
    let first = each 0 (omega arith) in
    let row : row_of n x ≡ row_of n y = λ i. record { place = n; filter = first.filter i; ethertype = first.ethertype i } in
    ap₂ (λ (r : Row) (rows : List Row). cond (rank_number (rank_of x) == rank) (r ∷ rows) rows) row rest
    ∙ ap (λ k. cond (rank_number k == rank) (row_of n y ∷ rows_from rank (n + 1) ys) (rows_from rank (n + 1) ys)) first.rank

pub rows_of-alike : (xs ys : List (List ℕ)) → length xs ≡ length ys → ((k : ℕ) → k < length xs → IsAlike (get_or xs k []) (get_or ys k [])) → rows_of xs ≡ rows_of ys
unfolding rows_of
rows_of-alike xs ys long each =
    ap₂ (λ (a b : List Row). a ++ b) (rows_from-alike 0 0 xs ys long each)
    (ap₂ (λ (a b : List Row). a ++ b) (rows_from-alike 1 0 xs ys long each) (rows_from-alike 2 0 xs ys long each))
