-- The fields of an entry, in the numbers of its first and of its last eight bytes.
use Rattle.std.proofs.Common.{◌≡◌, ℕ, zero, suc, ◌+◌, ◌*◌, ◌/◌, ◌%◌, ◌^◌, ◌<◌, List, [], ◌∷◌, ◌++◌, drop, slice_index, refl, ap, sym, ◌∙◌, arith}
use Rattle.std.specs.Int.{byte_at, bytes_high_first, to_be_bytes, w64}
use Rattle.std.proofs.lemmas.Nat.{div-mul-add, mod-mul-add, mod_below}
use Rattle.byteorder.specs.Endian.{big_number}
use Rattle.byteorder.specs.Numbers.{big_number-reads_back}
use Rattle.tag_view.proofs.Bytes.{bits_within, bytes_within}
use Rattle.vlan_rule.specs.Entry.{entry_of, key_of, number_of}

-- ---- bytes

byte-below : (k n : ℕ) → byte_at k n < 256
byte-below zero n = mod_below n 256 (omega arith)
byte-below (suc k) n = mod_below (n / 256 ^ suc k) 256 (omega arith)

bytes-below : (k n i : ℕ) → slice_index (bytes_high_first k n) i < 256
bytes-below zero n i = omega arith
bytes-below (suc k) n zero = byte-below k n
bytes-below (suc k) n (suc i) = bytes-below k n i

append-below : (xs ys : List ℕ) → ((i : ℕ) → slice_index xs i < 256) → ((i : ℕ) → slice_index ys i < 256) → (i : ℕ) → slice_index (xs ++ ys) i < 256
append-below [] ys first last i = last i
append-below (x ∷ xs) ys first last zero = first zero
append-below (x ∷ xs) ys first last (suc i) = append-below xs ys (λ j. first (suc j)) last i

pub entry-bytes : (key rest i : ℕ) → slice_index (entry_of key rest) i < 256
entry-bytes key rest = append-below (to_be_bytes w64 key) (to_be_bytes w64 rest) (bytes-below 8 key) (bytes-below 8 rest)

-- ---- halves

-- the number of the last eight bytes
abbrev pub rest_of : List ℕ → ℕ
rest_of entry = big_number 8 (drop 8 entry)

pub key-of_entry : (key rest : ℕ) → key < 2 ^ 64 → key_of (entry_of key rest) ≡ key
unfolding key_of
key-of_entry key rest below = big_number-reads_back 8 key (to_be_bytes w64 rest) below

pub rest-of_entry : (key rest : ℕ) → rest < 2 ^ 64 → rest_of (entry_of key rest) ≡ rest
rest-of_entry key rest below =
    let bytes : drop 8 (entry_of key rest) ≡ to_be_bytes w64 rest ++ [] = refl in
    ap (big_number 8) bytes ∙ big_number-reads_back 8 rest [] below

-- a field of the first eight bytes: w bits above the lowest l
pub field-of_key : (entry : List ℕ) (h w l : ℕ) → ((i : ℕ) → slice_index entry i < 256) → 64 ≡ h + w + l
    → number_of entry / 2 ^ (64 + l) % 2 ^ w ≡ key_of entry / 2 ^ l % 2 ^ w
unfolding number_of key_of
field-of_key entry h w l bytes whole =
    let half = bytes_within 0 8 8 16 entry refl bytes in
    let picked = bits_within (big_number 16 entry) 64 h w l in
    sym picked
    ∙ ap (λ (k : ℕ). big_number 16 entry / 2 ^ 64 % 2 ^ k / 2 ^ l % 2 ^ w) (sym whole)
    ∙ ap (λ (k : ℕ). k / 2 ^ l % 2 ^ w) half

-- a field of the last eight bytes
pub field-of_rest : (entry : List ℕ) (h w l : ℕ) → ((i : ℕ) → slice_index entry i < 256) → 64 ≡ h + w + l
    → number_of entry / 2 ^ l % 2 ^ w ≡ rest_of entry / 2 ^ l % 2 ^ w
unfolding number_of
field-of_rest entry h w l bytes whole =
    let half = bytes_within 8 8 0 16 entry refl bytes in
    let picked = bits_within (big_number 16 entry) 0 h w l in
    let place : 0 + l ≡ l = omega arith in
    sym (ap (λ (k : ℕ). big_number 16 entry / 2 ^ k % 2 ^ w) place)
    ∙ sym picked
    ∙ ap (λ (k : ℕ). big_number 16 entry / 2 ^ 0 % 2 ^ k / 2 ^ l % 2 ^ w) (sym whole)
    ∙ ap (λ (k : ℕ). k / 2 ^ l % 2 ^ w) half

-- ---- sums

-- the field that is worth W at most, above what is worth K
pub picked : (n hi W c K lo : ℕ) → n ≡ (hi * W + c) * K + lo → lo < K → c < W → n / K % W ≡ c
picked n hi W c K lo e low fits =
    let above = div-mul-add (hi * W + c) K lo low in
    let below = mod-mul-add hi W c fits in
    rw (e, above, below) refl
