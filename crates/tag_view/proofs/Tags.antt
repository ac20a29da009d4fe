-- Tags and their bytes.
use Rattle.std.proofs.Common.{◌≡◌, ◌<◌, ◌≤◌, ℕ, ◌+◌, ◌*◌, ◌/◌, ◌%◌, ◌^◌, Bool, true, false, if◌then◌else◌, ◌==◌, List, [], ◌∷◌, ◌++◌, length, drop, arith, refl, ap, ◌∙◌}
use Rattle.std.specs.Prelude.{All}
use Rattle.std.proofs.lemmas.Bool.{eq-eqb, ne_eqb}
use Rattle.tag_view.specs.Tag.{TagFields, IsInRange, control_of, tag_bytes}
use Rattle.tag_view.specs.Frame.{type_at, tag_at}
use Rattle.tag_view.specs.Packed.{bit_back}

-- ---- from bytes to a tag and back

-- what sixteen bits say is spelled by them
control_back : (type n : ℕ) → control_of (record { tpid = type; pcp = n / 2 ^ 13; dei = n / 2 ^ 12 % 2 == 1; vid = n % 2 ^ 12 }) ≡ n
control_back type n =
    let e : (if n / 2 ^ 12 % 2 == 1 then 1 else 0) ≡ n / 2 ^ 12 % 2 = bit_back (n / 2 ^ 12 % 2) (omega arith) in
    rw e (omega arith)

-- two bytes are those of their number
high_byte : (a b : ℕ) → a < 2 ^ 8 → b < 2 ^ 8 → (a * 256 + (b * 1 + 0)) / 256 % 256 ≡ a
high_byte a b ha hb = omega arith

low_byte : (a b : ℕ) → a < 2 ^ 8 → b < 2 ^ 8 → (a * 256 + (b * 1 + 0)) % 256 ≡ b
low_byte a b ha hb = omega arith

-- four bytes are spelled by the tag that they are read as
pub tag_spelled : (xs : List ℕ) → 4 ≤ length xs → All (λ b. b < 2 ^ 8) xs → tag_bytes (tag_at 0 xs) ++ drop 4 xs ≡ xs
tag_spelled [] short bytes = absurd (omega arith)
tag_spelled (a ∷ []) short bytes = absurd (omega arith)
tag_spelled (a ∷ b ∷ []) short bytes = absurd (omega arith)
tag_spelled (a ∷ b ∷ c ∷ []) short bytes = absurd (omega arith)
tag_spelled (a ∷ b ∷ c ∷ d ∷ ys) long bytes =
    let ha : a < 2 ^ 8 = bytes 0 0 (omega arith) in
    let hb : b < 2 ^ 8 = bytes 1 0 (omega arith) in
    let hc : c < 2 ^ 8 = bytes 2 0 (omega arith) in
    let hd : d < 2 ^ 8 = bytes 3 0 (omega arith) in
    rw (control_back (a * 256 + (b * 1 + 0)) (c * 256 + (d * 1 + 0)), high_byte a b ha hb, low_byte a b ha hb, high_byte c d hc hd, low_byte c d hc hd) refl

-- four bytes are read as a tag whose fields fit
pub tag_in_range : (xs : List ℕ) → 4 ≤ length xs → All (λ b. b < 2 ^ 8) xs → IsInRange (tag_at 0 xs)
tag_in_range [] short bytes = absurd (omega arith)
tag_in_range (a ∷ []) short bytes = absurd (omega arith)
tag_in_range (a ∷ b ∷ []) short bytes = absurd (omega arith)
tag_in_range (a ∷ b ∷ c ∷ []) short bytes = absurd (omega arith)
tag_in_range (a ∷ b ∷ c ∷ d ∷ ys) long bytes =
    let ha : a < 2 ^ 8 = bytes 0 0 (omega arith) in
    let hb : b < 2 ^ 8 = bytes 1 0 (omega arith) in
    let hc : c < 2 ^ 8 = bytes 2 0 (omega arith) in
    let hd : d < 2 ^ 8 = bytes 3 0 (omega arith) in
    record { tpid = omega arith; pcp = omega arith; vid = omega arith }

-- ---- from a tag to bytes and back

-- sixteen bits are those of their two bytes
two_bytes : (n : ℕ) → n < 2 ^ 16 → n / 256 % 256 * 256 + (n % 256 * 1 + 0) ≡ n
two_bytes n h = omega arith

pub control-lt : (tag : TagFields) → IsInRange tag → control_of tag < 2 ^ 16
control-lt tag h = below tag.pcp tag.vid tag.dei h.pcp h.vid
  where
    below : (p v : ℕ) (dei : Bool) → p < 2 ^ 3 → v < 2 ^ 12 → p * 2 ^ 13 + (if dei then 1 else 0) * 2 ^ 12 + v < 2 ^ 16
    below p v true hp hv = omega arith
    below p v false hp hv = omega arith

-- the fields in sixteen bits
fields_back : (type p v : ℕ) (dei : Bool) → p < 2 ^ 3 → v < 2 ^ 12 →
    let n = control_of (record { tpid = type; pcp = p; dei = dei; vid = v }) in (n / 2 ^ 13 ≡ p) × ((n / 2 ^ 12 % 2 == 1) ≡ dei) × (n % 2 ^ 12 ≡ v)
fields_back type p v true hp hv = (omega arith, eq-eqb _ _ (omega arith), omega arith)
fields_back type p v false hp hv = (omega arith, ne_eqb _ _ (λ e. omega arith), omega arith)

pub same_fields : (type p v type' p' v' : ℕ) (dei dei' : Bool) → type' ≡ type → p' ≡ p → dei' ≡ dei → v' ≡ v →
    let tag : TagFields = record { tpid = type'; pcp = p'; dei = dei'; vid = v' } in tag ≡ record { tpid = type; pcp = p; dei = dei; vid = v }
same_fields type p v type' p' v' dei dei' e f g h = rw (e, f, g, h) refl

-- the bytes of a tag are read as it
pub tag_read : (tag : TagFields) (ys : List ℕ) → IsInRange tag → tag_at 0 (tag_bytes tag ++ ys) ≡ tag
tag_read tag ys h =
    let n = control_of tag in
    let back : n / 256 % 256 * 256 + (n % 256 * 1 + 0) ≡ n = two_bytes n (control-lt tag h) in
    let fields = fields_back tag.tpid tag.pcp tag.vid tag.dei h.pcp h.vid in
    same_fields tag.tpid tag.pcp tag.vid _ _ _ tag.dei _ (two_bytes tag.tpid h.tpid)
    (ap (λ (x : ℕ). x / 2 ^ 13) back ∙ fields.0) (ap (λ (x : ℕ). x / 2 ^ 12 % 2 == 1) back ∙ fields.1) (ap (λ (x : ℕ). x % 2 ^ 12) back ∙ fields.2)

pub type_read : (tag : TagFields) (ys : List ℕ) → IsInRange tag → type_at 0 (tag_bytes tag ++ ys) ≡ tag.tpid
type_read tag ys h = two_bytes tag.tpid h.tpid
