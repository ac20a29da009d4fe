-- Tags and their words: each is the other's inverse, the word is the number of the four bytes, and AND
-- and OR of words are those of the tags, field by field.
use Rattle.std.proofs.Common.{◌≡◌, ◌<◌, ◌≤◌, ℕ, ◌+◌, ◌*◌, ◌/◌, ◌%◌, ◌^◌, Bool, true, false, ◌&&◌, ◌||◌, if◌then◌else◌, ◌==◌, List, [], ◌∷◌, ◌++◌, length, drop, slice_index, length-drop, arith, refl, ap, sym, ◌∙◌, bit_and, bit_or}
use Rattle.std.proofs.lemmas.Nat.{and_block, or_block}
use Rattle.std.proofs.lemmas.Bool.{eq-eqb, ne_eqb}
use Rattle.std.proofs.lemmas.List.{drop-drop, get_or-drop}
use Rattle.byteorder.specs.Endian.{big_bytes, big_number}
use Rattle.byteorder.specs.Numbers.{big_from-lt}
use Rattle.tag_view.specs.Tag.{TagFields, IsInRange, control_of, tag_bytes}
use Rattle.tag_view.specs.Frame.{tag_at, type_at}
use Rattle.tag_view.specs.Word.{tag_of, word_of}
use Rattle.tag_view.specs.Packed.{bit_back}
use Rattle.tag_view.proofs.Tags.{control-lt, same_fields}

-- The fields below the TPID fit. Nothing has to be known of the TPID, which stands highest.
pub record IsLow (tag : TagFields) : Type 0 where
  pub pcp : tag.pcp < 2 ^ 3
  pub vid : tag.vid < 2 ^ 12

pub low : (tag : TagFields) → IsInRange tag → IsLow tag
low tag h = record { pcp = h.pcp; vid = h.vid }

-- ---- from a tag to its word and back

pub word_back : (tag : TagFields) → IsLow tag → tag_of (word_of tag) ≡ tag
word_back tag h = back tag.tpid tag.pcp tag.vid tag.dei h.pcp h.vid
  where
    back : (t p v : ℕ) (dei : Bool) → p < 2 ^ 3 → v < 2 ^ 12
        → tag_of (word_of (record { tpid = t; pcp = p; dei = dei; vid = v })) ≡ record { tpid = t; pcp = p; dei = dei; vid = v }
    back t p v true hp hv = same_fields _ _ _ _ _ _ _ _ (omega arith) (omega arith) (eq-eqb _ _ (omega arith)) (omega arith)
    back t p v false hp hv = same_fields _ _ _ _ _ _ _ _ (omega arith) (omega arith) (ne_eqb _ _ (λ e. omega arith)) (omega arith)

pub word_is_back : (tag : TagFields) (word : ℕ) → IsLow tag → word ≡ word_of tag → tag_of word ≡ tag
word_is_back tag word h is = ap tag_of is ∙ word_back tag h

-- the word of a tag has 32 bits, and what 32 bits are is a tag
pub word_range : (tag : TagFields) → IsInRange tag → word_of tag < 2 ^ 32
word_range tag h =
    let low : control_of tag < 2 ^ 16 = control-lt tag h in
    high tag.tpid (control_of tag) h.tpid low
  where
    high : (t n : ℕ) → t < 2 ^ 16 → n < 2 ^ 16 → t * 2 ^ 16 + n < 2 ^ 32
    high t n ht hn = omega arith

pub tag_range : (word : ℕ) → word < 2 ^ 32 → IsInRange (tag_of word)
tag_range word h = record { tpid = omega arith; pcp = omega arith; vid = omega arith }

-- ---- words and bytes

-- the word of the tag at a place, by the two numbers of sixteen bits there
pub word_at : (place : ℕ) (bytes : List ℕ) → word_of (tag_at place bytes) ≡ type_at place bytes * 2 ^ 16 + type_at (place + 2) bytes
word_at place bytes = joined (type_at place bytes) (type_at (place + 2) bytes)
  where
    joined : (t n : ℕ) → t * 2 ^ 16 + (n / 2 ^ 13 * 2 ^ 13 + (if n / 2 ^ 12 % 2 == 1 then 1 else 0) * 2 ^ 12 + n % 2 ^ 12) ≡ t * 2 ^ 16 + n
    joined t n =
        let e : (if n / 2 ^ 12 % 2 == 1 then 1 else 0) ≡ n / 2 ^ 12 % 2 = bit_back (n / 2 ^ 12 % 2) (omega arith) in
        rw e (omega arith)

-- four bytes read at once are the word of the tag that they are read as
pub four_at_once : (bytes : List ℕ) → 4 ≤ length bytes → big_number 4 bytes ≡ word_of (tag_at 0 bytes)
four_at_once [] long = absurd (omega arith)
four_at_once (a ∷ []) long = absurd (omega arith)
four_at_once (a ∷ b ∷ []) long = absurd (omega arith)
four_at_once (a ∷ b ∷ c ∷ []) long = absurd (omega arith)
four_at_once (a ∷ b ∷ c ∷ d ∷ rest) long = rw (word_at 0 (a ∷ b ∷ c ∷ d ∷ rest)) (omega arith)

pub four_at : (place : ℕ) (bytes : List ℕ) → place + 4 ≤ length bytes → big_number 4 (drop place bytes) ≡ word_of (tag_at place bytes)
four_at place bytes long =
    let behind : 4 ≤ length (drop place bytes) = rw (length-drop place bytes) (omega arith) in
    four_at_once (drop place bytes) behind
    ∙ (word_at 0 (drop place bytes) ∙ (rw (drop-drop 2 place bytes) (sym (word_at place bytes))))

-- and they are read as the tag of that word
pub read_word : (place : ℕ) (bytes : List ℕ) → place + 4 ≤ length bytes → ((i : ℕ) → slice_index bytes i < 256)
    → tag_of (big_number 4 (drop place bytes)) ≡ tag_at place bytes
read_word place bytes long fits =
    ap tag_of (four_at place bytes long) ∙ word_back (tag_at place bytes) (record { pcp = omega (arith, control); vid = omega arith })
  where
    control : type_at (place + 2) bytes < 2 ^ 16
    control =
        let number = big_from-lt 0 2 (drop (place + 2) bytes) (λ i. rw (get_or-drop (place + 2) bytes i 0) (fits (place + 2 + i))) in
        omega (arith, number)

-- the bytes of a tag are those of its word
pub bytes_of_word : (tag : TagFields) → IsInRange tag → tag_bytes tag ≡ big_bytes 4 (word_of tag)
bytes_of_word tag h = four tag.tpid (control_of tag) (control-lt tag h)
  where
    four_bytes : (a b c d a' b' c' d' : ℕ) → a ≡ a' → b ≡ b' → c ≡ c' → d ≡ d' → (a ∷ b ∷ c ∷ d ∷ []) ≡ (a' ∷ b' ∷ c' ∷ d' ∷ [])
    four_bytes a b c d a' b' c' d' e f g h = rw (e, f, g, h) refl

    four : (t n : ℕ) → n < 2 ^ 16 → big_bytes 2 t ++ big_bytes 2 n ≡ big_bytes 4 (t * 2 ^ 16 + n)
    four t n h = four_bytes _ _ _ _ _ _ _ _ (omega arith) (omega arith) (omega arith) (omega arith)

-- ---- AND and OR, field by field

abbrev pub both : TagFields → TagFields → TagFields
both a b = record { tpid = bit_and a.tpid b.tpid; pcp = bit_and a.pcp b.pcp; dei = a.dei && b.dei; vid = bit_and a.vid b.vid }

abbrev pub either : TagFields → TagFields → TagFields
either a b = record { tpid = bit_or a.tpid b.tpid; pcp = bit_or a.pcp b.pcp; dei = a.dei || b.dei; vid = bit_or a.vid b.vid }

-- an operation that goes bit by bit
abbrev Bitwise : (ℕ → ℕ → ℕ) → Type 0
Bitwise op = (k a b r s : ℕ) → r < 2 ^ k → s < 2 ^ k → op (a * 2 ^ k + r) (b * 2 ^ k + s) ≡ op a b * 2 ^ k + op r s

spread : (t p d v : ℕ) → t * 2 ^ 16 + (p * 2 ^ 13 + d * 2 ^ 12 + v) ≡ ((t * 2 ^ 3 + p) * 2 ^ 1 + d) * 2 ^ 12 + v
spread t p d v = omega arith

by_fields : (op : ℕ → ℕ → ℕ) → Bitwise op → (t p d v t' p' d' v' : ℕ) → p < 2 ^ 3 → d < 2 ^ 1 → v < 2 ^ 12 → p' < 2 ^ 3 → d' < 2 ^ 1 → v' < 2 ^ 12
    → op (t * 2 ^ 16 + (p * 2 ^ 13 + d * 2 ^ 12 + v)) (t' * 2 ^ 16 + (p' * 2 ^ 13 + d' * 2 ^ 12 + v'))
    ≡ op t t' * 2 ^ 16 + (op p p' * 2 ^ 13 + op d d' * 2 ^ 12 + op v v')
by_fields op block t p d v t' p' d' v' hp hd hv hp' hd' hv' =
    rw (spread t p d v, spread t' p' d' v', block 12 _ _ v v' hv hv', block 1 _ _ d d' hd hd', block 3 t t' p p' hp hp')
    (omega arith)

digit_lt : (b : Bool) → (if b then 1 else 0) < 2 ^ 1
digit_lt true = omega arith
digit_lt false = omega arith

digit_and : (a b : Bool) → bit_and (if a then 1 else 0) (if b then 1 else 0) ≡ (if a && b then 1 else 0)
digit_and true true = refl
digit_and true false = refl
digit_and false true = refl
digit_and false false = refl

digit_or : (a b : Bool) → bit_or (if a then 1 else 0) (if b then 1 else 0) ≡ (if a || b then 1 else 0)
digit_or true true = refl
digit_or true false = refl
digit_or false true = refl
digit_or false false = refl

pub and-words : (a b : TagFields) → IsLow a → IsLow b → bit_and (word_of a) (word_of b) ≡ word_of (both a b)
and-words a b ha hb =
    by_fields bit_and and_block a.tpid a.pcp _ a.vid b.tpid b.pcp _ b.vid ha.pcp (digit_lt a.dei) ha.vid hb.pcp (digit_lt b.dei) hb.vid
    ∙ rw (digit_and a.dei b.dei) refl

pub or-words : (a b : TagFields) → IsLow a → IsLow b → bit_or (word_of a) (word_of b) ≡ word_of (either a b)
or-words a b ha hb =
    by_fields bit_or or_block a.tpid a.pcp _ a.vid b.tpid b.pcp _ b.vid ha.pcp (digit_lt a.dei) ha.vid hb.pcp (digit_lt b.dei) hb.vid
    ∙ rw (digit_or a.dei b.dei) refl
