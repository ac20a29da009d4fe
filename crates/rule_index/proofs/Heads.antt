-- The head of a frame by the words that stand in its bytes.
use Rattle.std.proofs.Common.{◌≡◌, ◌<◌, ◌≤◌, ℕ, ◌+◌, ◌/◌, ◌%◌, ◌^◌, ◌==◌, ◌⊎◌, inl, inr, Bool, true, false, List, [], ◌∷◌, length, take, drop, Some, None, Ok, Err, arith, refl, ap, ap₂, ◌∙◌, sym}
use Rattle.std.specs.Prelude.{nat_lt, ◌&&◌}
use Rattle.std.specs.Int.{from_bool}
use Rattle.std.proofs.lemmas.Bool.{cases_lt, le-ltb, lt-ltb}
use Rattle.std.proofs.lemmas.List.{drop-drop}
use Rattle.byteorder.specs.Endian.{big_number}
use Rattle.tag_view.specs.declared.fault.FrameFault.TheVariants.{Runt, CutTag}
use Rattle.tag_view.specs.Tag.{TagFields, is_tag_type}
use Rattle.tag_view.specs.Frame.{Reading, type_at, tag_at, reading_of, fault_of}
use Rattle.tag_view.proofs.Readings.{frame_read, frame_refused, runt_frame}
use Rattle.tag_view.specs.Word.{tag_of}
use Rattle.rule_index.specs.Head.{head_in, head_of, head_read, tags_ahead}

-- ---- behind the addresses

past : (k : ℕ) (bytes : List ℕ) → type_at k (drop 12 bytes) ≡ type_at (12 + k) bytes
past k bytes = ap (λ (xs : List ℕ). big_number 2 xs) (drop-drop k 12 bytes)

tag_past : (k word : ℕ) (bytes : List ℕ) → tag_of word ≡ tag_at (12 + k) bytes → tag_at k (drop 12 bytes) ≡ tag_of word
tag_past k word bytes is =
    let by : ℕ → ℕ → TagFields = λ t c. record { tpid = t; pcp = c / 2 ^ 13; dei = c / 2 ^ 12 % 2 == 1; vid = c % 2 ^ 12 } in
    let place : 12 + (k + 2) ≡ 12 + k + 2 = omega arith in
    ap₂ by (past k bytes) (past (k + 2) bytes ∙ ap (λ (n : ℕ). type_at n bytes) place) ∙ sym is

is_tag_past : (input k n : ℕ) (b : Bool) (bytes : List ℕ) → n ≡ type_at (12 + k) bytes → is_tag_type input n ≡ b → is_tag_type input (type_at k (drop 12 bytes)) ≡ b
is_tag_past input k n b bytes is tag = ap (is_tag_type input) (past k bytes ∙ sym is) ∙ tag

is_tag_at : (input k n : ℕ) (b : Bool) (bytes : List ℕ) → n ≡ type_at k bytes → is_tag_type input n ≡ b → is_tag_type input (type_at k bytes) ≡ b
is_tag_at input k n b bytes is tag = ap (is_tag_type input) (sym is) ∙ tag

-- ---- what is read

pub runt : (input : ℕ) (bytes : List ℕ) → length bytes < 14 → head_read input bytes ≡ Err Runt
runt input bytes few = ap head_in (frame_refused input bytes Runt (runt_frame input bytes few))

long : (bytes : List ℕ) (n : ℕ) → n ≤ length bytes → nat_lt (length bytes) n ≡ false
long bytes n h = le-ltb (length bytes) n h

short : (bytes : List ℕ) (n : ℕ) → length bytes < n → nat_lt (length bytes) n ≡ true
short bytes n h = lt-ltb (length bytes) n h

read : (input : ℕ) (bytes : List ℕ) (reading : Reading) → fault_of input bytes ≡ None → reading_of input bytes ≡ reading → head_read input bytes ≡ Ok (head_of reading)
read input bytes reading whole parts = ap head_in (frame_read input bytes reading whole parts)

pub untagged : (input first : ℕ) (bytes : List ℕ) → 14 ≤ length bytes → first ≡ type_at 12 bytes → is_tag_type input first ≡ false
    → head_read input bytes ≡ Ok (record { tags = []; type = first })
unfolding fault_of
untagged input first bytes h is other =
    read input bytes _ whole parts ∙ ap (λ (n : ℕ). Ok (record { tags = []; type = n })) (sym is)
  where
    whole : fault_of input bytes ≡ None
    whole = rw (long bytes 14 h, is_tag_at input 12 first false bytes is other) refl

    parts : reading_of input bytes ≡ record { addresses = take 12 bytes; tags = []; rest = drop 12 bytes }
    parts = rw (is_tag_past input 0 first false bytes is other) refl

pub cut_one : (input first : ℕ) (bytes : List ℕ) → 14 ≤ length bytes → first ≡ type_at 12 bytes → is_tag_type input first ≡ true
    → length bytes < 18 → head_read input bytes ≡ Err CutTag
unfolding fault_of
cut_one input first bytes h is tag few = ap head_in (frame_refused input bytes CutTag cut)
  where
    cut : fault_of input bytes ≡ Some CutTag
    cut = rw (long bytes 14 h, is_tag_at input 12 first true bytes is tag, short bytes 18 few) refl

pub one_tag : (input first second outer : ℕ) (bytes : List ℕ) → 18 ≤ length bytes → first ≡ type_at 12 bytes → is_tag_type input first ≡ true
    → tag_of outer ≡ tag_at 12 bytes → second ≡ type_at 16 bytes → is_tag_type input second ≡ false
    → head_read input bytes ≡ Ok (record { tags = tag_of outer ∷ []; type = second })
unfolding fault_of
one_tag input first second outer bytes h is tag is_outer is_next other =
    read input bytes _ whole parts ∙ ap (λ (n : ℕ). Ok (record { tags = tag_of outer ∷ []; type = n })) (sym is_next)
  where
    whole : fault_of input bytes ≡ None
    whole = rw (long bytes 14 (omega (arith, h)), is_tag_at input 12 first true bytes is tag, long bytes 18 h, is_tag_at input 16 second false bytes is_next other) refl

    parts : reading_of input bytes ≡ record { addresses = take 12 bytes; tags = tag_of outer ∷ []; rest = drop 16 bytes }
    parts = rw (is_tag_past input 0 first true bytes is tag, is_tag_past input 4 second false bytes is_next other, tag_past 0 outer bytes is_outer) refl

pub cut_two : (input first second : ℕ) (bytes : List ℕ) → 18 ≤ length bytes → first ≡ type_at 12 bytes → is_tag_type input first ≡ true
    → second ≡ type_at 16 bytes → is_tag_type input second ≡ true → length bytes < 22 → head_read input bytes ≡ Err CutTag
unfolding fault_of
cut_two input first second bytes h is tag is_next next few = ap head_in (frame_refused input bytes CutTag cut)
  where
    cut : fault_of input bytes ≡ Some CutTag
    cut = rw (long bytes 14 (omega (arith, h)), is_tag_at input 12 first true bytes is tag, long bytes 18 h, is_tag_at input 16 second true bytes is_next next, short bytes 22 few) refl

pub two_tags : (input first second outer inner type : ℕ) (bytes : List ℕ) → 22 ≤ length bytes → first ≡ type_at 12 bytes → is_tag_type input first ≡ true
    → tag_of outer ≡ tag_at 12 bytes → second ≡ type_at 16 bytes → is_tag_type input second ≡ true
    → tag_of inner ≡ tag_at 16 bytes → type ≡ type_at 20 bytes
    → head_read input bytes ≡ Ok (record { tags = tag_of outer ∷ tag_of inner ∷ []; type = type })
unfolding fault_of
two_tags input first second outer inner type bytes h is tag is_outer is_next next is_inner is_type =
    read input bytes _ whole parts ∙ ap (λ (n : ℕ). Ok (record { tags = tag_of outer ∷ tag_of inner ∷ []; type = n })) (sym is_type)
  where
    whole : fault_of input bytes ≡ None
    whole = rw (long bytes 14 (omega (arith, h)), is_tag_at input 12 first true bytes is tag, long bytes 18 (omega (arith, h)), is_tag_at input 16 second true bytes is_next next, long bytes 22 h) refl

    parts : reading_of input bytes ≡ record { addresses = take 12 bytes; tags = tag_of outer ∷ tag_of inner ∷ []; rest = drop 20 bytes }
    parts = rw (is_tag_past input 0 first true bytes is tag, is_tag_past input 4 second true bytes is_next next, tag_past 0 outer bytes is_outer, tag_past 4 inner bytes is_inner) refl

-- ---- how many tags, found ahead

-- by whether the first and the second type begin a tag
abbrev ahead_by : Bool → Bool → ℕ
ahead_by false second = 0
ahead_by true false = 1
ahead_by true true = 2

by_types : (input : ℕ) (bytes : List ℕ) (first second : Bool) → 22 ≤ length bytes → is_tag_type input (type_at 12 bytes) ≡ first
    → is_tag_type input (type_at 16 bytes) ≡ second → tags_ahead input bytes ≡ ahead_by first second
by_types input bytes false second h a b = rw (long bytes 22 h, is_tag_past input 0 (type_at 12 bytes) false bytes refl a) refl
by_types input bytes true false h a b =
    rw (long bytes 22 h, is_tag_past input 0 (type_at 12 bytes) true bytes refl a, is_tag_past input 4 (type_at 16 bytes) false bytes refl b) refl
by_types input bytes true true h a b =
    rw (long bytes 22 h, is_tag_past input 0 (type_at 12 bytes) true bytes refl a, is_tag_past input 4 (type_at 16 bytes) true bytes refl b) refl

pub counted_ahead : (input : ℕ) (bytes : List ℕ) (first second : Bool) → 22 ≤ length bytes → is_tag_type input (type_at 12 bytes) ≡ first
    → is_tag_type input (type_at 16 bytes) ≡ second → from_bool first + from_bool (first && second) ≡ tags_ahead input bytes
counted_ahead input bytes false second h a b = sym (by_types input bytes false second h a b)
counted_ahead input bytes true false h a b = sym (by_types input bytes true false h a b)
counted_ahead input bytes true true h a b = sym (by_types input bytes true true h a b)

-- both types of a frame that is long enough
pub record AreTypes (input : ℕ) (bytes : List ℕ) (a b : Bool) : Type 0 where
  pub first : is_tag_type input (type_at 12 bytes) ≡ a
  pub second : is_tag_type input (type_at 16 bytes) ≡ b

types_ahead : (input : ℕ) (bytes : List ℕ) (tags : ℕ) → 22 ≤ length bytes → tags ≡ tags_ahead input bytes
    → (first : Bool) × (second : Bool) × AreTypes input bytes first second × (tags ≡ ahead_by first second)
types_ahead input bytes tags h is =
    let first = is_tag_type input (type_at 12 bytes) in
    let second = is_tag_type input (type_at 16 bytes) in
    (first, second, record { first = refl; second = refl }, is ∙ by_types input bytes first second h refl refl)

pub none_ahead : (input : ℕ) (bytes : List ℕ) → 22 ≤ length bytes → 0 ≡ tags_ahead input bytes → is_tag_type input (type_at 12 bytes) ≡ false
none_ahead input bytes h is = by_case _ _ found.2 found.3
  where
    found : (first : Bool) × (second : Bool) × AreTypes input bytes first second × (0 ≡ ahead_by first second)
    found = types_ahead input bytes 0 h is

    by_case : (first second : Bool) → AreTypes input bytes first second → 0 ≡ ahead_by first second → is_tag_type input (type_at 12 bytes) ≡ false
    by_case false second are same = are.first
    by_case true false are same = absurd (let e : ⊥ = cc in e)
    by_case true true are same = absurd (let e : ⊥ = cc in e)

pub one_ahead : (input : ℕ) (bytes : List ℕ) → 22 ≤ length bytes → 1 ≡ tags_ahead input bytes → AreTypes input bytes true false
one_ahead input bytes h is = by_case _ _ found.2 found.3
  where
    found : (first : Bool) × (second : Bool) × AreTypes input bytes first second × (1 ≡ ahead_by first second)
    found = types_ahead input bytes 1 h is

    by_case : (first second : Bool) → AreTypes input bytes first second → 1 ≡ ahead_by first second → AreTypes input bytes true false
    by_case true false are same = are
    by_case false second are same = absurd (let e : ⊥ = cc in e)
    by_case true true are same = absurd (let e : ⊥ = cc in e)

pub two_ahead : (input : ℕ) (bytes : List ℕ) → 22 ≤ length bytes → 2 ≡ tags_ahead input bytes → AreTypes input bytes true true
two_ahead input bytes h is = by_case _ _ found.2 found.3
  where
    found : (first : Bool) × (second : Bool) × AreTypes input bytes first second × (2 ≡ ahead_by first second)
    found = types_ahead input bytes 2 h is

    by_case : (first second : Bool) → AreTypes input bytes first second → 2 ≡ ahead_by first second → AreTypes input bytes true true
    by_case true true are same = are
    by_case false second are same = absurd (let e : ⊥ = cc in e)
    by_case true false are same = absurd (let e : ⊥ = cc in e)

-- a number of tags says that the frame is long enough
pub long_ahead : (input : ℕ) (bytes : List ℕ) (tags : ℕ) → tags ≤ 2 → tags ≡ tags_ahead input bytes → 22 ≤ length bytes
long_ahead input bytes tags few is = by_case (cases_lt (length bytes) 22)
  where
    by_case : (length bytes < 22) ⊎ (22 ≤ length bytes) → 22 ≤ length bytes
    by_case (inl less) = absurd (let e : tags ≡ 128 = is ∙ rw (short bytes 22 less) refl in omega (arith, few, e))
    by_case (inr more) = more
