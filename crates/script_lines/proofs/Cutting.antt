-- How a text is cut into lines, piece by piece.
use Rattle.std.proofs.Common.{◌≡◌, ◌≢◌, ℕ, zero, suc, ◌+◌, ◌<◌, true, false, Bool, List, [], ◌∷◌, ◌++◌, length, take, drop, refl, ap, ◌∙◌, arith, slice_index, subst}
use Rattle.std.specs.Prelude.{◌==◌, if◌then◌else◌}
use Rattle.std.proofs.lemmas.Bool.{eq-eqb, ne_eqb, eqb-false}
use Rattle.script_lines.specs.Text.{Cut, cut, in_front, lines_of}

-- a byte in front of a cut text, where a test says whether it is a line feed
abbrev with_byte : Bool → ℕ → Cut → Cut
with_byte feed b after = if feed then record { ended = [] ∷ after.ended; rest = after.rest } else in_front b after.ended after.rest

-- a cut text that goes on
abbrev pub going_on : List (List ℕ) → List ℕ → List ℕ → Cut
going_on ended rest more = let after = cut (rest ++ more) in record { ended = ended ++ after.ended; rest = after.rest }

byte-going_on : (feed : Bool) (b : ℕ) (ended : List (List ℕ)) (rest more : List ℕ) → (b == 10) ≡ feed
    → with_byte feed b (going_on ended rest more)
    ≡ (let front = with_byte feed b (record { ended = ended; rest = rest }) in going_on front.ended front.rest more)
byte-going_on true b ended rest more is = refl
byte-going_on false b [] rest more is = rw is refl
byte-going_on false b (line ∷ lines) rest more is = refl

-- a text and what follows it: the lines that it ends, and those that begin with its rest
pub cut-append : (text more : List ℕ) → cut (text ++ more) ≡ going_on (cut text).ended (cut text).rest more
cut-append [] more = refl
cut-append (b ∷ text) more = ap (with_byte (b == 10) b) (cut-append text more) ∙ byte-going_on (b == 10) b (cut text).ended (cut text).rest more refl

-- no line feed below a place
abbrev pub NoFeedBelow : List ℕ → ℕ → Type 0
NoFeedBelow bytes end = (k : ℕ) → k < end → slice_index bytes k ≢ 10

-- the first line ends at the first line feed
pub cut-first : (bytes : List ℕ) (end : ℕ) → end < length bytes → slice_index bytes end ≡ 10 → NoFeedBelow bytes end
    → cut bytes ≡ (let after = cut (drop (suc end) bytes) in record { ended = take end bytes ∷ after.ended; rest = after.rest })
cut-first [] end lt is none = absurd (omega arith)
cut-first (b ∷ bytes) zero lt is none = rw (eq-eqb b 10 is) refl
cut-first (b ∷ bytes) (suc end) lt is none =
    rw (ne_eqb b 10 (none zero (omega arith)), cut-first bytes end (omega arith) is (λ k below. none (suc k) (omega arith))) refl

-- without one there is no line yet
pub cut-none : (bytes : List ℕ) → NoFeedBelow bytes (length bytes) → cut bytes ≡ record { ended = []; rest = bytes }
cut-none [] none = refl
cut-none (b ∷ bytes) none =
    rw (ne_eqb b 10 (none zero (omega arith)), cut-none bytes (λ k below. none (suc k) (omega arith))) refl

none_in_front : (b : ℕ) (bytes : List ℕ) (end : ℕ) → b ≢ 10 → NoFeedBelow bytes end → NoFeedBelow (b ∷ bytes) (suc end)
none_in_front b bytes end differs none zero below = differs
none_in_front b bytes end differs none (suc k) below = none k (omega arith)

-- the rest has none
feeds : (feed : Bool) (b : ℕ) (ended : List (List ℕ)) (rest : List ℕ) → (b == 10) ≡ feed → NoFeedBelow rest (length rest)
    → let c = with_byte feed b (record { ended = ended; rest = rest }) in NoFeedBelow c.rest (length c.rest)
feeds true b ended rest is none = none
feeds false b [] rest is none = none_in_front b rest (length rest) (eqb-false b 10 is) none
feeds false b (line ∷ lines) rest is none = none

pub rest_has_none : (text : List ℕ) → NoFeedBelow (cut text).rest (length (cut text).rest)
rest_has_none [] = λ k below. absurd (omega arith)
rest_has_none (b ∷ text) = feeds (b == 10) b (cut text).ended (cut text).rest refl (rest_has_none text)

-- the first line of a text, and the lines behind it
pub lines-first : (bytes : List ℕ) (end : ℕ) → end < length bytes → slice_index bytes end ≡ 10 → NoFeedBelow bytes end
    → lines_of bytes ≡ take end bytes ∷ lines_of (drop (end + 1) bytes)
lines-first bytes end lt is none =
    let next : suc end ≡ end + 1 = omega arith in
    subst (λ n. lines_of bytes ≡ take end bytes ∷ lines_of (drop n bytes)) next (rw (cut-first bytes end lt is none) refl)

-- a text without a line feed is one line
pub lines-none : (bytes : List ℕ) → 0 < length bytes → NoFeedBelow bytes (length bytes) → lines_of bytes ≡ bytes ∷ []
lines-none [] some none = absurd (omega (arith, some))
lines-none (b ∷ bytes) some none = rw (cut-none (b ∷ bytes) none) refl
