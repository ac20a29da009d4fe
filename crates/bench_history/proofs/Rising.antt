-- Words of a line, one behind the other, and the numbers that they name.
use Rattle.std.proofs.Common.{◌≡◌, ℕ, ◌+◌, ◌<◌, Bool, true, false, cond, List, [], ◌∷◌, length, take, drop, refl, ap, sym, ◌∙◌, arith, Bor, Option, Some, None, IfSome, MatchOption, ◌||◌, inl, inr}
use Rattle.std.specs.Prelude.{◌==◌, nat_le, nat_lt, position, if◌then◌else◌}
use Rattle.std.specs.List.{position_or_len}
use Rattle.std.specs.Option.{is_some, option_and_then, option_map, unwrap_or}
use Rattle.std.proofs.lemmas.Bool.{and_from, le-leb, ltb-false, ltb-true, or_left, or_right}
use Rattle.std.proofs.lemmas.List.Splits.{slice_split_first, slice_split_none}
use Rattle.std.proofs.lemmas.List.Sums.{fails_before_first}
use Rattle.bench_history.specs.Among.{IsFirstWord, are_in_order, ascend_from, left_in, numbers_from, numbers_in, words_of}
use Rattle.bench_history.specs.Words.{number_of}

-- the numbers of the words that are left, if they ascend from one on
abbrev pub numbers_left : ℕ → Option (Bor (List ℕ)) → Option (List ℕ)
numbers_left least (Some text) = numbers_from least (words_of text.now)
numbers_left least None = Some []

-- how many characters are left, and one for the word
abbrev pub characters_left : Option (Bor (List ℕ)) → ℕ
characters_left (Some text) = length text.now + 1
characters_left None = 0

pub fewer : (rest behind : Option (Bor (List ℕ))) (words : Bor (List ℕ)) → rest ≡ Some words
    → IfSome behind (λ b. length b.now < length words.now) → characters_left behind < characters_left rest
fewer rest (Some b) words is short = rw is (omega (arith, short))
fewer rest None words is short = rw is (omega arith)

-- ---- words

-- where the first space stands, by a test that there is one
abbrev place_by : Bool → List ℕ → Option ℕ
place_by within text = cond within (Some (position_or_len (λ b. b == 32) text)) None

first_by : (text : List ℕ) (space : ℕ) (within : Bool) → nat_lt (position_or_len (λ b. b == 32) text) (length text) ≡ within
    → Some space ≡ place_by within text → words_of text ≡ take space text ∷ words_of (drop (space + 1) text)
first_by text space true lt is =
    let at : space ≡ position_or_len (λ b. b == 32) text = cc is in
    rw at (slice_split_first (λ b. b == 32) text 0 (ltb-true (position_or_len (λ b. b == 32) text) (length text) lt))
first_by text space false lt is = cc is

-- behind the first word stand those behind its space
pub first_word : (text : List ℕ) (space : ℕ) → Some space ≡ position (λ b. b == 32) text
    → words_of text ≡ take space text ∷ words_of (drop (space + 1) text)
first_word text space is = first_by text space (nat_lt (position_or_len (λ b. b == 32) text) (length text)) refl is

only_by : (text : List ℕ) (within : Bool) → nat_lt (position_or_len (λ b. b == 32) text) (length text) ≡ within
    → None ≡ place_by within text → words_of text ≡ text ∷ []
only_by text true lt is = cc is
only_by text false lt is =
    let long = ltb-false (position_or_len (λ b. b == 32) text) (length text) lt in
    slice_split_none (λ b. b == 32) text (λ k d below. fails_before_first (λ b. b == 32) text k d (omega arith))

-- without a space there is one word
pub only_word : (text : List ℕ) → None ≡ position (λ b. b == 32) text → words_of text ≡ text ∷ []
only_word text is = only_by text (nat_lt (position_or_len (λ b. b == 32) text) (length text)) refl is

-- ---- numbers

-- the numbers of words, by that of the first
abbrev pub from_first : ℕ → Option ℕ → List (List ℕ) → Option (List ℕ)
from_first least number words =
    option_and_then (λ n. if nat_le least n then option_map (λ more. n ∷ more) (numbers_from (n + 1) words) else None) number

lower_first : (least n : ℕ) (within : Bool) (behind : Option (List ℕ)) (numbers : List ℕ)
    → cond within (option_map (λ more. n ∷ more) behind) None ≡ Some numbers
    → cond (nat_le 0 n) (option_map (λ more. n ∷ more) behind) None ≡ Some numbers
lower_first least n true behind numbers is = rw (le-leb 0 n (omega arith)) is
lower_first least n false behind numbers is = cc is

lower_by : (least : ℕ) (number : Option ℕ) (words : List (List ℕ)) (numbers : List ℕ)
    → from_first least number words ≡ Some numbers → from_first 0 number words ≡ Some numbers
lower_by least None words numbers is = cc is
lower_by least (Some n) words numbers is = lower_first least n (nat_le least n) (numbers_from (n + 1) words) numbers is

-- numbers that ascend from one on ascend from 0 on
lower : (least : ℕ) (words : List (List ℕ)) (numbers : List ℕ) → numbers_from least words ≡ Some numbers → numbers_from 0 words ≡ Some numbers
lower least [] numbers is = is
lower least (word ∷ words) numbers is = lower_by least (number_of word) words numbers is

-- the first of numbers, and those of the words behind it
pub record IsTaken (word : List ℕ) (words : List (List ℕ)) (numbers : List ℕ) : Type 0 where
  pub n : ℕ
  pub more : List ℕ
  pub number : number_of word ≡ Some n
  pub others : numbers_from 0 words ≡ Some more
  pub is : numbers ≡ n ∷ more

taken_by : (word : List ℕ) (words : List (List ℕ)) (numbers : List ℕ) (n : ℕ) → number_of word ≡ Some n
    → (within : Bool) (behind : Option (List ℕ)) → numbers_from (n + 1) words ≡ behind
    → cond within (option_map (λ more. n ∷ more) behind) None ≡ Some numbers → IsTaken word words numbers
taken_by word words numbers n number true (Some more) behind is =
    let same : n ∷ more ≡ numbers = cc is in
    record { n = n; more = more; number = number; others = lower (n + 1) words more behind; is = sym same }
taken_by word words numbers n number true None behind is = cc is
taken_by word words numbers n number false behind same is = cc is

taken_first : (word : List ℕ) (words : List (List ℕ)) (numbers : List ℕ) (number : Option ℕ) → number_of word ≡ number
    → from_first 0 number words ≡ Some numbers → IsTaken word words numbers
taken_first word words numbers None name is = cc is
taken_first word words numbers (Some n) name is =
    taken_by word words numbers n name (nat_le 0 n) (numbers_from (n + 1) words) refl is

pub taken : (word : List ℕ) (words : List (List ℕ)) (numbers : List ℕ) → numbers_from 0 (word ∷ words) ≡ Some numbers → IsTaken word words numbers
taken word words numbers is = taken_first word words numbers (number_of word) refl is

-- the numbers of words ascend
risen_on : (least n : ℕ) (words : List (List ℕ)) (numbers : List ℕ) → ((more : List ℕ) → numbers_from (n + 1) words ≡ Some more → ascend_from (n + 1) more ≡ true)
    → (from : Bool) → nat_le least n ≡ from → (o : Option (List ℕ)) → numbers_from (n + 1) words ≡ o
    → cond from (option_map (λ more. n ∷ more) o) None ≡ Some numbers → (ascend_from least numbers ≡ true) × (are_in_order numbers ≡ true)
risen_on least n words numbers behind true le (Some more) read is =
    let same : n ∷ more ≡ numbers = cc is in
    let rise = behind more read in (
      ap (λ (ns : List ℕ). ascend_from least ns) (sym same) ∙ and_from (nat_le least n) (ascend_from (n + 1) more) le rise,
      ap (λ (ns : List ℕ). are_in_order ns) (sym same) ∙ rise,
    )
risen_on least n words numbers behind true le None read is = cc is
risen_on least n words numbers behind false le o read is = cc is

risen_by : (least : ℕ) (words : List (List ℕ)) (numbers : List ℕ) (o : Option ℕ)
    → ((n : ℕ) (more : List ℕ) → numbers_from (n + 1) words ≡ Some more → ascend_from (n + 1) more ≡ true)
    → from_first least o words ≡ Some numbers → (ascend_from least numbers ≡ true) × (are_in_order numbers ≡ true)
risen_by least words numbers None behind is = cc is
risen_by least words numbers (Some n) behind is = risen_on least n words numbers (behind n) (nat_le least n) refl (numbers_from (n + 1) words) refl is

risen : (least : ℕ) (words : List (List ℕ)) (numbers : List ℕ) → numbers_from least words ≡ Some numbers → ascend_from least numbers ≡ true
risen least [] numbers is =
    let none : [] ≡ numbers = cc is in
    ap (λ (ns : List ℕ). ascend_from least ns) (sym none)
risen least (word ∷ words) numbers is = (risen_by least words numbers (number_of word) (λ n more read. risen (n + 1) words more read) is).0

some_risen : (word : List ℕ) (words : List (List ℕ)) (numbers : List ℕ) → numbers_from 0 (word ∷ words) ≡ Some numbers → are_in_order numbers ≡ true
some_risen word words numbers is = (risen_by 0 words numbers (number_of word) (λ n more read. risen (n + 1) words more read) is).1

order_by : (text numbers : List ℕ) (o : Option ℕ) → o ≡ position (λ b. b == 32) text → numbers_in text ≡ Some numbers → are_in_order numbers ≡ true
order_by text numbers (Some space) at is =
    some_risen (take space text) (words_of (drop (space + 1) text)) numbers
    (ap (λ (ws : List (List ℕ)). numbers_from 0 ws) (sym (first_word text space at)) ∙ is)
order_by text numbers None at is = some_risen text [] numbers (ap (λ (ws : List (List ℕ)). numbers_from 0 ws) (sym (only_word text at)) ∙ is)

-- the numbers of a text are one or more, and ascend
pub in_order : (text numbers : List ℕ) → numbers_in text ≡ Some numbers → are_in_order numbers ≡ true
in_order text numbers is = order_by text numbers (position (λ b. b == 32) text) refl is

pub some_of : {A : Type 0} (o : Option (List A)) → is_some o ≡ true → o ≡ Some (unwrap_or o [])
some_of (Some x) is = refl
some_of None is = cc is

-- the first number, and those that are left behind it
pub record IsFirst (word behind numbers : List ℕ) : Type 0 where
  pub n : ℕ
  pub number : number_of word ≡ Some n
  pub is : numbers ≡ n ∷ left_in behind

pub behind_first : (text word behind numbers : List ℕ) → IsFirstWord text word behind → numbers_in text ≡ Some numbers → IsFirst word behind numbers
behind_first text word behind numbers first is =
    elim first [
      | inl more ↦
          let t = taken word (words_of behind) numbers (ap (numbers_from 0) (sym more) ∙ is) in
          record { n = t.n; number = t.number; is = t.is ∙ ap (λ (o : Option (List ℕ)). t.n ∷ unwrap_or o []) (sym t.others) }
      | inr last ↦
          let t = taken word [] numbers (ap (numbers_from 0) (sym last.0) ∙ is) in
          let none : t.more ≡ [] = cc (t.others) in
          record { n = t.n; number = t.number; is = t.is ∙ ap (λ (ns : List ℕ). t.n ∷ ns) none ∙ ap (λ (b : List ℕ). t.n ∷ left_in b) (sym last.1) }
    ]

pub has_behind : (text word behind numbers : List ℕ) → IsFirstWord text word behind → numbers_in text ≡ Some numbers
    → (length behind == 0 || is_some (numbers_in behind)) ≡ true
has_behind text word behind numbers first is =
    elim first [
      | inl more ↦
          let t = taken word (words_of behind) numbers (ap (numbers_from 0) (sym more) ∙ is) in
          or_right (length behind == 0) (is_some (numbers_in behind)) (ap (λ (o : Option (List ℕ)). is_some o) t.others)
      | inr last ↦ or_left (length behind == 0) (is_some (numbers_in behind)) (ap (λ (b : List ℕ). length b == 0) last.1)
    ]

other_one : (a b : Bool) → a ≡ false → (a || b) ≡ true → b ≡ true
other_one a b first is = sym (ap (λ (x : Bool). x || b) first) ∙ is

pub whole_text : (text : List ℕ) → (length text == 0) ≡ false → (length text == 0 || is_some (numbers_in text)) ≡ true
    → numbers_in text ≡ Some (left_in text)
whole_text text some is = some_of (numbers_in text) (other_one (length text == 0) (is_some (numbers_in text)) some is)

pub least_taken : (o : Option ℕ) (now left : List ℕ) (P : Type 0) (n : ℕ) → o ≡ Some n → now ≡ n ∷ left
    → MatchOption o P (λ number. now ≡ number ∷ left)
least_taken (Some m) now left P n is all =
    let same : m ≡ n = cc is in
    all ∙ ap (λ k. k ∷ left) (sym same)
least_taken None now left P n is all = cc is
