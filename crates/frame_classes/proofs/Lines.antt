-- Tags in which one part is that of a value, or isn't: as functions of the value they are lines.
use Rattle.std.proofs.Common.{◌≡◌, ◌≢◌, ◌<◌, ◌==◌, ◌%◌, ◌^◌, ℕ, Bool, true, false, List, [], ◌∷◌, arith, refl, ap, sym, map, ◌∙◌}
use Rattle.std.proofs.lemmas.Bool.{eqb-true, eq-eqb, true≢false}
use Rattle.tag_view.specs.Tag.{TagFields}

-- ---- lines

-- the part of a tag that a field is
pub data Part : Type 0 where
  Vid : Part
  Pcp : Part
  Dei : Part

-- a tag that has the value in this part, or that stays
pub record Line : Type 0 where
  pub moves : Bool
  pub tag : TagFields

-- one where it moves, the other where it stays
abbrev pub pick : {X : Type 0} → Bool → X → X → X
pick true one other = one
pick false one other = other

-- a part at a value
abbrev pub vid_at : Part → ℕ → Bool → ℕ → ℕ
vid_at Vid x moves vid = pick moves (x % 2 ^ 12) vid
vid_at Pcp x moves vid = vid
vid_at Dei x moves vid = vid

abbrev pub pcp_at : Part → ℕ → Bool → ℕ → ℕ
pcp_at Vid x moves pcp = pcp
pcp_at Pcp x moves pcp = pick moves (x % 2 ^ 3) pcp
pcp_at Dei x moves pcp = pcp

abbrev pub dei_at : Part → ℕ → Bool → Bool → Bool
dei_at Vid x moves dei = dei
dei_at Pcp x moves dei = dei
dei_at Dei x moves dei = pick moves (x == 1) dei

-- the tag at a value
abbrev pub at : Part → ℕ → Line → TagFields
at part x line =
    record {
      tpid = line.tag.tpid;
      pcp = pcp_at part x line.moves line.tag.pcp;
      dei = dei_at part x line.moves line.tag.dei;
      vid = vid_at part x line.moves line.tag.vid;
    }

-- the values of a part are below this
abbrev pub part_limit : Part → ℕ
part_limit Vid = 2 ^ 12
part_limit Pcp = 2 ^ 3
part_limit Dei = 2

-- ---- two lines

still : TagFields → Line
still tag = record { moves = false; tag = tag }

moving : TagFields → Line
moving tag = record { moves = true; tag = tag }

-- a line that stays is its tag
still_is : (part : Part) (x z : ℕ) (tag : TagFields) → at part x (still tag) ≡ at part z (still tag)
unfolding still
still_is Vid x z tag = refl
still_is Pcp x z tag = refl
still_is Dei x z tag = refl

-- lines that move meet everywhere or nowhere
both_move : (part : Part) (x z : ℕ) (tag tag' : TagFields) → at part x (moving tag) ≡ at part x (moving tag')
    → at part z (moving tag) ≡ at part z (moving tag')
unfolding moving
both_move Vid x z tag tag' h = ap (λ (t : TagFields). record t { vid = z % 2 ^ 12 }) h
both_move Pcp x z tag tag' h = ap (λ (t : TagFields). record t { pcp = z % 2 ^ 3 }) h
both_move Dei x z tag tag' h = ap (λ (t : TagFields). record t { dei = z == 1 }) h

flags_apart : (x y : ℕ) → x < 2 → y < 2 → x ≢ y → (x == 1) ≡ (y == 1) → ⊥
flags_apart x y p q apart h = by_test (x == 1) (y == 1) refl refl h
  where
    by_test : (a b : Bool) → (x == 1) ≡ a → (y == 1) ≡ b → (x == 1) ≡ (y == 1) → ⊥
    by_test true b e f h =
        let one : x ≡ 1 = eqb-true x 1 e in
        let other : y ≡ 1 = eqb-true y 1 (sym h ∙ e) in
        omega arith
    by_test false true e f h = true≢false (sym f ∙ sym h ∙ e)
    by_test false false e f h =
        let one : x ≢ 1 = λ is. true≢false (sym (eq-eqb x 1 is) ∙ e) in
        let other : y ≢ 1 = λ is. true≢false (sym (eq-eqb y 1 is) ∙ f) in
        omega arith

-- one that moves and one that stays meet once at most
never_twice : (part : Part) (x y : ℕ) (tag tag' : TagFields) → x < part_limit part → y < part_limit part → x ≢ y
    → at part x (moving tag) ≡ at part x (still tag') → at part y (moving tag) ≡ at part y (still tag') → ⊥
unfolding moving still
never_twice Vid x y tag tag' p q apart h k =
    let same : x % 2 ^ 12 ≡ y % 2 ^ 12 = ap (λ (t : TagFields). t.vid) h ∙ sym (ap (λ (t : TagFields). t.vid) k) in
    omega arith
never_twice Pcp x y tag tag' p q apart h k =
    let same : x % 2 ^ 3 ≡ y % 2 ^ 3 = ap (λ (t : TagFields). t.pcp) h ∙ sym (ap (λ (t : TagFields). t.pcp) k) in
    omega arith
never_twice Dei x y tag tag' p q apart h k =
    flags_apart x y p q apart (ap (λ (t : TagFields). t.dei) h ∙ sym (ap (λ (t : TagFields). t.dei) k))

-- lines that meet at two values meet at each
line_points : (part : Part) (x y z : ℕ) (one other : Line) → x < part_limit part → y < part_limit part → x ≢ y
    → at part x one ≡ at part x other → at part y one ≡ at part y other → at part z one ≡ at part z other
unfolding moving still
line_points part x y z one other p q apart h k = by_moves one.moves other.moves one.tag other.tag h k
  where
    by_moves : (m m' : Bool) (tag tag' : TagFields) →
        let a : Line = record { moves = m; tag = tag } in
        let b : Line = record { moves = m'; tag = tag' } in
        at part x a ≡ at part x b → at part y a ≡ at part y b → at part z a ≡ at part z b
    by_moves true true tag tag' h k = both_move part x z tag tag' h
    by_moves true false tag tag' h k = absurd (never_twice part x y tag tag' p q apart h k)
    by_moves false true tag tag' h k = absurd (never_twice part x y tag' tag p q apart (sym h) (sym k))
    by_moves false false tag tag' h k = still_is part z x tag ∙ h ∙ still_is part x z tag'

-- lines of which both move, or neither, meet everywhere or nowhere
line_settled : (part : Part) (x y : ℕ) (one other : Line) → one.moves ≡ other.moves → at part x one ≡ at part x other
    → at part y one ≡ at part y other
unfolding moving still
line_settled part x y one other same h = by_moves one.moves other.moves one.tag other.tag same h
  where
    by_moves : (m m' : Bool) (tag tag' : TagFields) → m ≡ m' →
        let a : Line = record { moves = m; tag = tag } in
        let b : Line = record { moves = m'; tag = tag' } in
        at part x a ≡ at part x b → at part y a ≡ at part y b
    by_moves true true tag tag' same h = both_move part x y tag tag' h
    by_moves true false tag tag' same h = absurd (true≢false same)
    by_moves false true tag tag' same h = absurd (true≢false (sym same))
    by_moves false false tag tag' same h = still_is part y x tag ∙ h ∙ still_is part x y tag'

-- ---- lists of them

none_some : (tag : TagFields) (tags : List TagFields) → [] ≡ tag ∷ tags → ⊥
none_some tag tags h = cc

parts_same : (a b : TagFields) (xs ys : List TagFields) → a ∷ xs ≡ b ∷ ys → (a ≡ b) × (xs ≡ ys)
parts_same a b xs ys h = ((cc), (cc))

pair_same : (a b : TagFields) (xs ys : List TagFields) → a ≡ b → xs ≡ ys → a ∷ xs ≡ b ∷ ys
pair_same a b xs ys p q = cc

flags_same : (a b : Bool) (xs ys : List Bool) → a ∷ xs ≡ b ∷ ys → (a ≡ b) × (xs ≡ ys)
flags_same a b xs ys h = ((cc), (cc))

-- lists of lines that meet at two values meet at each
pub points : (part : Part) (x y z : ℕ) (one other : List Line) → x < part_limit part → y < part_limit part → x ≢ y
    → map (at part x) one ≡ map (at part x) other → map (at part y) one ≡ map (at part y) other → map (at part z) one ≡ map (at part z) other
points part x y z [] [] p q apart h k = refl
points part x y z [] (l ∷ other) p q apart h k = absurd (none_some (at part x l) (map (at part x) other) h)
points part x y z (l ∷ one) [] p q apart h k = absurd (none_some (at part x l) (map (at part x) one) (sym h))
points part x y z (l ∷ one) (l' ∷ other) p q apart h k =
    let here = parts_same (at part x l) (at part x l') (map (at part x) one) (map (at part x) other) h in
    let there = parts_same (at part y l) (at part y l') (map (at part y) one) (map (at part y) other) k in
    pair_same (at part z l) (at part z l') (map (at part z) one) (map (at part z) other)
    (line_points part x y z l l' p q apart here.0 there.0) (points part x y z one other p q apart here.1 there.1)

-- lists of which the same lines move meet everywhere or nowhere
pub settled : (part : Part) (x y : ℕ) (one other : List Line) → map (λ l. l.moves) one ≡ map (λ l. l.moves) other
    → map (at part x) one ≡ map (at part x) other → map (at part y) one ≡ map (at part y) other
settled part x y [] [] same h = refl
settled part x y [] (l ∷ other) same h = absurd (none_some (at part x l) (map (at part x) other) h)
settled part x y (l ∷ one) [] same h = absurd (none_some (at part x l) (map (at part x) one) (sym h))
settled part x y (l ∷ one) (l' ∷ other) same h =
    let here = parts_same (at part x l) (at part x l') (map (at part x) one) (map (at part x) other) h in
    let moves = flags_same l.moves l'.moves (map (λ l. l.moves) one) (map (λ l. l.moves) other) same in
    pair_same (at part y l) (at part y l') (map (at part y) one) (map (at part y) other)
    (line_settled part x y l l' moves.0 here.0) (settled part x y one other moves.1 here.1)
