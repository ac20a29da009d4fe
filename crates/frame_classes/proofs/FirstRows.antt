-- The first row of a side that is left.
use Rattle.std.proofs.Common.{◌≡◌, Bool, true, false, ◌&&◌, ℕ, zero, suc, ◌<◌, ◌≤◌, List, [], ◌∷◌, Option, Some, None, arith, refl, ap, sym, subst, get_or, length, map, ◌∙◌}
use Rattle.std.specs.Prelude.{All, IfSome, IsTrue, find, slice_get}
use Rattle.std.specs.Option.{option_map}
use Rattle.std.proofs.lemmas.List.{append-nil}
use Rattle.std.proofs.lemmas.List.Elements.{All-head, All-tail}
use Rattle.frame_rows.specs.declared.class.FrameClass.{FrameClass}
use Rattle.frame_rows.specs.declared.field.Values.{Values}
use Rattle.frame_rows.specs.declared.row.Row.{Row}
use Rattle.frame_rows.specs.declared.rows.Rows.{Rows}
use Rattle.frame_rows.specs.Field.{fields}
use Rattle.frame_rows.specs.Row.{class_of_row, first_row, passes}
use Rattle.frame_rows.specs.Fits.{row_fits}
use Rattle.frame_rows.specs.Sight.{Side, rows_apart, seen_apart}
use Rattle.frame_rows.proofs.Means.{found_has}
use Rattle.frame_classes.specs.Beside.{SideFits}
use Rattle.frame_classes.specs.Left.{AreLeftOf, first_left, rows_of_side}
use Rattle.frame_classes.specs.Told.{class_at, classes_at, is_shown, one_of, side_by, three_of, told_of_classes, two_of}
use Rattle.frame_classes.proofs.LeftRows.{find-filter}

none_some : {X : Type 0} (x : X) → None ≡ Some x → ⊥
none_some x e = cc

pub same_some : {X : Type 0} (x y : X) → Some x ≡ Some y → x ≡ y
same_some x y e = cc

-- an element by its place
pub at_get : {X : Type 0} (xs : List X) (i : ℕ) (x : X) → slice_get xs i ≡ Some x → get_or xs i x ≡ x
at_get [] i x is = absurd (none_some x is)
at_get (y ∷ ys) zero x is = same_some y x is
at_get (y ∷ ys) (suc i) x is = at_get ys i x is

pub get_there : {X : Type 0} (xs : List X) (i : ℕ) (x : X) → i < length xs → x ≡ get_or xs i x → slice_get xs i ≡ Some x
get_there [] i x within is = absurd (omega arith)
get_there (y ∷ ys) zero x within is = ap Some (sym is)
get_there (y ∷ ys) (suc i) x within is = get_there ys i x (omega arith) is

-- what holds where something is there
pub if_some : {X : Type 0} (P : X → Type 0) (o : Option X) → ((x : X) → o ≡ Some x → P x) → IfSome o P
if_some P None h = tt
if_some P (Some x) h = h x refl

pub some_if : {X : Type 0} (P : X → Type 0) (o : Option X) (x : X) → o ≡ Some x → IfSome o P → P x
some_if P o x is h = rw is at h

-- the rows of a side among those of all
pub side_rows : (sides : List Rows) (n : ℕ) (s : Rows) → slice_get sides n ≡ Some s → rows_of_side (map side_by sides) n ≡ s.rows.items
side_rows [] n s is = absurd (none_some s is)
side_rows (x ∷ xs) zero s is = append-nil x.rows.items ∙ ap (λ (r : Rows). r.rows.items) (same x s is)
  where
    same : (x s : Rows) → Some x ≡ Some s → x ≡ s
    same x s e = cc
side_rows (x ∷ xs) (suc n) s is = side_rows xs n s is

pub first_of : (sides : List Rows) (n : ℕ) (s : Rows) (values : Values) (places : List ℕ) → AreLeftOf (map side_by sides) fields values places
    → slice_get sides n ≡ Some s → first_left (map side_by sides) places n ≡ first_row s.rows.items values
first_of sides n s values places left is =
    ap (λ (rows : List Row). slice_get rows 0) (left.each n)
    ∙ sym (find-filter (λ row. passes fields row values) (rows_of_side (map side_by sides) n))
    ∙ ap (λ (rows : List Row). find (λ row. passes fields row values) rows) (side_rows sides n s is)

-- the class by a side
pub class_of : (sides : List Rows) (n : ℕ) (s : Rows) (values : Values) (places : List ℕ) (first : Option Row) (class : Option FrameClass)
    → AreLeftOf (map side_by sides) fields values places → slice_get sides n ≡ Some s → first ≡ first_left (map side_by sides) places n
    → class ≡ option_map (λ row. class_of_row s.endings row values) first → class ≡ class_at (side_by s) values
class_of sides n s values places first class left is at by =
    by ∙ ap (option_map (λ row. class_of_row s.endings row values)) (at ∙ first_of sides n s values places left is)

-- ---- what rows ask and read

-- what holds of all sides holds of the one at a place
pub side_has : (P : Side → Type 0) (sides : List Rows) (n : ℕ) (s : Rows) → All P (map side_by sides) → slice_get sides n ≡ Some s → P (side_by s)
side_has P [] n s all is = absurd (none_some s is)
side_has P (x ∷ xs) zero s all is = subst (λ (r : Rows). P (side_by r)) (same_some x s is) (All-head P (side_by x) (map side_by xs) all)
side_has P (x ∷ xs) (suc n) s all is = side_has P xs n s (All-tail P (side_by x) (map side_by xs) all) is

-- the first row of a side that is left fits it
pub first_fits : (sides : List Rows) (n : ℕ) (s : Rows) (values : Values) (places : List ℕ) (first : Option Row) → All SideFits (map side_by sides)
    → AreLeftOf (map side_by sides) fields values places → slice_get sides n ≡ Some s → first ≡ first_left (map side_by sides) places n
    → IfSome first (λ row. IsTrue (row_fits s.settings.input_tpid row))
first_fits sides n s values places first all left is at =
    if_some (λ (row : Row). IsTrue (row_fits s.settings.input_tpid row)) first (λ row there.
    found_has (λ row. IsTrue (row_fits s.settings.input_tpid row)) (λ row. passes fields row values) s.rows.items row (side_has SideFits sides n s all is)
    (sym (first_of sides n s values places left is) ∙ sym at ∙ there))

-- what two sides see otherwise, by the rows that are left
pub apart_of : (sides : List Rows) (m n : ℕ) (s t : Rows) (values : Values) (places : List ℕ) (reasons : Bool) (first second : Option Row)
    → AreLeftOf (map side_by sides) fields values places → slice_get sides m ≡ Some s → slice_get sides n ≡ Some t
    → first ≡ first_left (map side_by sides) places m → second ≡ first_left (map side_by sides) places n
    → rows_apart reasons (side_by s) (side_by t) values first second ≡ seen_apart reasons (side_by s) (side_by t) values
apart_of sides m n s t values places reasons first second left is is' at at' =
    ap (λ (o : Option Row). rows_apart reasons (side_by s) (side_by t) values o second) (at ∙ first_of sides m s values places left is)
    ∙ ap (rows_apart reasons (side_by s) (side_by t) values (first_row s.rows.items values)) (at' ∙ first_of sides n t values places left is')

-- and by what code finds
pub apart_along : (sides : List Rows) (m n : ℕ) (x y : Rows) (values : Values) (places : List ℕ) (reasons : Bool) (first second : Option Row) (result : Bool)
    → AreLeftOf (map side_by sides) fields values places → ((d : Rows) → x ≡ get_or sides m d) → ((d : Rows) → y ≡ get_or sides n d)
    → first ≡ first_left (map side_by sides) places m → second ≡ first_left (map side_by sides) places n
    → result ≡ rows_apart reasons (side_by x) (side_by y) values first second
    → IfSome (slice_get sides m) (λ s. IfSome (slice_get sides n) (λ t. result ≡ seen_apart reasons (side_by s) (side_by t) values))
apart_along sides m n x y values places reasons first second result left is is' at at' by =
    if_some (λ (s : Rows). IfSome (slice_get sides n) (λ t. result ≡ seen_apart reasons (side_by s) (side_by t) values)) (slice_get sides m) (λ s there.
    if_some (λ (t : Rows). result ≡ seen_apart reasons (side_by s) (side_by t) values) (slice_get sides n) (λ t there'.
    by
    ∙ ap (λ (r : Rows). rows_apart reasons (side_by r) (side_by y) values first second) (is s ∙ at_get sides m s there)
    ∙ ap (λ (r : Rows). rows_apart reasons (side_by s) (side_by r) values first second) (is' t ∙ at_get sides n t there')
    ∙ apart_of sides m n s t values places reasons first second left there there' at at'))

-- ---- all sides

-- what holds of the sides at some places
pub tells : (sides : List Rows) (values : Values) (first second third : Option FrameClass) → length sides ≤ 3
    → IfSome (slice_get sides 0) (λ s. first ≡ class_at (side_by s) values) → IfSome (slice_get sides 1) (λ s. second ≡ class_at (side_by s) values)
    → IfSome (slice_get sides 2) (λ s. third ≡ class_at (side_by s) values)
    → told_of_classes (length sides) first second third ≡ classes_at (map side_by sides) values
tells [] values first second third few p q r = refl
tells (one ∷ []) values first second third few p q r = ap one_of p
tells (one ∷ two ∷ []) values first second third few p q r =
    ap (λ (o : Option FrameClass). two_of o second) p ∙ ap (two_of (class_at (side_by one) values)) q
tells (one ∷ two ∷ three ∷ []) values first second third few p q r =
    ap (λ (o : Option FrameClass). three_of o second third) p ∙ ap (λ (o : Option FrameClass). three_of (class_at (side_by one) values) o third) q
    ∙ ap (three_of (class_at (side_by one) values) (class_at (side_by two) values)) r
tells (one ∷ two ∷ three ∷ four ∷ rest) values first second third few p q r = absurd (omega arith)

-- ---- what is to be told of

pub shown_by_two : (sides : List Rows) (values : Values) (r : Bool) → length sides ≡ 2
    → IfSome (slice_get sides 0) (λ s. IfSome (slice_get sides 1) (λ t. r ≡ seen_apart true (side_by s) (side_by t) values))
    → r ≡ is_shown (map side_by sides) values
shown_by_two [] values r two h = absurd (omega arith)
shown_by_two (a ∷ []) values r two h = absurd (omega arith)
shown_by_two (a ∷ b ∷ []) values r two h = h
shown_by_two (a ∷ b ∷ c ∷ rest) values r two h = absurd (omega arith)

pub shown_by_three : (sides : List Rows) (values : Values) (p q : Bool) → length sides ≡ 3
    → IfSome (slice_get sides 1) (λ s. IfSome (slice_get sides 0) (λ t. p ≡ seen_apart false (side_by s) (side_by t) values))
    → IfSome (slice_get sides 1) (λ s. IfSome (slice_get sides 2) (λ t. q ≡ seen_apart false (side_by s) (side_by t) values))
    → (p && q) ≡ is_shown (map side_by sides) values
shown_by_three [] values p q three h k = absurd (omega arith)
shown_by_three (a ∷ []) values p q three h k = absurd (omega arith)
shown_by_three (a ∷ b ∷ []) values p q three h k = absurd (omega arith)
shown_by_three (a ∷ b ∷ c ∷ rest) values p q three h k = ap (λ (x : Bool). x && q) h ∙ ap (λ (x : Bool). seen_apart false (side_by b) (side_by a) values && x) k

-- the first of them alone
pub not_shown : (sides : List Rows) (values : Values) (p : Bool) → length sides ≡ 3 → p ≡ false
    → IfSome (slice_get sides 1) (λ s. IfSome (slice_get sides 0) (λ t. p ≡ seen_apart false (side_by s) (side_by t) values))
    → p ≡ is_shown (map side_by sides) values
not_shown [] values p three is h = absurd (omega arith)
not_shown (a ∷ []) values p three is h = absurd (omega arith)
not_shown (a ∷ b ∷ []) values p three is h = absurd (omega arith)
not_shown (a ∷ b ∷ c ∷ rest) values p three is h = is ∙ ap (λ (x : Bool). x && seen_apart false (side_by b) (side_by c) values) (sym is ∙ h)
