-- The rows rise by class and instance.
use Rattle.std.proofs.Common.{◌≡◌, ℕ, zero, suc, ◌+◌, ◌<◌, ◌≤◌, List, [], ◌∷◌, ◌++◌, Bool, true, false, length, refl, arith, inl, inr}
use Rattle.std.specs.Prelude.{All, ◌==◌, if◌then◌else◌, nat_le}
use Rattle.std.specs.List.{flat_map}
use Rattle.std.proofs.lemmas.List.Elements.{All-nil, All-cons, All-head, All-tail, All-append, All-weaker}
use Rattle.managed_entity.specs.Instance.{Instance}
use Rattle.mib_state.specs.Entities.{Entities, instances_of, number_at, IsAscending}
use Rattle.mib_state.specs.After.{after}
use Rattle.mib_state.proofs.Place.{tail_ascending}
use Rattle.mib_state.proofs.Ascending.{of_class, classes_ascend}
use Rattle.mib_upload.specs.Rows.{Numbered, RowFields, attributes, begun_row, with_attribute, filled_from, row_room, instance_rows, class_rows, classes, rows_of, MayPrecede, Rise, RowsRise}

-- ---- the rows of an instance are of its class and number

-- a row is of the class, and of the number or a higher one
record IsFrom (class least : ℕ) (row : RowFields) : Type 0 where
  class_is : row.class ≡ class
  number_is : least ≤ row.instance

-- a row is of the class and the number
record IsOf (class number : ℕ) (row : RowFields) : Type 0 where
  class_is : row.class ≡ class
  number_is : row.instance ≡ number

by_mask : (P : RowFields → Type 0) (empty : Bool) (row : RowFields) → P row → All P (if empty then [] else row ∷ [])
by_mask P true row is = All-nil P
by_mask P false row is = All-cons P row [] is (All-nil P)

by_room : (P : RowFields → Type 0) (fits : Bool) (more full : List RowFields) → All P more → All P full → All P (if fits then more else full)
by_room P true more full is other = is
by_room P false more full is other = other

own_rows : (class number : ℕ) (row : RowFields) (rest : List Numbered) → IsOf class number row → All (IsOf class number) (filled_from row rest)
own_rows class number row [] is = by_mask (IsOf class number) (row.mask == 0) row is
own_rows class number row (a ∷ rest) is =
    by_room (IsOf class number) (nat_le (length row.values + length a.bytes) row_room) _ _
    (own_rows class number (with_attribute row a) rest (record { class_is = is.class_is; number_is = is.number_is }))
    (All-cons (IsOf class number) row _ is
    (own_rows class number (with_attribute (begun_row row.class row.instance) a) rest (record { class_is = is.class_is; number_is = is.number_is })))

own : (class : ℕ) (i : Instance) → All (IsOf class i.number) (instance_rows class i)
own class i = own_rows class i.number (begun_row class i.number) (attributes class i) (record { class_is = refl; number_is = refl })

-- ---- lists that rise, one after another

rise_of_one : (class number : ℕ) (rows : List RowFields) → All (IsOf class number) rows → Rise rows
rise_of_one class number [] all = tt
rise_of_one class number (row ∷ rest) all =
    let first : IsOf class number row = All-head (IsOf class number) row rest all in
    let later : All (IsOf class number) rest = All-tail (IsOf class number) row rest all in (
      All-weaker (IsOf class number) (MayPrecede row) (λ next is. inr (grind (arith, first.class_is, is.class_is), omega (arith, first.number_is, is.number_is))) rest later,
      rise_of_one class number rest later,
    )

rise-append : (xs ys : List RowFields) → Rise xs → Rise ys → All (λ x. All (MayPrecede x) ys) xs → Rise (xs ++ ys)
rise-append [] ys here there before = there
rise-append (x ∷ xs) ys here there before = (
  All-append (MayPrecede x) xs ys here.0 (All-head (λ x. All (MayPrecede x) ys) x xs before),
  rise-append xs ys here.1 there (All-tail (λ x. All (MayPrecede x) ys) x xs before),
)

-- ---- the rows of a class

from_least : (class least : ℕ) (l : List Instance) → ((j : ℕ) → j < length l → least ≤ number_at l j) → All (IsFrom class least) (class_rows class l)
from_least class least [] over = All-nil (IsFrom class least)
from_least class least (i ∷ l) over =
    All-append (IsFrom class least) (instance_rows class i) (class_rows class l)
    (All-weaker (IsOf class i.number) (IsFrom class least)
    (λ row is. record { class_is = is.class_is; number_is = omega (arith, is.number_is, over zero (omega arith)) }) (instance_rows class i) (own class i))
    (from_least class least l (λ j inside. over (suc j) (omega arith)))

class_rises : (class : ℕ) (l : List Instance) → IsAscending l → Rise (class_rows class l)
class_rises class [] up = tt
class_rises class (i ∷ l) up =
    rise-append (instance_rows class i) (class_rows class l) (rise_of_one class i.number (instance_rows class i) (own class i))
    (class_rises class l (tail_ascending i l up))
    (All-weaker (IsOf class i.number) (λ x. All (MayPrecede x) (class_rows class l))
    (λ x is. All-weaker (IsFrom class i.number) (MayPrecede x)
    (λ next from. inr (grind (arith, is.class_is, from.class_is), omega (arith, is.number_is, from.number_is))) (class_rows class l)
    (from_least class i.number l (λ j inside. omega (arith, up zero (suc j) (omega arith) (omega arith))))) (instance_rows class i) (own class i))

-- ---- the classes

-- each class of a list is over one
abbrev AllOver : ℕ → List ℕ → Type 0
AllOver class [] = Unit {0}
AllOver class (next ∷ rest) = (class < next) × AllOver class rest

-- the classes of a list rise
abbrev ClassesRise : List ℕ → Type 0
ClassesRise [] = Unit {0}
ClassesRise (class ∷ rest) = AllOver class rest × ClassesRise rest

abbrev rows_in : Entities → List ℕ → List RowFields
rows_in e cs = flat_map (λ class. class_rows class (instances_of e class)) cs

all_over : (e : Entities) (class : ℕ) (cs : List ℕ) → AllOver class cs → All (λ row. class < row.class) (rows_in e cs)
all_over e class [] over = All-nil (λ row. class < row.class)
all_over e class (next ∷ rest) over =
    All-append (λ row. class < row.class) (class_rows next (instances_of e next)) (rows_in e rest)
    (All-weaker (IsFrom next 0) (λ row. class < row.class) (λ row from. omega (arith, over.0, from.class_is)) (class_rows next (instances_of e next))
    (from_least next 0 (instances_of e next) (λ j inside. omega arith)))
    (all_over e class rest over.1)

rise_in : (e : Entities) (cs : List ℕ) → ClassesRise cs → ((class : ℕ) → IsAscending (instances_of e class)) → Rise (rows_in e cs)
rise_in e [] rise up = tt
rise_in e (class ∷ rest) rise up =
    rise-append (class_rows class (instances_of e class)) (rows_in e rest) (class_rises class (instances_of e class) (up class))
    (rise_in e rest rise.1 up)
    (All-weaker (IsFrom class 0) (λ x. All (MayPrecede x) (rows_in e rest))
    (λ x from. All-weaker (λ row. class < row.class) (MayPrecede x) (λ next over. inl (omega (arith, from.class_is, over))) (rows_in e rest)
    (all_over e class rest rise.0)) (class_rows class (instances_of e class))
    (from_least class 0 (instances_of e class) (λ j inside. omega arith)))

in_order : ClassesRise classes
in_order = (
  (omega arith, (omega arith, (omega arith, (omega arith, tt)))),
  ((omega arith, (omega arith, (omega arith, tt))), ((omega arith, (omega arith, tt)), ((omega arith, tt), (tt, tt)))),
)

pub rows_rise : RowsRise
unfolding rows_of
rows_rise requests = rise_in (after requests) classes in_order (λ class. of_class (after requests) class (classes_ascend requests))
