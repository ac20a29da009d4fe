-- The instances of a class, one place after another.
use Rattle.std.proofs.Common.{◌≡◌, ℕ, zero, suc, ◌+◌, ◌*◌, ◌<◌, ◌≤◌, true, false, Bool, List, [], ◌∷◌, ◌++◌, length, drop, Some, None, slice_get, refl, sym, arith, mul-suc}
use Rattle.std.specs.Prelude.{All, if◌then◌else◌, ◌==◌}
use Rattle.std.proofs.Math.Nat.{mul-le-mul_left}
use Rattle.std.proofs.lemmas.List.{drop_more, drop_all}
use Rattle.std.proofs.lemmas.Option.{slice_get_within, get_or_from_slice_get}
use Rattle.managed_entity.specs.Class.{room_of}
use Rattle.managed_entity.specs.Instance.{Instance}
use Rattle.mib_upload.specs.Rows.{RowFields, instance_rows, class_rows, AllFit}
use Rattle.mib_upload.specs.Room.{instance_room, class_room}
use Rattle.mib_upload.proofs.Joined.{Joins, joins_first, joins_next, joined, each_joined}

-- ---- the instance at a place

at_place : (l : List Instance) (place : ℕ) (i : Instance) → slice_get l place ≡ Some i → drop place l ≡ i ∷ drop (place + 1) l
at_place l place i h = rw (drop_more l place i (slice_get_within l place i h), get_or_from_slice_get l place i i h) refl

past : (l : List Instance) (place : ℕ) → slice_get l place ≡ None → length l ≤ place
past [] place h = omega arith
past (i ∷ l) zero h = cc
past (i ∷ l) (suc place) h = omega (arith, past l place h)

none_left : (l : List Instance) (place : ℕ) → slice_get l place ≡ None → drop place l ≡ []
none_left l place h = drop_all place l (past l place h)

-- ---- a class has room for 256 instances at most

either_small : (b : Bool) (x y : ℕ) → x ≤ 256 → y ≤ 256 → (if b then x else y) ≤ 256
either_small true x y h k = h
either_small false x y h k = k

pub room_small : (class : ℕ) → room_of class ≤ 256
room_small class =
    either_small (class == 2) 1 _ (omega arith) (
    either_small (class == 130) 32 _ (omega arith) (
    either_small (class == 171) 16 _ (omega arith) (
    either_small (class == 266) 256 _ (omega arith) (
    either_small (class == 268) 256 0 (omega arith) (omega arith)))))

-- ---- what the loop over the places keeps

-- the rows so far are those of the instances before the place, which the class has room for
pub record Walks (class : ℕ) (l : List Instance) (initial : List RowFields) (place : ℕ) (rows : List RowFields) : Type 0 where
  pub joins : Joins (instance_rows class) (AllFit class) l initial place rows
  pub within : place ≤ room_of class
  pub room : length rows ≤ length initial + instance_room class * place

pub walks_first : (class : ℕ) (l : List Instance) (initial : List RowFields) → Walks class l initial 0 initial
walks_first class l initial = record { joins = joins_first _ _ l initial; within = omega arith; room = omega arith }

module _ (class : ℕ) (l : List Instance) (initial : List RowFields) (place : ℕ) (rows : List RowFields) (kept : Walks class l initial place rows) where
  pub few_rows : length rows ≤ length initial + class_room class
  unfolding class_room
  few_rows = omega (arith, kept.room, mul-le-mul_left (instance_room class) kept.within)

  -- one more instance has room
  pub has_room : place < room_of class → length rows + instance_room class ≤ length initial + class_room class
  unfolding class_room
  has_room more =
      let next : suc place ≤ room_of class = omega arith in
      omega (arith, kept.room, mul-le-mul_left (instance_room class) next, mul-suc (instance_room class) place)

  pub walks_next : (i : Instance) → Some i ≡ slice_get l place → place < room_of class → (rows' : List RowFields)
      → rows' ≡ rows ++ instance_rows class i → length rows' ≤ length rows + instance_room class → AllFit class i
      → Walks class l initial (place + 1) rows'
  walks_next i there more rows' grown longer fit = record {
    joins = joins_next _ _ _ _ _ _ kept.joins i (at_place l place i (sym there)) rows' grown fit;
    within = omega arith;
    room = omega (arith, kept.room, longer, mul-suc (instance_room class) place);
  }

  pub walked : None ≡ slice_get l place → rows ≡ initial ++ class_rows class l
  walked none = joined _ _ _ _ _ _ kept.joins (none_left l place (sym none))

  pub each_walked : None ≡ slice_get l place → All (AllFit class) l
  each_walked none = each_joined _ _ _ _ _ _ kept.joins (none_left l place (sym none))
