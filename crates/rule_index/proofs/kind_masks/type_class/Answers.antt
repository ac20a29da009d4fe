use Rattle.std.proofs.Common.{◌≡◌, ◌<◌, ◌*◌, ◌/◌, ◌%◌, ◌⊎◌, ◌≢◌, ℕ, Bool, true, false, get_or, ap, ◌∙◌, arith, refl, subst, sym, inl, inr}
use Rattle.std.specs.Prelude.{◌==◌, bit_xor}
use Rattle.std.specs.Int.{from_bool}
use Rattle.std.proofs.lemmas.Bool.{eqb-true}
use Rattle.std.proofs.lemmas.Bool.Decides.{eqb_tells}
use Rattle.std.proofs.lemmas.List.{get_or-map}
use Rattle.rule_index.specs.Filters.{type_class}
use Rattle.rule_index.specs.declared.kind_masks.TheConstants.{CLASSES, TYPES}
use Rattle.rule_index.proofs.Joined.{class-below}
use Rattle.rule_index.proofs.kind_masks.type_class.Goals as goal

-- the place of a type
abbrev place_of : ℕ → ℕ
place_of type = bit_xor type (type / 256) % 32

-- at each place stands the class of the type that stands there
class_at : (place type : ℕ) → place < 32 → get_or TYPES place 0 ≡ type → get_or CLASSES place 0 ≡ type_class type
class_at place type within is_type = get_or-map type_class TYPES place 0 0 within ∙ ap type_class is_type

-- a type that isn't at its place is none that is
other : (type known : ℕ) → (get_or TYPES (place_of type) 0 == type) ≡ false → (get_or TYPES (place_of known) 0 == known) ≡ true → (type == known) ≡ false
other type known absent there = by_case (eqb_tells type known)
  where
    by_case : (((type == known) ≡ true) × (type ≡ known)) ⊎ (((type == known) ≡ false) × (type ≢ known)) → (type == known) ≡ false
    by_case (inl same) = cc (sym absent ∙ ap (λ t. get_or TYPES (place_of t) 0 == t) same.1 ∙ there)
    by_case (inr unlike) = unlike.0

no_class : (type : ℕ) → (get_or TYPES (place_of type) 0 == type) ≡ false → type_class type ≡ 0
no_class type absent =
    rw (other type 0x0800 absent refl, other type 0x8863 absent refl, other type 0x8864 absent refl, other type 0x0806 absent refl, other type 0x86DD absent refl, other type 0x888E absent refl) refl

class_times : (type : ℕ) (there : Bool) → (get_or TYPES (place_of type) 0 == type) ≡ there → get_or CLASSES (place_of type) 0 * from_bool there ≡ type_class type
class_times type true is = arith-one (get_or CLASSES (place_of type) 0) ∙ class_at (place_of type) type (omega arith) (eqb-true (get_or TYPES (place_of type) 0) type is)
  where
    arith-one : (n : ℕ) → n * 1 ≡ n
    arith-one n = omega arith
class_times type false is = arith-none (get_or CLASSES (place_of type) 0) ∙ sym (no_class type is)
  where
    arith-none : (n : ℕ) → n * 0 ≡ 0
    arith-none n = omega arith

pub returns-clause-value : goal.returns-clause-value
returns-clause-value c =
    rw (c.from.ensures, c.from-2.ensures, c.from-place.ensures)
    (class_times c.args.ethertype (get_or TYPES (place_of c.args.ethertype) 0 == c.args.ethertype) refl)

pub returns-clause-bound : goal.returns-clause-bound
returns-clause-bound c = subst (λ class. class < 6) (sym (returns-clause-value c)) (class-below c.args.ethertype)
