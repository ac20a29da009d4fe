-- The numbers that attributes spell, as the fields that code keeps them in.
use Rattle.std.proofs.Common.{◌≡◌, ℕ, zero, suc, ◌/◌, ◌%◌, ◌^◌, ◌<◌, ◌==◌, Bool, true, false, [], ◌∷◌, Option, Some, None, arith, refl, ap, sym, ◌∙◌}
use Rattle.std.proofs.lemmas.Bool.{eqb-true}
use Rattle.std.proofs.lemmas.Option.{none-some}
use Rattle.std.specs.Prelude.{slice_index}
use Rattle.pmapper.specs.declared.mapper.Mapper.{Mapper}
use Rattle.pmapper.specs.declared.interwork.Interwork.{Interwork}
use Rattle.pmapper.specs.declared.gem_port.GemPort.{GemPort}
use Rattle.managed_entity.specs.Instance.{attribute_number, number_of}
use Rattle.managed_entity.specs.Shown.{mapper_instance, interwork_instance, gem_port_instance}
use Rattle.pmapper.specs.Mapper.{pointer_of, unmarked_of}
use Rattle.frame_meaning.specs.Meaning.{pointers_at, unmarked_at}

-- the two bytes of a number spell it
pub two_bytes : (x : ℕ) → x < 2 ^ 16 → number_of (x / 256 % 256 ∷ x % 256 ∷ []) ≡ x
two_bytes x h = omega arith

-- the one byte of a number spells it
pub one_byte : (x : ℕ) → number_of (x ∷ []) ≡ x
one_byte x = omega arith

-- what a mapper says of frames without a tag, by the fields that code keeps it in
pub unmarked_is : (n : ℕ) (m : Mapper) → unmarked_at (mapper_instance n m) ≡ unmarked_of m
unmarked_is n m = rw (one_byte m.unmarked_frame_option, one_byte m.default_p_bit_assumption) refl

-- the pointer of a priority is attribute 2 and the following ones
pointer_number : (n p : ℕ) (m : Mapper) → p < 8 → slice_index m.interwork_tp_pointers p < 2 ^ 16
    → slice_index (pointers_at (mapper_instance n m)) p ≡ slice_index m.interwork_tp_pointers p
pointer_number n zero m h fits = two_bytes _ fits
pointer_number n (suc zero) m h fits = two_bytes _ fits
pointer_number n (suc (suc zero)) m h fits = two_bytes _ fits
pointer_number n (suc (suc (suc zero))) m h fits = two_bytes _ fits
pointer_number n (suc (suc (suc (suc zero)))) m h fits = two_bytes _ fits
pointer_number n (suc (suc (suc (suc (suc zero))))) m h fits = two_bytes _ fits
pointer_number n (suc (suc (suc (suc (suc (suc zero)))))) m h fits = two_bytes _ fits
pointer_number n (suc (suc (suc (suc (suc (suc (suc zero))))))) m h fits = two_bytes _ fits
pointer_number n (suc (suc (suc (suc (suc (suc (suc (suc p)))))))) m h fits = absurd (omega arith)

-- a pointer that is null, and one that isn't
pub pointer_null : (n p : ℕ) (m : Mapper) → p < 8 → None ≡ pointer_of m.interwork_tp_pointers p
    → None ≡ pointer_of (pointers_at (mapper_instance n m)) p
unfolding pointer_of
pointer_null n p m h null = by_case (slice_index m.interwork_tp_pointers p == 0xFFFF) refl
  where
    by_case : (b : Bool) → (slice_index m.interwork_tp_pointers p == 0xFFFF) ≡ b → None ≡ pointer_of (pointers_at (mapper_instance n m)) p
    by_case true is =
        let all_ones : slice_index m.interwork_tp_pointers p ≡ 0xFFFF = eqb-true (slice_index m.interwork_tp_pointers p) 0xFFFF is in
        let fits : slice_index m.interwork_tp_pointers p < 2 ^ 16 = omega arith in
        rw (pointer_number n p m h fits, all_ones) refl
    by_case false is =
        let set : pointer_of m.interwork_tp_pointers p ≡ Some (slice_index m.interwork_tp_pointers p) = rw is refl in
        absurd (none-some (slice_index m.interwork_tp_pointers p) (null ∙ set))

-- a pointer, or another number where there is none
or_zero : Option ℕ → ℕ
or_zero None = 0
or_zero (Some x) = x

pub pointer_set : (n p x : ℕ) (m : Mapper) → p < 8 → x < 2 ^ 16 → Some x ≡ pointer_of m.interwork_tp_pointers p
    → Some x ≡ pointer_of (pointers_at (mapper_instance n m)) p
unfolding pointer_of or_zero
pointer_set n p x m h fits set = by_case (slice_index m.interwork_tp_pointers p == 0xFFFF) refl
  where
    by_case : (b : Bool) → (slice_index m.interwork_tp_pointers p == 0xFFFF) ≡ b → Some x ≡ pointer_of (pointers_at (mapper_instance n m)) p
    by_case true is =
        let null : pointer_of m.interwork_tp_pointers p ≡ None = rw is refl in
        absurd (none-some x (sym (set ∙ null)))
    by_case false is =
        let held : pointer_of m.interwork_tp_pointers p ≡ Some (slice_index m.interwork_tp_pointers p) = rw is refl in
        let same : x ≡ slice_index m.interwork_tp_pointers p = ap or_zero (set ∙ held) in
        let within : slice_index m.interwork_tp_pointers p < 2 ^ 16 = omega arith in
        rw (pointer_number n p m h within, is) (ap (λ (y : ℕ). Some y) same)

-- the pointer of an interworking termination point is its attribute 1
pub gem_port_pointer_number : (n : ℕ) (t : Interwork) → t.gem_port_pointer < 2 ^ 16 → attribute_number 1 (interwork_instance n t) ≡ t.gem_port_pointer
gem_port_pointer_number n t fits = two_bytes _ fits

-- the port-ID of a GEM port is its attribute 1
pub port_id_number : (n : ℕ) (p : GemPort) → p.port_id < 2 ^ 16 → attribute_number 1 (gem_port_instance n p) ≡ p.port_id
port_id_number n p fits = two_bytes _ fits
