-- What a mask names of the attributes, and one step of a count over them.
use Rattle.std.proofs.Common.{Bool, ◌≡◌, ℕ, zero, suc, ◌+◌, ◌-◌, ◌%◌, ◌^◌, ◌<◌, ◌≤◌, true, false, List, [], ◌∷◌, length, get_or, drop, refl, subst, arith, add-one}
use Rattle.std.specs.Prelude.{if◌then◌else◌, ◌&&◌}
use Rattle.std.proofs.Math.Pow.{pow_pos}
use Rattle.managed_entity.specs.declared.attribute.Attribute.{Attribute}
use Rattle.managed_entity.specs.Class.{is_read_only, read_only_at}
use Rattle.managed_entity.specs.Mask.{names, bit_of, named_width, unwritable_of}
use Rattle.managed_entity.proofs.Bits.{one_bit, no_bit}
use Rattle.managed_entity.proofs.Written.{named_width_step}

pub width_named : (mask p width total : ℕ) (layout : List Attribute) (d : Attribute) → p < length layout → names mask p ≡ true
    → width + named_width mask p (drop p layout) ≡ total → width + (get_or layout p d).width + named_width mask (p + 1) (drop (p + 1) layout) ≡ total
width_named mask p width total layout d h is e = rw add-one (omega (arith, rw is at (named_width_step mask p layout d p h)))

pub width_other : (mask p width total : ℕ) (layout : List Attribute) (d : Attribute) → p < length layout → names mask p ≡ false
    → width + named_width mask p (drop p layout) ≡ total → width + named_width mask (p + 1) (drop (p + 1) layout) ≡ total
width_other mask p width total layout d h is e = rw add-one (omega (arith, rw is at (named_width_step mask p layout d p h)))

unwritable_step : (mask p : ℕ) (layout : List Attribute) (d : Attribute) (i : ℕ) → i < length layout
    → unwritable_of mask p (drop i layout) ≡ (if names mask p && is_read_only (get_or layout i d).access then bit_of p else 0) + unwritable_of mask (suc p) (drop (suc i) layout)
unwritable_step mask p [] d i h = absurd (omega arith)
unwritable_step mask p (a ∷ layout) d zero h = refl
unwritable_step mask p (a ∷ layout) d (suc i) h = unwritable_step mask p layout d i (omega arith)

module _ (mask p sum total : ℕ) (layout : List Attribute) (d : Attribute) (h : p < length layout) (small : p < 16)
    (done : sum + unwritable_of mask p (drop p layout) ≡ total) (bits : sum + mask % 2 ^ (16 - p) ≤ mask) where
  pub adds_bit : names mask p ≡ true → is_read_only (get_or layout p d).access ≡ true
      → record { done : sum + bit_of p + unwritable_of mask (p + 1) (drop (p + 1) layout) ≡ total; bits : sum + bit_of p + mask % 2 ^ (16 - (p + 1)) ≤ mask }
  adds_bit is only = record {
    done = rw add-one (omega (arith, rw (is, only) at (unwritable_step mask p layout d p h)));
    bits = omega (arith, one_bit mask p small is);
  }

  pub skips_writable : names mask p ≡ true → is_read_only (get_or layout p d).access ≡ false
      → record { done : sum + unwritable_of mask (p + 1) (drop (p + 1) layout) ≡ total; bits : sum + mask % 2 ^ (16 - (p + 1)) ≤ mask }
  skips_writable is only = record {
    done = rw add-one (omega (arith, rw (is, only) at (unwritable_step mask p layout d p h)));
    bits = omega (arith, one_bit mask p small is);
  }

  pub skips_other : names mask p ≡ false
      → record { done : sum + unwritable_of mask (p + 1) (drop (p + 1) layout) ≡ total; bits : sum + mask % 2 ^ (16 - (p + 1)) ≤ mask }
  skips_other is = record {
    done = rw add-one (omega (arith, rw is at (unwritable_step mask p layout d p h)));
    bits = omega (arith, no_bit mask p small is);
  }

-- where nothing named is read only, a named attribute isn't
pub named_writable : (mask p : ℕ) (layout : List Attribute) (i : ℕ) → unwritable_of mask p layout ≡ 0 → names mask (p + i) ≡ true → read_only_at layout i ≡ false
named_writable mask p [] i none n = refl
named_writable mask p (a ∷ layout) zero none n = here (is_read_only a.access) refl
  where
    here : (b : Bool) → is_read_only a.access ≡ b → is_read_only a.access ≡ false
    here false e = e
    here true e =
        let named : names mask p ≡ true = subst (λ k. names mask k ≡ true) {x = p + 0} (omega arith) n in
        let sum : bit_of p + unwritable_of mask (suc p) layout ≡ 0 = rw (named, e) at none in
        let some : 0 < bit_of p = pow_pos (15 - p) in
        absurd (omega arith)
named_writable mask p (a ∷ layout) (suc i) none n =
    let named : names mask (suc p + i) ≡ true = subst (λ k. names mask k ≡ true) {x = p + suc i} (omega arith) n in
    named_writable mask (suc p) layout i (omega arith) named
