-- Which bytes of values are a unit's own, one attribute on.
use Rattle.std.proofs.Common.{◌≡◌, ℕ, zero, suc, ◌+◌, ◌-◌, ◌<◌, ◌≤◌, Bool, true, false, List, [], ◌∷◌, length, get_or, drop, refl, sym, ◌∙◌, arith, add-one}
use Rattle.std.specs.Prelude.{if◌then◌else◌, not, nat_lt}
use Rattle.std.proofs.lemmas.Bool.{le-ltb}
use Rattle.managed_entity.specs.declared.attribute.Attribute.{Attribute}
use Rattle.managed_entity.specs.Mask.{names}
use Rattle.bench_reply.specs.Replies.{is_own, is_own_byte, returned_width}

own_step : (mask p : ℕ) (layout : List Attribute) (d : Attribute) (i byte : ℕ) → i < length layout
    → is_own_byte mask p (drop i layout) byte ≡ (if not (names mask p) then is_own_byte mask (suc p) (drop (suc i) layout) byte
    else (if nat_lt byte (returned_width (get_or layout i d)) then is_own (get_or layout i d).access
    else is_own_byte mask (suc p) (drop (suc i) layout) (byte - returned_width (get_or layout i d))))
own_step mask p [] d i byte h = absurd (omega (arith, h))
own_step mask p (a ∷ layout) d zero byte h = refl
own_step mask p (a ∷ layout) d (suc i) byte h = own_step mask p layout d i byte (omega (arith, h))

module _ (mask p byte : ℕ) (layout : List Attribute) (d : Attribute) (h : p < length layout) (whole : Bool)
    (kept : is_own_byte mask p (drop p layout) byte ≡ whole) where
  -- an attribute that isn't named has no byte
  pub own_other : names mask p ≡ false → is_own_byte mask (p + 1) (drop (p + 1) layout) byte ≡ whole
  own_other n =
      let step : is_own_byte mask p (drop p layout) byte ≡ is_own_byte mask (suc p) (drop (suc p) layout) byte = own_step mask p layout d p byte h ∙ rw n refl in
      rw add-one (sym step ∙ kept)

  -- a byte of a named one is as the attribute is
  pub own_here : names mask p ≡ true → nat_lt byte (returned_width (get_or layout p d)) ≡ true → is_own (get_or layout p d).access ≡ whole
  own_here n lt =
      let step : is_own_byte mask p (drop p layout) byte ≡ is_own (get_or layout p d).access = own_step mask p layout d p byte h ∙ rw (n, lt) refl in
      sym step ∙ kept

  -- one behind it is looked up among the rest
  pub own_later : names mask p ≡ true → returned_width (get_or layout p d) ≤ byte
      → is_own_byte mask (p + 1) (drop (p + 1) layout) (byte - returned_width (get_or layout p d)) ≡ whole
  own_later n behind =
      let past : nat_lt byte (returned_width (get_or layout p d)) ≡ false = le-ltb byte (returned_width (get_or layout p d)) behind in
      let step : is_own_byte mask p (drop p layout) byte ≡ is_own_byte mask (suc p) (drop (suc p) layout) (byte - returned_width (get_or layout p d)) =
      own_step mask p layout d p byte h ∙ rw (n, past) refl in
      rw add-one (sym step ∙ kept)
