-- Where the entry of the table stands among the bytes of a Set.
use Rattle.std.proofs.Common.{◌≡◌, ℕ, zero, suc, ◌+◌, ◌<◌, ◌≤◌, Bool, true, false, cond, eqb, List, [], ◌∷◌, length, get_or, drop, Some, None, Option, refl, sym, ap, ◌∙◌, arith, add-one}
use Rattle.std.specs.Prelude.{if◌then◌else◌, ◌&&◌, option_map}
use Rattle.std.proofs.lemmas.Bool.{eqb-true, false≢true}
use Rattle.std.specs.Prelude.{Result, Ok, Err}
use Rattle.vlan_rule.specs.declared.fault.TableFault.{TableFault}
use Rattle.vlan_rule.specs.Table.{Change}
use Rattle.vlan_rule.specs.Table as table
use Rattle.managed_entity.specs.Answer.{left_by}
use Rattle.managed_entity.specs.declared.attribute.Attribute.{Attribute}
use Rattle.managed_entity.specs.Class.{is_table, has_table, tables_fit}
use Rattle.managed_entity.specs.Mask.{names, named_width}
use Rattle.managed_entity.specs.Set.{entry_at, entries_by}

-- the offset of the entry, from place i on
entry_step : (mask p : ℕ) (layout : List Attribute) (d : Attribute) (i : ℕ) → i < length layout
    → entry_at mask p (drop i layout) ≡ (if names mask p then (if is_table (get_or layout i d).access then Some 0 else option_map (λ at. (get_or layout i d).width + at) (entry_at mask (suc p) (drop (suc i) layout))) else entry_at mask (suc p) (drop (suc i) layout))
entry_step mask p [] d i h = absurd (omega arith)
entry_step mask p (a ∷ layout) d zero h = refl
entry_step mask p (a ∷ layout) d (suc i) h = entry_step mask p layout d i (omega arith)

later : (a b : ℕ) (o : Option ℕ) → option_map (λ x. a + x) (option_map (λ x. b + x) o) ≡ option_map (λ x. a + b + x) o
later a b None = refl
later a b (Some x) = ap Some (omega arith)

module _ (mask p at : ℕ) (layout : List Attribute) (d : Attribute) (h : p < length layout) (whole : Option ℕ)
    (kept : option_map (λ x. at + x) (entry_at mask p (drop p layout)) ≡ whole) where
  pub entry_here : names mask p ≡ true → is_table (get_or layout p d).access ≡ true → Some at ≡ whole
  entry_here n t =
      let first : entry_at mask p (drop p layout) ≡ Some 0 = entry_step mask p layout d p h ∙ rw (n, t) refl in
      let e : at ≡ at + 0 = omega arith in
      ap Some e ∙ sym (ap (option_map (λ x. at + x)) first) ∙ kept

  step_later : names mask p ≡ true → is_table (get_or layout p d).access ≡ false → entry_at mask p (drop p layout) ≡ option_map (λ x. (get_or layout p d).width + x) (entry_at mask (suc p) (drop (suc p) layout))
  step_later n t = entry_step mask p layout d p h ∙ rw (n, t) refl

  step_other : names mask p ≡ false → entry_at mask p (drop p layout) ≡ entry_at mask (suc p) (drop (suc p) layout)
  step_other n = entry_step mask p layout d p h ∙ rw n refl

  pub entry_later : names mask p ≡ true → is_table (get_or layout p d).access ≡ false → option_map (λ x. at + (get_or layout p d).width + x) (entry_at mask (p + 1) (drop (p + 1) layout)) ≡ whole
  entry_later n t = rw add-one (sym (later at (get_or layout p d).width (entry_at mask (suc p) (drop (suc p) layout))) ∙ sym (ap (option_map (λ x. at + x)) (step_later n t)) ∙ kept)

  pub entry_other : names mask p ≡ false → option_map (λ x. at + x) (entry_at mask (p + 1) (drop (p + 1) layout)) ≡ whole
  entry_other n = rw add-one (sym (ap (option_map (λ x. at + x)) (step_other n)) ∙ kept)

both : (a b : Bool) → (a && b) ≡ true → (a ≡ true) × (b ≡ true)
both true b e = (refl, e)
both false b e = absurd (false≢true e)

fits_cases : (w at n : ℕ) (b t f h : Bool) (o : Option ℕ) → (cond t (eqb w 16) true && f) ≡ true → cond b (cond t (Some 0) (option_map (λ x. w + x) o)) o ≡ Some at
    → (f ≡ true → (x : ℕ) → o ≡ Some x → (x + 16 ≤ n) × (h ≡ true)) → (at + 16 ≤ cond b w 0 + n) × (cond t true h ≡ true)
fits_cases w at n true true f h o fits e later =
    let zero_is : 0 ≡ at = cc in
    let wide : w ≡ 16 = eqb-true w 16 (both (eqb w 16) f fits).0 in
    (omega arith, refl)
fits_cases w at n true false f h None fits e later = absurd (let none : ◌≡◌ {A = Option ℕ} None (Some at) = e in cc)
fits_cases w at n true false f h (Some x) fits e later =
    let here : w + x ≡ at = cc in
    let rest = later (both true f fits).1 x refl in
    (omega (arith, rest.0), rest.1)
fits_cases w at n false true f h o fits e later = let rest = later (both (eqb w 16) f fits).1 at e in (omega (arith, rest.0), refl)
fits_cases w at n false false f h o fits e later = let rest = later (both true f fits).1 at e in (omega (arith, rest.0), rest.1)

-- an entry that is named stands within the bytes, in a class with a table
pub entry_fits : (mask p : ℕ) (layout : List Attribute) (at : ℕ) → tables_fit layout ≡ true → entry_at mask p layout ≡ Some at → (at + 16 ≤ named_width mask p layout) × (has_table layout ≡ true)
entry_fits mask p [] at fits e = absurd (let none : ◌≡◌ {A = Option ℕ} None (Some at) = e in cc)
entry_fits mask p (a ∷ layout) at fits e = fits_cases a.width at (named_width mask (suc p) layout) (names mask p) (is_table a.access) (tables_fit layout) (has_table layout) (entry_at mask (suc p) layout) fits e (λ ok x is. entry_fits mask (suc p) layout x ok is)

-- what a put leaves, as the entries of a class
pub left_by_put : (old : List (List ℕ)) (r : Result Change TableFault) → table.left_by old r ≡ left_by old (entries_by r)
left_by_put old (Ok change) = refl
left_by_put old (Err fault) = refl
