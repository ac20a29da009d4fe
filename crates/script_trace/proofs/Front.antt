-- The entry of the table of class 171 stands among the first bytes of a Set: what may stand before it has eight.
use Rattle.std.proofs.Common.{◌≡◌, ◌≤◌, ◌+◌, ℕ, suc, Bool, true, false, cond, List, [], ◌∷◌, Option, Some, None, refl, arith}
use Rattle.std.specs.Prelude.{◌&&◌, option_map}
use Rattle.std.proofs.lemmas.Bool.{false≢true}
use Rattle.managed_entity.specs.declared.attribute.Attribute.{Attribute}
use Rattle.managed_entity.specs.Class.{has_table, is_table, tables_fit, vlan_layout}
use Rattle.managed_entity.specs.Mask.{names}
use Rattle.managed_entity.specs.Set.{entry_at}
use Rattle.managed_entity.proofs.Entry.{entry_fits}

-- the number of bytes of the attributes before the last table
abbrev pub front_of : List Attribute → ℕ
front_of [] = 0
front_of (a ∷ rest) = cond (has_table rest) (a.width + front_of rest) 0

second : (a b : Bool) → (a && b) ≡ true → b ≡ true
second true b e = e
second false b e = absurd (false≢true e)

front_cases : (named table more : Bool) (w at front : ℕ) (later : Option ℕ) → ((x : ℕ) → later ≡ Some x → (x ≤ front) × (more ≡ true))
    → cond named (cond table (Some 0) (option_map (λ x. w + x) later)) later ≡ Some at → at ≤ cond more (w + front) 0
front_cases true true more w at front later small is =
    let here : 0 ≡ at = cc in
    omega (arith, here)
front_cases true false more w at front None small is = absurd (let none : ◌≡◌ {A = Option ℕ} None (Some at) = is in cc)
front_cases true false more w at front (Some x) small is =
    let here : w + x ≡ at = cc in
    let s = small x refl in
    rw s.1 (omega (arith, s.0))
front_cases false table more w at front later small is =
    let s = small at is in
    rw s.1 (omega (arith, s.0))

front_fits : (mask p : ℕ) (layout : List Attribute) (at : ℕ) → tables_fit layout ≡ true → entry_at mask p layout ≡ Some at → at ≤ front_of layout
front_fits mask p [] at fits e = absurd (let none : ◌≡◌ {A = Option ℕ} None (Some at) = e in cc)
front_fits mask p (a ∷ rest) at fits e =
    let others : tables_fit rest ≡ true = second _ (tables_fit rest) fits in
    front_cases (names mask p) (is_table a.access) (has_table rest) a.width at (front_of rest) (entry_at mask (suc p) rest)
    (λ x is. (front_fits mask (suc p) rest x others is, (entry_fits mask (suc p) rest x others is).1)) e

-- where the entry of a Set on class 171 stands
pub vlan_front : (mask at : ℕ) → entry_at mask 0 vlan_layout ≡ Some at → at ≤ 8
vlan_front mask at e = front_fits mask 0 vlan_layout at refl e
