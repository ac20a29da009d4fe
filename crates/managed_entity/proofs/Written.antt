-- One step of writing the attributes that a mask names.
use Rattle.std.proofs.Common.{◌≡◌, ℕ, zero, suc, ◌+◌, ◌<◌, ◌≤◌, true, false, List, [], ◌∷◌, ◌++◌, length, get_or, set, take, drop, refl, ap, sym, arith, add-one, ◌-◌, length-take, length-drop}
use Rattle.std.proofs.lemmas.List.{drop-drop}
use Rattle.std.specs.Prelude.{if◌then◌else◌}
use Rattle.managed_entity.specs.declared.attribute.Attribute.{Attribute}
use Rattle.managed_entity.specs.Class.{width_at, is_table, table_at}
use Rattle.managed_entity.specs.Mask.{names, named_width}
use Rattle.managed_entity.specs.Write.{written}

-- a named attribute takes its bytes
pub written_named : (mask p : ℕ) (layout : List Attribute) (d : Attribute) (bytes : List ℕ) (i : ℕ) (values : List (List ℕ))
    → i < length layout → length values ≡ length layout → names mask p ≡ true → is_table (get_or layout i d).access ≡ false
    → take i values ++ written mask p (drop i layout) bytes (drop i values)
    ≡ take (suc i) (set values i (take (get_or layout i d).width bytes)) ++ written mask (suc p) (drop (suc i) layout) (drop (get_or layout i d).width bytes) (drop (suc i) (set values i (take (get_or layout i d).width bytes)))
written_named mask p [] d bytes i values h e n t = absurd (omega arith)
written_named mask p (a ∷ layout) d bytes i [] h e n t = absurd (omega arith)
written_named mask p (a ∷ layout) d bytes zero (v ∷ values) h e n t = rw (n, t) refl
written_named mask p (a ∷ layout) d bytes (suc i) (v ∷ values) h e n t = ap (λ rest. v ∷ rest) (written_named mask p layout d bytes i values (omega arith) (omega arith) n t)

-- the table's bytes are passed over
pub written_table : (mask p : ℕ) (layout : List Attribute) (d : Attribute) (bytes : List ℕ) (i : ℕ) (values : List (List ℕ))
    → i < length layout → length values ≡ length layout → names mask p ≡ true → is_table (get_or layout i d).access ≡ true
    → take i values ++ written mask p (drop i layout) bytes (drop i values)
    ≡ take (suc i) values ++ written mask (suc p) (drop (suc i) layout) (drop (get_or layout i d).width bytes) (drop (suc i) values)
written_table mask p [] d bytes i values h e n t = absurd (omega arith)
written_table mask p (a ∷ layout) d bytes i [] h e n t = absurd (omega arith)
written_table mask p (a ∷ layout) d bytes zero (v ∷ values) h e n t = rw (n, t) refl
written_table mask p (a ∷ layout) d bytes (suc i) (v ∷ values) h e n t = ap (λ rest. v ∷ rest) (written_table mask p layout d bytes i values (omega arith) (omega arith) n t)

pub table_at-get_or : (layout : List Attribute) (d : Attribute) (i : ℕ) → i < length layout → table_at layout i ≡ is_table (get_or layout i d).access
table_at-get_or [] d i h = absurd (omega arith)
table_at-get_or (a ∷ layout) d zero h = refl
table_at-get_or (a ∷ layout) d (suc i) h = table_at-get_or layout d i (omega arith)

-- another keeps its value
pub written_other : (mask p : ℕ) (layout : List Attribute) (bytes : List ℕ) (i : ℕ) (values : List (List ℕ))
    → i < length layout → length values ≡ length layout → names mask p ≡ false
    → take i values ++ written mask p (drop i layout) bytes (drop i values)
    ≡ take (suc i) values ++ written mask (suc p) (drop (suc i) layout) bytes (drop (suc i) values)
written_other mask p [] bytes i values h e n = absurd (omega arith)
written_other mask p (a ∷ layout) bytes i [] h e n = absurd (omega arith)
written_other mask p (a ∷ layout) bytes zero (v ∷ values) h e n = rw n refl
written_other mask p (a ∷ layout) bytes (suc i) (v ∷ values) h e n = ap (λ rest. v ∷ rest) (written_other mask p layout bytes i values (omega arith) (omega arith) n)

-- how many bytes the attributes from place i on take
pub named_width_step : (mask p : ℕ) (layout : List Attribute) (d : Attribute) (i : ℕ) → i < length layout
    → named_width mask p (drop i layout) ≡ (if names mask p then (get_or layout i d).width else 0) + named_width mask (suc p) (drop (suc i) layout)
named_width_step mask p [] d i h = absurd (omega arith)
named_width_step mask p (a ∷ layout) d zero h = refl
named_width_step mask p (a ∷ layout) d (suc i) h = named_width_step mask p layout d i (omega arith)

-- the width at a place is that of the attribute there
pub width_at-get_or : (layout : List Attribute) (d : Attribute) (i : ℕ) → i < length layout → width_at layout i ≡ (get_or layout i d).width
width_at-get_or [] d i h = absurd (omega arith)
width_at-get_or (a ∷ layout) d zero h = refl
width_at-get_or (a ∷ layout) d (suc i) h = width_at-get_or layout d i (omega arith)

-- the bytes of a named attribute are there, and as many as its width
pub takes_width : (mask p used : ℕ) (layout : List Attribute) (d : Attribute) (bytes : List ℕ)
    → p < length layout → names mask p ≡ true → used + named_width mask p (drop p layout) ≤ length bytes
    → length (take (used + (get_or layout p d).width - used) (drop used bytes)) ≡ width_at layout p
takes_width mask p used layout d bytes h n room =
    let step = named_width_step mask p layout d p h in
    let wide : used + (get_or layout p d).width ≤ length bytes = omega (arith, rw n at step) in
    rw (width_at-get_or layout d p h) (simp (length-take, length-drop) (omega arith))

pub room_named : (mask p used : ℕ) (layout : List Attribute) (d : Attribute) (n : ℕ)
    → p < length layout → names mask p ≡ true → used + named_width mask p (drop p layout) ≤ n
    → used + (get_or layout p d).width + named_width mask (p + 1) (drop (p + 1) layout) ≤ n
room_named mask p used layout d n h is room =
    let step = named_width_step mask p layout d p h in
    rw (add-one) (omega (arith, rw is at step))

pub room_other : (mask p used : ℕ) (layout : List Attribute) (d : Attribute) (n : ℕ)
    → p < length layout → names mask p ≡ false → used + named_width mask p (drop p layout) ≤ n
    → used + named_width mask (p + 1) (drop (p + 1) layout) ≤ n
room_other mask p used layout d n h is room =
    let step = named_width_step mask p layout d p h in
    rw (add-one) (omega (arith, rw is at step))

-- in the form of the loop
pub done_named : (mask p used : ℕ) (layout : List Attribute) (d : Attribute) (bytes : List ℕ) (values now : List (List ℕ))
    → p < length layout → length values ≡ length layout → names mask p ≡ true → is_table (get_or layout p d).access ≡ false
    → now ≡ set values p (take (used + (get_or layout p d).width - used) (drop used bytes))
    → take (p + 1) now ++ written mask (p + 1) (drop (p + 1) layout) (drop (used + (get_or layout p d).width) bytes) (drop (p + 1) now)
    ≡ take p values ++ written mask p (drop p layout) (drop used bytes) (drop p values)
done_named mask p used layout d bytes values now h e n t is =
    let w = (get_or layout p d).width in
    let same : used + w - used ≡ w = omega arith in
    rw (is, same, add-one, ← drop-drop w used bytes) (sym (written_named mask p layout d (drop used bytes) p values h e n t))

pub done_table : (mask p used : ℕ) (layout : List Attribute) (d : Attribute) (bytes : List ℕ) (values : List (List ℕ))
    → p < length layout → length values ≡ length layout → names mask p ≡ true → is_table (get_or layout p d).access ≡ true
    → take (p + 1) values ++ written mask (p + 1) (drop (p + 1) layout) (drop (used + (get_or layout p d).width) bytes) (drop (p + 1) values)
    ≡ take p values ++ written mask p (drop p layout) (drop used bytes) (drop p values)
done_table mask p used layout d bytes values h e n t =
    rw (add-one, ← drop-drop (get_or layout p d).width used bytes) (sym (written_table mask p layout d (drop used bytes) p values h e n t))

pub done_other : (mask p : ℕ) (layout : List Attribute) (bytes : List ℕ) (values : List (List ℕ))
    → p < length layout → length values ≡ length layout → names mask p ≡ false
    → take (p + 1) values ++ written mask (p + 1) (drop (p + 1) layout) bytes (drop (p + 1) values)
    ≡ take p values ++ written mask p (drop p layout) bytes (drop p values)
done_other mask p layout bytes values h e n = rw add-one (sym (written_other mask p layout bytes p values h e n))
