-- What a put does to the list, by the place of a key.
use Rattle.std.proofs.Common.{◌≡◌, ◌==◌, ℕ, suc, zero, ◌<◌, ◌≤◌, List, [], ◌∷◌, Bool, true, false, cond, Some, None, Err, map, length, get_or, set, refl, ap, sym, ◌∙◌, arith, nat_lt}
use Rattle.std.specs.List.{position, position_or_len, remove}
use Rattle.std.proofs.lemmas.Bool.{le-leb, lt-leb, ltb-false}
use Rattle.std.proofs.lemmas.List.{length-map}
use Rattle.std.proofs.lemmas.List.Quantifiers.{position-Some}
use Rattle.std.proofs.lemmas.List.Sums.{fails_before_first}
use Rattle.vlan_rule.specs.Edit.{IsEditFor, edited}
use Rattle.vlan_rule.specs.Entry.{key_of, refusal_of}
use Rattle.vlan_rule.specs.Rule.{IsRuleOf}
use Rattle.vlan_rule.specs.Table.{holds, is_deletion, left_by, overwritten, put, table_max_size, without}
use Rattle.vlan_rule.specs.declared.edit.Edit.{Edit}
use Rattle.vlan_rule.specs.declared.edit.Edit.TheVariants as edit
use Rattle.vlan_rule.specs.declared.fault.RuleFault.{RuleFault}
use Rattle.vlan_rule.specs.declared.fault.TableFault.TheVariants.{Bad, Full}
use Rattle.vlan_rule.specs.declared.rule.Rule.{Rule}

-- where an element of a list that is seen through f first passes
pub position-map : {X Y : Type 0} (f : X → Y) (p : Y → Bool) (xs : List X) → position p (map f xs) ≡ position (λ x. p (f x)) xs
position-map f p xs =
    let first = first-map f p xs in
    let same = length-map xs f in
    rw (first, same) refl
  where
    first-map : {X Y : Type 0} (f : X → Y) (p : Y → Bool) (xs : List X) → position_or_len p (map f xs) ≡ position_or_len (λ x. p (f x)) xs
    first-map f p [] = refl
    first-map f p (x ∷ xs) = let rest = first-map f p xs in rw rest refl

-- what an edit at a place does to the list, where a key is first found
pub record IsFound (new : List ℕ) (entries : List (List ℕ)) (at : ℕ) : Type 0 where
  pub in_range : at < length entries
  pub held : holds (key_of new) entries ≡ true
  pub removed : without (key_of new) entries ≡ remove entries at
  pub replaced : overwritten new entries ≡ set entries at new

pub found : (new : List ℕ) (entries : List (List ℕ)) (at : ℕ) → at < length entries
    → (key_of (get_or entries at []) == key_of new) ≡ true
    → ((k : ℕ) → k < at → (key_of (get_or entries k []) == key_of new) ≡ false)
    → IsFound new entries at
found new [] at within here before = absurd (omega arith)
found new (e ∷ rest) zero within here before =
    record { in_range = within; held = rw here refl; removed = rw here refl; replaced = rw here refl }
found new (e ∷ rest) (suc at) within here before =
    let first = before 0 (omega arith) in
    let later = found new rest at (omega arith) here (λ k h. before (suc k) (omega arith)) in
    let held = later.held in
    let removed = later.removed in
    let replaced = later.replaced in
    record { in_range = within; held = rw (first, held) refl; removed = rw (first, removed) refl; replaced = rw (first, replaced) refl }

-- a key that no entry has
absent : (key : ℕ) (entries : List (List ℕ)) → ((k : ℕ) → k < length entries → (key_of (get_or entries k []) == key) ≡ false) → holds key entries ≡ false
absent key [] none = refl
absent key (e ∷ rest) none =
    let first = none 0 (omega arith) in
    let later = absent key rest (λ k h. none (suc k) (omega arith)) in
    rw (first, later) refl

-- what the place of a key says
pub found_at : (new : List ℕ) (entries : List (List ℕ)) (at : ℕ) → position (λ e. key_of e == key_of new) entries ≡ Some at → IsFound new entries at
found_at new entries at is =
    let first = position-Some (λ e. key_of e == key_of new) entries at [] is in
    found new entries at first.0 first.1 first.2

pub absent_at : (key : ℕ) (entries : List (List ℕ)) → position (λ e. key_of e == key) entries ≡ None → holds key entries ≡ false
absent_at key entries is =
    let p : List ℕ → Bool = λ e. key_of e == key in
    let past = past-end (position_or_len p entries) (length entries) is in
    absent key entries (λ k h. fails_before_first p entries k [] (omega arith))
  where
    past-end : (i n : ℕ) → cond (nat_lt i n) (Some i) None ≡ None → n ≤ i
    past-end i n is = by_case (nat_lt i n) refl is
      where
        by_case : (b : Bool) → nat_lt i n ≡ b → cond b (Some i) None ≡ None → n ≤ i
        by_case true t is = cc
        by_case false t is = ltb-false i n t

-- ---- what a put does, by the place of the entry's key

pub put-deletes : (entries : List (List ℕ)) (new : List ℕ) (at : ℕ) → is_deletion new ≡ true → position (λ e. key_of e == key_of new) entries ≡ Some at → IsEditFor entries new (edit.Delete at)
unfolding put
put-deletes entries new at deletion is =
    let there = found_at new entries at is in
    let held = there.held in
    let removed = there.removed in
    record { possible = there.in_range; change = rw (deletion, held, removed) refl }

pub put-finds-none : (entries : List (List ℕ)) (new : List ℕ) → is_deletion new ≡ true → position (λ e. key_of e == key_of new) entries ≡ None → IsEditFor entries new edit.Absent
unfolding put
put-finds-none entries new deletion is =
    let gone = absent_at (key_of new) entries is in
    record { possible = tt; change = rw (deletion, gone) refl }

pub put-refuses : (entries : List (List ℕ)) (new : List ℕ) (fault : RuleFault) → is_deletion new ≡ false → refusal_of new ≡ Some fault → put entries new ≡ Err (Bad fault)
unfolding put
put-refuses entries new fault no_deletion refused = rw (no_deletion, refused) refl

pub put-replaces : (entries : List (List ℕ)) (new : List ℕ) (rule : Rule) (at : ℕ) → is_deletion new ≡ false → IsRuleOf new rule → position (λ e. key_of e == key_of new) entries ≡ Some at → IsEditFor entries new (edit.Replace at rule)
unfolding put
put-replaces entries new rule at no_deletion means is =
    let there = found_at new entries at is in
    let held = there.held in
    let replaced = there.replaced in
    let accepted = means.accepted in
    record { possible = (there.in_range, means); change = rw (no_deletion, accepted, held, replaced) refl }

pub put-adds : (entries : List (List ℕ)) (new : List ℕ) (rule : Rule) → is_deletion new ≡ false → IsRuleOf new rule → position (λ e. key_of e == key_of new) entries ≡ None → length entries < table_max_size → IsEditFor entries new (edit.Add rule)
unfolding put
put-adds entries new rule no_deletion means is free =
    let gone = absent_at (key_of new) entries is in
    let accepted = means.accepted in
    let below = lt-leb table_max_size (length entries) free in
    record { possible = (free, means); change = rw (no_deletion, accepted, gone, below) refl }

pub put-is_full : (entries : List (List ℕ)) (new : List ℕ) (rule : Rule) → is_deletion new ≡ false → IsRuleOf new rule → position (λ e. key_of e == key_of new) entries ≡ None → table_max_size ≤ length entries → put entries new ≡ Err Full
unfolding put
put-is_full entries new rule no_deletion means is full =
    let gone = absent_at (key_of new) entries is in
    let accepted = means.accepted in
    let above = le-leb table_max_size (length entries) full in
    rw (no_deletion, accepted, gone, above) refl

-- an element that is removed from a list that is seen through f
pub map-remove : {X Y : Type 0} (f : X → Y) (xs : List X) (i : ℕ) → map f (remove xs i) ≡ remove (map f xs) i
map-remove f [] zero = refl
map-remove f [] (suc i) = refl
map-remove f (x ∷ xs) zero = refl
map-remove f (x ∷ xs) (suc i) = ap (λ (rest : List _). f x ∷ rest) (map-remove f xs i)

-- what a put leaves, where the edit is done
pub left_by_edit : (entries : List (List ℕ)) (new : List ℕ) (e : Edit) (after : List (List ℕ)) → IsEditFor entries new e → after ≡ edited e new entries → after ≡ left_by entries (put entries new)
left_by_edit entries new e after is done = done ∙ sym (ap (left_by entries) is.change)
