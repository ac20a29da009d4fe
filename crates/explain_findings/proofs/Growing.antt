-- Lists that grow by what one item after another gives.
use Rattle.std.proofs.Common.{◌≡◌, ℕ, zero, suc, ◌+◌, ◌^◌, ◌<◌, ◌≤◌, Bool, true, false, not, List, [], ◌∷◌, ◌++◌, Option, Some, None, get_or, length, map, take, refl, ap, sym, ◌∙◌, append_assoc, append-nil, arith}
use Rattle.std.specs.Prelude.{if◌then◌else◌, is_none, is_some, option_map, slice_get}
use Rattle.std.specs.Prelude as list
use Rattle.std.specs.Bool.{then_some}
use Rattle.std.specs.List.{cons_option, filter_map, flat_map}
use Rattle.std.specs.Option.{option_map_or, option_to_list}
use Rattle.std.proofs.lemmas.List.{map-append, take_all, take_more}
use Rattle.std.proofs.lemmas.List.Elements.{filter_map-append}
use Rattle.std.proofs.lemmas.Grind.{flat_map-append}
use Rattle.std.proofs.lemmas.Option.{get_or_from_slice_get, slice_get-get_or, slice_get_within}
use Rattle.pmapper.specs.declared.interwork.Interwork.{Interwork}
use Rattle.pmapper.specs.Mapper.{pointer_of}
use Rattle.managed_entity.specs.declared.class.Class.{Class}
use Rattle.managed_entity.specs.Class.{class_number}
use Rattle.managed_entity.specs.Instance.{Instance, attribute_number}
use Rattle.managed_entity.specs.Shown.{interwork_instance}
use Rattle.mib_state.specs.Entities.{Entities, find, instances_of}
use Rattle.mib_state.specs.Attached.{mapper_of_port, table_of_port}
use Rattle.frame_meaning.specs.Meaning.{pointers_at}
use Rattle.frame_meaning.proofs.Numbers.{gem_port_pointer_number}
use Rattle.explain_findings.specs.Reach.{gem_port_pointer, numbers, pointers_of, ports, priorities, reach_from, reached, reached_gem_ports, reached_mappers, reached_points, reached_tables, set_pointers}
use Rattle.explain_findings.specs.Findings.{another, findings_of, has_port_id, instance_findings, shared_by, shared_port_id}

-- ---- one more item

-- the items up to one
pub taken : {X : Type 0} (l : List X) (i : ℕ) (x : X) → slice_get l i ≡ Some x → take (i + 1) l ≡ take i l ++ x ∷ []
taken {X} l i x is = take_more l i x (slice_get_within l i x is) ∙ ap (λ (y : X). take i l ++ y ∷ []) (get_or_from_slice_get l i x x is)

-- no item stands there
pub past : {X : Type 0} (l : List X) (i : ℕ) → slice_get l i ≡ None → length l ≤ i
past [] i is = omega arith
past (x ∷ l) zero is = cc
past (x ∷ l) (suc i) is = omega (arith, past l i is)

pub all_taken : {X : Type 0} (l : List X) (i : ℕ) → slice_get l i ≡ None → take i l ≡ l
all_taken l i is = take_all i l (past l i is)

single : {Y : Type 0} (o : Option Y) → cons_option o [] ≡ option_to_list o
single None = refl
single (Some y) = refl

pub filter_map_more : {X Y : Type 0} (f : X → Option Y) (l : List X) (i : ℕ) (x : X) → slice_get l i ≡ Some x
    → filter_map f (take (i + 1) l) ≡ filter_map f (take i l) ++ option_to_list (f x)
filter_map_more {X} {Y} f l i x is =
    ap (filter_map f) (taken l i x is) ∙ filter_map-append f (take i l) (x ∷ []) ∙ ap (λ (ys : List Y). filter_map f (take i l) ++ ys) (single (f x))

pub flat_map_step : {X Y : Type 0} (f : X → List Y) (l : List X) (i : ℕ) (x : X) → slice_get l i ≡ Some x → flat_map f (take (i + 1) l) ≡ flat_map f (take i l) ++ f x
flat_map_step {X} {Y} f l i x is =
    ap (flat_map f) (taken l i x is) ∙ flat_map-append f (take i l) (x ∷ []) ∙ ap (λ (ys : List Y). flat_map f (take i l) ++ ys) (append-nil (f x))

-- the same of an item by its index
at_index : {X : Type 0} (l : List X) (i : ℕ) (d : X) → i < length l → slice_get l i ≡ Some (get_or l i d)
at_index l i d within = slice_get-get_or l i d within

-- those that there are of what a function gives
pub filter_map_mapped : {X Y : Type 0} (f : X → Option Y) (l : List X) → filter_map (λ o. o) (map f l) ≡ filter_map f l
filter_map_mapped f [] = refl
filter_map_mapped {X} {Y} f (x ∷ l) = ap (λ (ys : List Y). cons_option (f x) ys) (filter_map_mapped f l)

-- ---- what has grown

-- one more step behind what there was
pub grown : {Y : Type 0} (initial before step after items new : List Y) → items ≡ initial ++ before → after ≡ before ++ step → new ≡ items ++ step → new ≡ initial ++ after
grown {Y} initial before step after items new is more appended =
    appended ∙ ap (λ (ys : List Y). ys ++ step) is ∙ append_assoc initial before step ∙ ap (λ (ys : List Y). initial ++ ys) (sym more)

-- one more of a list that is walked by places
pub placed : {X Y : Type 0} (f : X → Option Y) (l : List X) (i : ℕ) (x : X) (o : Option Y) (initial items new : List Y) → slice_get l i ≡ Some x
    → items ≡ initial ++ filter_map f (take i l) → o ≡ f x → new ≡ items ++ option_to_list o → new ≡ initial ++ filter_map f (take (i + 1) l)
placed {X} {Y} f l i x o initial items new is so_far gives appended =
    grown initial (filter_map f (take i l)) (option_to_list (f x)) (filter_map f (take (i + 1) l)) items new so_far (filter_map_more f l i x is)
    (appended ∙ ap (λ (p : Option Y). items ++ option_to_list p) gives)

pub all_placed : {X Y : Type 0} (f : X → Option Y) (l : List X) (i : ℕ) (initial items : List Y) → slice_get l i ≡ None
    → items ≡ initial ++ filter_map f (take i l) → items ≡ initial ++ filter_map f l
all_placed {X} {Y} f l i initial items is so_far = so_far ∙ ap (λ (xs : List X). initial ++ filter_map f xs) (all_taken l i is)

-- one more of a list that is walked by its index
pub indexed : {X Y : Type 0} (f : X → Option Y) (l : List X) (i : ℕ) (d : X) (o : Option Y) (initial items new : List Y) → i < length l
    → items ≡ initial ++ filter_map f (take i l) → o ≡ f (get_or l i d) → new ≡ items ++ option_to_list o → new ≡ initial ++ filter_map f (take (i + 1) l)
indexed f l i d o initial items new within so_far gives appended = placed f l i (get_or l i d) o initial items new (at_index l i d within) so_far gives appended

-- and of lists
pub joined : {X Y : Type 0} (f : X → List Y) (l : List X) (i : ℕ) (d : X) (initial items new : List Y) → i < length l
    → items ≡ initial ++ flat_map f (take i l) → new ≡ items ++ f (get_or l i d) → new ≡ initial ++ flat_map f (take (i + 1) l)
joined f l i d initial items new within so_far appended =
    grown initial (flat_map f (take i l)) (f (get_or l i d)) (flat_map f (take (i + 1) l)) items new so_far (flat_map_step f l i (get_or l i d) (at_index l i d within)) appended

-- the numbers of instances that are walked by places
pub numbered_more : (l : List Instance) (i : ℕ) (x : Instance) (n : ℕ) (items new : List ℕ) → slice_get l i ≡ Some x → items ≡ map (λ i. i.number) (take i l) → n ≡ x.number
    → new ≡ items ++ n ∷ [] → new ≡ map (λ i. i.number) (take (i + 1) l)
numbered_more l i x n items new is so_far numbered appended =
    appended ∙ ap (λ (ns : List ℕ). ns ++ n ∷ []) so_far ∙ ap (λ (m : ℕ). map (λ i. i.number) (take i l) ++ m ∷ []) numbered
    ∙ sym (ap (map (λ i. i.number)) (taken l i x is) ∙ map-append (λ i. i.number) (take i l) (x ∷ []))

pub all_numbered : (l : List Instance) (i : ℕ) (items : List ℕ) → slice_get l i ≡ None → items ≡ map (λ i. i.number) (take i l) → items ≡ map (λ i. i.number) l
all_numbered l i items is so_far = so_far ∙ ap (λ (xs : List Instance). map (λ i. i.number) xs) (all_taken l i is)

-- the port, or other number, of a point
pub pointed : (n : ℕ) (point : Interwork) (found : Option Instance) (pointer : ℕ) → pointer ≡ point.gem_port_pointer → point.gem_port_pointer < 2 ^ 16
    → Some (interwork_instance n point) ≡ found → Some pointer ≡ option_map (attribute_number 1) found
pointed n point found pointer is fits there = rw (← there) (ap Some (is ∙ sym (gem_port_pointer_number n point fits)))

-- the pointers of a mapper that is found
pub pointers_there : (e : Entities) (n : ℕ) (mapper : Instance) (pointers : List (Option ℕ)) → Some mapper ≡ find n e.mappers
    → pointers ≡ map (pointer_of (pointers_at mapper)) priorities → filter_map (λ o. o) pointers ≡ pointers_of e n
pointers_there e n mapper pointers there are =
    ap (filter_map (λ o. o)) are ∙ filter_map_mapped (pointer_of (pointers_at mapper)) priorities
    ∙ ap (λ found. option_map_or set_pointers found []) there

-- what pointers lead to from ports, one part after another
pub from_ports_is : (e : Entities) (at tables mappers points gem_ports all : List ℕ) → tables ≡ filter_map (table_of_port e) at
    → mappers ≡ filter_map (mapper_of_port e) at → points ≡ flat_map (pointers_of e) mappers → gem_ports ≡ filter_map (gem_port_pointer e) points → all ≡ numbers e.gem_ports
    → record { tables = tables; mappers = mappers; points = points; gem_ports = gem_ports; all_gem_ports = all } ≡ reach_from e at
unfolding reach_from
from_ports_is e at tables mappers points gem_ports all b c d f g = rw (g, f, d, c, b) refl

pub reached_is : (e : Entities) → reach_from e (ports e) ≡ reached e
unfolding reach_from reached reached_tables reached_mappers reached_points reached_gem_ports
reached_is e = refl

-- the findings of an instance that is found
pub instance_is : (e : Entities) (c : Class) (n : ℕ) (i : Instance) → Some i ≡ find n (instances_of e (class_number c)) → findings_of e c i ≡ instance_findings e c n
unfolding instance_findings
instance_is e c n i there = ap (λ found. option_map_or (findings_of e c) found []) there

pub then_is : {X : Type 0} (b : Bool) (x : X) → then_some b x ≡ (if b then Some x else None)
then_is true x = refl
then_is false x = refl

pub is_none-mapped : {X Y : Type 0} (f : X → Y) (o : Option X) → is_none (option_map f o) ≡ is_none o
is_none-mapped f None = refl
is_none-mapped f (Some x) = refl

-- the first of a port-ID, and what follows
pub shared_is : (e : Entities) (gem : Instance) (id : ℕ) (all : List ℕ) (first o : Option ℕ) → id ≡ attribute_number 1 gem → all ≡ numbers e.gem_ports
    → first ≡ list.find (has_port_id e id) all → o ≡ another first gem.number → shared_by gem.number id o ≡ shared_port_id e gem
shared_is e gem id all first o is are found other = rw (other, found, are, is) refl

-- whether nothing is found, by the call that looks
pub is_none-found : {X Y : Type 0} (f : X → Y) (o : Option X) (found : Option Y) (none : Bool) → is_some o ≡ not none → option_map f o ≡ found → none ≡ is_none found
is_none-found f o found none some is = back none (is_some o) some ∙ sym (is_none-mapped f o) ∙ ap is_none is
  where
    back : (b c : Bool) → c ≡ not b → b ≡ not c
    back true c is = rw is refl
    back false c is = rw is refl
