-- What is compiled of instances, each at its place.
use Rattle.std.proofs.Common.{◌≡◌, ◌≢◌, ℕ, nat_eq, Bool, true, false, zero, suc, ◌+◌, ◌<◌, ◌≤◌, List, [], ◌∷◌, ◌++◌, take, drop, length, map, set, get_or, Option, Some, None, refl, ap, sym, ◌∙◌, arith, inl, inr}
use Rattle.std.specs.Prelude.{◌==◌, if◌then◌else◌, slice_get}
use Rattle.std.specs.Option.{option_and_then, option_eq, option_map, unwrap_or}
use Rattle.std.proofs.lemmas.Bool.{cases_eq, cases_lt, eq-eqb, eqb-true, true≢false}
use Rattle.std.specs.List.{swap}
use Rattle.std.proofs.lemmas.List.Edits.{Swapped, length-swap, swapped_from_swap}
use Rattle.std.proofs.lemmas.List.{get_or-set_other, get_or-set_same, length-set}
use Rattle.std.proofs.lemmas.Option.{get_or_from_slice_get, none-some, same_Some, slice_get-get_or, slice_get_past, slice_get_within}
use Rattle.managed_entity.specs.Class.{mapper_class}
use Rattle.managed_entity.specs.Instance.{Instance}
use Rattle.mib_state.specs.Entities.{Entities, find, place_in}
use Rattle.mib_state.specs.Attached.{mapper_of_port, table_of_port}
use Rattle.mib_state.specs.Touch.{AreSame, AreSameButOne}
use Rattle.frame_meaning.specs.Meaning.{mapper_at, table_at, table_of}
use Rattle.port_plan.specs.declared.port_plan.PortPlan.{PortPlan}
use Rattle.port_plan.specs.declared.routes.Routes.{Routes}
use Rattle.port_plan.specs.Leaving.{IsPlanOf}
use Rattle.port_plan.proofs.Reading.{same_routes}
use Rattle.port_plan.specs.Plan.{AreRoutes, DoesNotRead, TablePlan, transparent}
use Rattle.forward_plan.specs.declared.part.Part.{Part}
use Rattle.forward_plan.specs.declared.plan.Plan.{Plan}
use Rattle.forward_plan.specs.declared.ports.Ports.{Ports}
use Rattle.forward_plan.specs.Attachment.{ArePorts, mapper_naming, place_or_none, table_naming}
use Rattle.forward_plan.specs.Compiled.{IsBehind, IsCompiled}
use Rattle.forward_plan.proofs.Attachments.{attached_same}
use Rattle.forward_plan.specs.Parts.{AreFirstKept, AreForgotten, AreMoved, AreNone, AreParts, AreRight, IsMapper, IsPartOf, IsTable, NoneIsOf}

-- numbers that are found to be the same
pub same_number : (a b : Option ℕ) → option_eq nat_eq a b ≡ true → a ≡ b
same_number None None is = refl
same_number None (Some y) is = absurd (true≢false (sym is))
same_number (Some x) None is = absurd (true≢false (sym is))
same_number (Some x) (Some y) is = ap Some (eqb-true x y is)

-- numbers that are found to differ
pub other_number : (a b : Option ℕ) → option_eq nat_eq a b ≡ false → a ≢ b
other_number None None is same = absurd (true≢false is)
other_number None (Some y) is same = absurd (none-some y same)
other_number (Some x) None is same = absurd (none-some x (sym same))
other_number (Some x) (Some y) is same = absurd (true≢false (sym (eq-eqb x y (same_Some x y same)) ∙ is))

-- one more part that differs
pub none_further : {T : Type 0} (parts : List (Part T)) (from at : ℕ) (of : Option ℕ) (here : Part T) → slice_get parts at ≡ Some here
    → option_eq nat_eq here.of of ≡ false → NoneIsOf parts from at of → NoneIsOf parts from (at + 1) of
none_further {T} parts from at of here is other before k part after less held = elim (cases_eq k at) [
  | inl same ↦
      let it : part ≡ here = same_Some part here (sym held ∙ (ap (slice_get parts) same ∙ is)) in
      λ of_it. other_number here.of of other (ap (λ (p : Part T). p.of) (sym it) ∙ of_it)
  | inr differs ↦ before k part after (omega arith) held
]

-- two parts in each other's place, neither of them before a place
module _ {T : Type 0} (old new : List (Part T)) (place at : ℕ) (part : Part T) (from : place ≤ at) (within : at < length old)
    (is : new ≡ swap old place at) (held : slice_get old at ≡ Some part) where
  swapped : Swapped (λ i. get_or old i part) (λ i. get_or new i part) place at
  swapped = swapped_from_swap old new place at part (omega arith) within is

  long : length new ≡ length old
  long = ap length is ∙ length-swap old place at

  read : (k j : ℕ) (p : Part T) → j < length old → get_or new k part ≡ get_or old j part → slice_get new k ≡ Some p → slice_get old j ≡ Some p
  read k j p inside same found = slice_get-get_or old j part inside ∙ ap Some (sym same ∙ get_or_from_slice_get new k p part found)

  pub moved_by_swap : AreMoved old new place
  moved_by_swap = record {
    len = long;
    before = λ k less.
        slice_get-get_or new k part (omega (arith, long))
        ∙ ap Some (swapped.2 k (λ same. absurd (omega arith)) (λ same. absurd (omega arith)))
        ∙ sym (slice_get-get_or old k part (omega arith));
    each = λ k p found. elim (cases_eq k place) [
      | inl same ↦ (at, read k at p within (ap (λ (n : ℕ). get_or new n part) same ∙ swapped.0) found)
      | inr not_place ↦ elim (cases_eq k at) [
        | inl same ↦ (place, read k place p (omega arith) (ap (λ (n : ℕ). get_or new n part) same ∙ swapped.1) found)
        | inr not_at ↦
            let inside : k < length new = slice_get_within new k p found in
            (k, read k k p (omega (arith, long)) (swapped.2 k not_place not_at) found)
      ]
    ];
  }

  pub brought : (number : ℕ) → part.of ≡ Some number → IsPartOf new place number
  brought number of = record {
    part = part;
    held = slice_get-get_or new place part (omega (arith, long)) ∙ ap Some (swapped.0 ∙ get_or_from_slice_get old at part part held);
    of = of;
  }

-- ---- one part after another

module _ {T : Type 0} (Is : Instance → T → Type 0) (instances : List Instance) where
  pub moved_right : (old new : List (Part T)) (place : ℕ) → AreMoved old new place → AreRight Is instances old → AreRight Is instances new
  moved_right old new place moved right k part held = let was = moved.each k part held in right was.0 part was.1

  pub moved_kept : (old new : List (Part T)) (place : ℕ) → AreMoved old new place → AreFirstKept Is instances old place
      → AreFirstKept Is instances new place
  moved_kept old new place moved kept k i before here =
      let was = kept k i before here in
      record { kept = was.kept; held = moved.before k before ∙ was.held; right = was.right }

  pub none_kept : (parts : List (Part T)) → AreFirstKept Is instances parts 0
  none_kept parts place i before = absurd (omega arith)

  -- one more, which is there
  pub there_kept : (parts : List (Part T)) (place number : ℕ) (here : Instance) → Some here ≡ slice_get instances place
      → find number instances ≡ slice_get instances place → IsPartOf parts place number → AreRight Is instances parts
      → AreFirstKept Is instances parts place → AreFirstKept Is instances parts (place + 1)
  there_kept parts place number here is found there right before k i earlier held = elim (cases_eq k place) [
    | inl same ↦
        let at : slice_get instances place ≡ Some i = ap (slice_get instances) (sym same) ∙ held in
        record {
          kept = there.part;
          held = ap (slice_get parts) same ∙ there.held;
          right = right place there.part there.held number i there.of (found ∙ at);
        }
    | inr differs ↦ before k i (omega arith) held
  ]

  -- one more, which is compiled
  module _ (parts : List (Part T)) (place number : ℕ) (here : Instance) (part : Part T) (within : place < length parts)
      (is : Some here ≡ slice_get instances place) (found : find number instances ≡ slice_get instances place)
      (of : part.of ≡ Some number) (right : Is here part.compiled) where
    inside_still : place < length (set parts place part)
    inside_still = omega (arith, length-set parts place part)

    there : slice_get (set parts place part) place ≡ Some part
    there = slice_get-get_or (set parts place part) place part inside_still ∙ ap Some (get_or-set_same parts place part part within)

    elsewhere : (k : ℕ) (other : Part T) → k ≢ place → slice_get (set parts place part) k ≡ Some other → slice_get parts k ≡ Some other
    elsewhere k other differs held =
        let inside : k < length (set parts place part) = slice_get_within (set parts place part) k other held in
        let short : k < length parts = omega (arith, length-set parts place part) in
        slice_get-get_or parts k other short
        ∙ ap Some (sym (get_or-set_other parts place k part other differs) ∙ get_or_from_slice_get (set parts place part) k other other held)

    pub written_right : AreRight Is instances parts → AreRight Is instances (set parts place part)
    written_right before k other held n i is_of is_found = elim (cases_eq k place) [
      | inl same ↦
          let it : other ≡ part = same_Some other part (sym held ∙ (ap (slice_get (set parts place part)) same ∙ there)) in
          let number_is : n ≡ number = same_Some n number (sym is_of ∙ (ap (λ (p : Part T). p.of) it ∙ of)) in
          let i_is : i ≡ here = same_Some i here (sym is_found ∙ (ap (λ (m : ℕ). find m instances) number_is ∙ found ∙ sym is)) in
          rw (i_is, it) right
      | inr differs ↦ before k other (elsewhere k other differs held) n i is_of is_found
    ]

    pub written_kept : AreFirstKept Is instances parts place → AreFirstKept Is instances (set parts place part) (place + 1)
    written_kept before k i earlier held = elim (cases_eq k place) [
      | inl same ↦
          let i_is : i ≡ here = same_Some i here (sym held ∙ (ap (slice_get instances) same ∙ sym is)) in
          record { kept = part; held = ap (slice_get (set parts place part)) same ∙ there; right = rw i_is right }
      | inr differs ↦
          let was = before k i (omega arith) held in
          let inside : k < length parts = slice_get_within parts k was.kept was.held in
          let still : k < length (set parts place part) = omega (arith, length-set parts place part) in
          record {
            kept = was.kept;
            held =
                slice_get-get_or (set parts place part) k was.kept still
                ∙ ap Some (get_or-set_other parts place k part was.kept differs ∙ get_or_from_slice_get parts k was.kept was.kept was.held);
            right = was.right;
          }
    ]

  -- behind the last instance there is none
  pub all_kept : (parts : List (Part T)) (n : ℕ) → None ≡ slice_get instances n → AreRight Is instances parts → AreFirstKept Is instances parts n
      → AreParts Is instances parts
  all_kept parts n past right kept = record { right = right; kept = λ place i held. kept place i (before_past place i held) held }
    where
      before_past : (k : ℕ) (i : Instance) → slice_get instances k ≡ Some i → k < n
      before_past k i held = elim (cases_lt k n) [
        | inl before ↦ before
        | inr after ↦
            let within : k < length instances = slice_get_within instances k i held in
            absurd (none-some _ (past ∙ slice_get-get_or instances n i (omega arith)))
      ]

-- ---- what is forgotten

-- what isn't forgotten is right among changed instances, where what may stay is found as before and compiled as before
pub forgotten_right : {T : Type 0} (Is Is' : Instance → T → Type 0) (May : Part T → Type 0) (old new : List Instance) (parts parts' : List (Part T))
    → AreForgotten May parts parts' → AreRight Is old parts
    → ((part : Part T) (n : ℕ) (i : Instance) → May part → part.of ≡ Some n → find n new ≡ Some i → (find n old ≡ Some i) × (Is i part.compiled → Is' i part.compiled))
    → AreRight Is' new parts'
forgotten_right Is Is' May old new parts parts' forgotten right stays k part held n i of found = elim (forgotten.each k part held) [
  | inl none ↦ absurd (none-some n (sym none ∙ of))
  | inr may ↦ let still = stays part n i may.1 of found in still.1 (right k part may.0 n i of still.0)
]

-- tables, where those of one number changed
pub tables_stay : (old new : List Instance) (number : ℕ) (parts parts' : List (Part TablePlan)) → ((m : ℕ) → m ≢ number → find m new ≡ find m old)
    → AreForgotten (λ (part : Part TablePlan). part.of ≢ Some number) parts parts' → AreRight IsTable old parts → AreRight IsTable new parts'
tables_stay old new number parts parts' others forgotten right =
    forgotten_right IsTable IsTable (λ (part : Part TablePlan). part.of ≢ Some number) old new parts parts' forgotten right
    (λ part n i may of found. (sym (others n (λ same. may (of ∙ ap Some same))) ∙ found, λ is. is))

-- routes, where the mapper of one number changed
pub mappers_stay : (old new : Entities) (number : ℕ) (parts parts' : List (Part Routes)) → AreSameButOne mapper_class number old new
    → AreForgotten (λ (part : Part Routes). part.of ≢ Some number) parts parts' → AreRight (IsMapper old) old.mappers parts
    → AreRight (IsMapper new) new.mappers parts'
mappers_stay old new number parts parts' same forgotten right =
    forgotten_right (IsMapper old) (IsMapper new) (λ (part : Part Routes). part.of ≢ Some number) old.mappers new.mappers parts parts' forgotten right
    (λ part n i may of found. (
      sym (same.mappers.others n (λ is. may (of ∙ ap Some is))) ∙ found,
      same_routes old new (Some i) part.compiled (same.interworks.elsewhere (λ is. absurd (omega (arith, is)))) (same.gem_ports.elsewhere (λ is. absurd (omega (arith, is)))),
    ))

-- routes, where an instance changed that they weren't read from
pub readers_stay : (old new : Entities) (class number : ℕ) (parts parts' : List (Part Routes)) → AreSameButOne class number old new
    → new.mappers ≡ old.mappers → AreForgotten (λ (part : Part Routes). DoesNotRead class number part.compiled) parts parts'
    → AreRight (IsMapper old) old.mappers parts → AreRight (IsMapper new) new.mappers parts'
readers_stay old new class number parts parts' same mappers forgotten right =
    forgotten_right (IsMapper old) (IsMapper new) (λ (part : Part Routes). DoesNotRead class number part.compiled) old.mappers new.mappers parts parts' forgotten right
    (λ part n i may of found. (ap (find n) (sym mappers) ∙ found, may old new i same))

-- routes, where nothing changed that any is read from
pub same_mappers : (old new : Entities) (parts : List (Part Routes)) → new.mappers ≡ old.mappers → new.interworks ≡ old.interworks
    → new.gem_ports ≡ old.gem_ports → AreParts (IsMapper old) old.mappers parts → AreParts (IsMapper new) new.mappers parts
same_mappers old new parts mappers interworks gem_ports all = record {
  right = λ k part held n i of found.
      same_routes old new (Some i) part.compiled interworks gem_ports (all.right k part held n i of (ap (find n) (sym mappers) ∙ found));
  kept = λ place i here.
      let was = all.kept place i (ap (λ (l : List Instance). slice_get l place) (sym mappers) ∙ here) in
      record { kept = was.kept; held = was.held; right = same_routes old new (Some i) was.kept.compiled interworks gem_ports was.right };
}

-- tables, where none changed
pub same_tables : (old new : Entities) (parts : List (Part TablePlan)) → new.vlans ≡ old.vlans → AreParts IsTable old.vlans parts
    → AreParts IsTable new.vlans parts
same_tables old new parts same all = rw same all

-- what is attached, where no table and no mapper changed
pub same_ports : (old new : Entities) (ports : Ports) → new.mappers ≡ old.mappers → new.vlans ≡ old.vlans → ArePorts old ports → ArePorts new ports
same_ports old new ports mappers vlans are = record {
  attached = λ port fits.
      are.attached port fits ∙ ap Some (sym (attached_same old new port (ap (map mapper_naming) mappers) (ap (map table_naming) vlans)));
  names = record { mappers = are.names.mappers ∙ ap (map mapper_naming) (sym mappers); tables = are.names.tables ∙ ap (map table_naming) (sym vlans) };
}

-- the plan, where nothing changed
pub same_plan : (old new : Entities) (plan : Plan) → AreSame old new → IsCompiled old plan → IsCompiled new plan
same_plan old new plan same compiled = record {
  of_ports = same_ports old new plan.ports same.mappers same.vlans compiled.of_ports;
  of_tables = same_tables old new plan.tables.items same.vlans compiled.of_tables;
  of_mappers = same_mappers old new plan.mappers.items same.mappers same.interworks same.gem_ports compiled.of_mappers;
}

-- where all is forgotten, all is right
pub none_right : {T : Type 0} (Is : Instance → T → Type 0) (instances : List Instance) (parts parts' : List (Part T))
    → AreForgotten (λ (part : Part T). ⊥) parts parts' → AreRight Is instances parts'
none_right Is instances parts parts' forgotten k part held n i of found = elim (forgotten.each k part held) [
  | inl none ↦ absurd (none-some n (sym none ∙ of))
  | inr stays ↦ absurd stays.1
]

-- ---- what a port has

abbrev IsTaken : {T : Type 0} → (Instance → T → Type 0) → Option Instance → T → T → Type 0
IsTaken Is None none item = item ≡ none
IsTaken Is (Some i) none item = Is i item

-- an instance stands at the place of its number
pub record IsPlaced (instances : List Instance) (n k : ℕ) : Type 0 where
  pub instance : Instance
  pub held : slice_get instances k ≡ Some instance
  pub found : find n instances ≡ Some instance

placed : (instances : List Instance) (n k : ℕ) → place_in n instances ≡ Some k → IsPlaced instances n k
placed [] n k is = absurd (none-some k is)
placed (x ∷ instances) n k is = by_case (x.number == n) refl is (placed instances n)
  where
    by_case : (b : Bool) → (x.number == n) ≡ b → (if b then Some 0 else option_map (λ (place : ℕ). place + 1) (place_in n instances)) ≡ Some k
        → ((j : ℕ) → place_in n instances ≡ Some j → IsPlaced instances n j) → IsPlaced (x ∷ instances) n k
    by_case true test here later = record { instance = x; held = rw (← same_Some 0 k here) refl; found = rw test refl }
    by_case false test behind later =
        elim (place_in n instances) as (λ o. place_in n instances ≡ o → option_map (λ (place : ℕ). place + 1) o ≡ Some k → IsPlaced (x ∷ instances) n k) [
          | None ↦ λ is none. absurd (none-some k none)
          | Some j ↦ λ is some.
              let at = later j is in
              let next : suc j ≡ k = omega (arith, same_Some (j + 1) k some) in
              record { instance = at.instance; held = rw (← next) at.held; found = rw test at.found }
        ] refl behind

unplaced : (instances : List Instance) (n : ℕ) → place_in n instances ≡ None → find n instances ≡ None
unplaced [] n is = refl
unplaced (x ∷ instances) n is = by_case (x.number == n) refl is (unplaced instances n)
  where
    by_case : (b : Bool) → (x.number == n) ≡ b → (if b then Some 0 else option_map (λ (place : ℕ). place + 1) (place_in n instances)) ≡ None
        → (place_in n instances ≡ None → find n instances ≡ None) → find n (x ∷ instances) ≡ None
    by_case true test here later = absurd (none-some 0 (sym here))
    by_case false test behind later =
        rw test (elim (place_in n instances) as (λ o. place_in n instances ≡ o → option_map (λ (place : ℕ). place + 1) o ≡ None → find n instances ≡ None) [
          | None ↦ λ is none. later is
          | Some j ↦ λ is some. absurd (none-some (j + 1) (sym some))
        ] refl behind)

-- what stands at a place of parts, or what stands for none
abbrev pub compiled_at : {T : Type 0} → List (Part T) → ℕ → T → T
compiled_at parts place none = unwrap_or (option_map (λ (part : Part _). part.compiled) (slice_get parts place)) none

-- what is compiled at the place of a number, or what stands for none
taken : {T : Type 0} (Is : Instance → T → Type 0) (instances : List Instance) (parts : List (Part T)) (none : T) (number : Option ℕ)
    → AreParts Is instances parts → length parts ≤ 255
    → IsTaken Is (option_and_then (λ n. find n instances) number) none (compiled_at parts (place_or_none instances number) none)
taken Is instances parts none None all few = rw (slice_get_past parts 255 few) refl
taken {T} Is instances parts none (Some n) all few = by_case (place_in n instances) refl
  where
    by_case : (o : Option ℕ) → place_in n instances ≡ o → IsTaken Is (find n instances) none (compiled_at parts (unwrap_or (place_in n instances) 255) none)
    by_case None is = rw (is, unplaced instances n is, slice_get_past parts 255 few) refl
    by_case (Some k) is =
        let at = placed instances n k is in
        let kept = all.kept k at.instance at.held in
        rw (is, at.found, kept.held) kept.right

-- the table of a port
taken_table : (e : Entities) (port : ℕ) (bare compiled : TablePlan) → bare.table ≡ transparent
    → IsTaken IsTable (option_and_then (λ n. find n e.vlans) (table_of_port e port)) bare compiled → compiled.table ≡ unwrap_or (table_at e port) transparent
unfolding table_at
taken_table e port bare compiled none is = by_case (option_and_then (λ n. find n e.vlans) (table_of_port e port)) is
  where
    by_case : (found : Option Instance) → IsTaken IsTable found bare compiled → compiled.table ≡ unwrap_or (option_map table_of found) transparent
    by_case None is = ap (λ (t : TablePlan). t.table) is ∙ none
    by_case (Some vlan) is = is

-- the routes of a port
taken_routes : (e : Entities) (port : ℕ) (unmapped routes : Routes) → AreRoutes e None unmapped
    → IsTaken (IsMapper e) (option_and_then (λ n. find n e.mappers) (mapper_of_port e port)) unmapped routes → AreRoutes e (mapper_at e port) routes
unfolding mapper_at
taken_routes e port unmapped routes none is = by_case (option_and_then (λ n. find n e.mappers) (mapper_of_port e port)) is
  where
    by_case : (found : Option Instance) → IsTaken (IsMapper e) found unmapped routes → AreRoutes e found routes
    by_case None is = rw is none
    by_case (Some mapper) is = is

-- the plan of a port is made of what its places have
pub port_planned : (e : Entities) (port : ℕ) (tables : List (Part TablePlan)) (mappers : List (Part Routes)) (bare : TablePlan) (unmapped : Routes)
    (plan : PortPlan) → AreParts IsTable e.vlans tables → AreParts (IsMapper e) e.mappers mappers → length tables ≤ 255 → length mappers ≤ 255
    → AreNone bare unmapped → plan.table.now ≡ compiled_at tables (place_or_none e.vlans (table_of_port e port)) bare
    → plan.routes.now ≡ compiled_at mappers (place_or_none e.mappers (mapper_of_port e port)) unmapped → IsPlanOf e port plan
port_planned e port tables mappers bare unmapped plan of_tables of_mappers few few_mappers none is_table is_routes =
    let table = taken IsTable e.vlans tables bare (table_of_port e port) of_tables few in
    let routes = taken (IsMapper e) e.mappers mappers unmapped (mapper_of_port e port) of_mappers few_mappers in
    record {
      table = rw is_table (taken_table e port bare (compiled_at tables (place_or_none e.vlans (table_of_port e port)) bare) none.table table);
      routes = rw is_routes (taken_routes e port unmapped (compiled_at mappers (place_or_none e.mappers (mapper_of_port e port)) unmapped) (none.routes e) routes);
    }

-- ---- what is written over all places

written : {T : Type 0} (new rest : List T) (n : ℕ) → n ≡ length new → take n (new ++ rest) ≡ new
written [] rest zero same = refl
written [] rest (suc n) same = absurd (omega (arith, same))
written (x ∷ xs) rest zero same = absurd (omega (arith, same))
written (x ∷ xs) rest (suc n) same = ap (λ (l : List _). x ∷ l) (written xs rest n (omega (arith, same)))

pub written_whole : {T : Type 0} (new old : List T) (n room : ℕ) → n ≡ room → length new ≡ room → take n (new ++ drop (length new) old) ≡ new
written_whole new old n room all same = written new (drop (length new) old) n (omega (arith, all, same))

-- ---- a plan that lags behind

-- routes that are right stay so, where nothing changed that any is read from
pub mappers_right : (old new : Entities) (parts : List (Part Routes)) → new.mappers ≡ old.mappers → new.interworks ≡ old.interworks
    → new.gem_ports ≡ old.gem_ports → AreRight (IsMapper old) old.mappers parts → AreRight (IsMapper new) new.mappers parts
mappers_right old new parts mappers interworks gem_ports right k part held n i of found =
    same_routes old new (Some i) part.compiled interworks gem_ports (right k part held n i of (ap (find n) (sym mappers) ∙ found))

-- a plan of entities lags behind them no further than they are
pub behind : (e : Entities) (plan : Plan) → IsCompiled e plan → IsBehind e plan
behind e plan is = record { before = e; of_ports = is.of_ports; of_tables = is.of_tables.right; of_mappers = is.of_mappers.right }

-- it lags behind others as it does behind these, where no instance changed
pub behind_same : (old new : Entities) (plan : Plan) → AreSame old new → IsBehind old plan → IsBehind new plan
behind_same old new plan same is = record {
  before = is.before;
  of_ports = is.of_ports;
  of_tables = rw same.vlans is.of_tables;
  of_mappers = mappers_right old new plan.mappers.items same.mappers same.interworks same.gem_ports is.of_mappers;
}
