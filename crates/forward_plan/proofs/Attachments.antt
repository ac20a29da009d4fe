-- What is attached to ports, as one after another is looked up.
use Rattle.std.proofs.Common.{◌≡◌, ◌≢◌, ◌⊎◌, ℕ, zero, suc, ◌+◌, ◌<◌, Bool, true, false, ◌&&◌, List, [], ◌∷◌, length, map, replicate, set, Option, Some, None, refl, ap, sym, ◌∙◌, arith, inl, inr}
use Rattle.std.specs.Prelude.{◌==◌, if◌then◌else◌, IsSome, is_some, min, slice_get, filter}
use Rattle.std.specs.Option.{option_and_then, option_map, option_map_or, option_or, unwrap_or}
use Rattle.std.proofs.lemmas.Bool.{and_parts, cases_eq, cases_lt, eqb-true}
use Rattle.std.proofs.Math.Nat.{min-eq_left, min-eq_right}
use Rattle.std.proofs.lemmas.List.{get_or-replicate, get_or-set_same, length-replicate, length-set}
use Rattle.std.proofs.lemmas.Option.{none-some, same_Some, slice_get-get_or, slice_get-map}
use mathlib.Core.Bool.{false≢true}
use Rattle.managed_entity.specs.Instance.{Instance, attribute_number}
use Rattle.mib_state.specs.Entities.{Entities, nothing, place_in}
use Rattle.mib_state.specs.Attached.{is_mapper_of, is_table_of, least_instance, least_of, mapper_of_port, table_of_mapper, table_of_port}
use Rattle.forward_plan.specs.declared.attached.Attached.{Attached}
use Rattle.forward_plan.specs.declared.naming.Naming.{Naming}
use Rattle.forward_plan.specs.Attachment.{AreAttached, AreAttachedOrKept, AreMapped, AreOfTable, IsAttachedIn, IsMapperOfPort, attached_at, mapper_naming, place_or_none, table_naming}

-- ---- one port

-- without entities nothing is attached, where each port holds the same, which is neither a table nor a mapper
pub all_none : (n : ℕ) (ports : List Attached) (attached : Attached) → ports ≡ replicate n attached → attached ≡ record { table = 255; mapper = 255 }
    → (port : ℕ) → port < n → IsAttachedIn nothing ports port
all_none n ports attached same none port fits =
    let within : port < length (replicate n attached) = rw length-replicate fits in
    ap (λ (l : List Attached). slice_get l port) same
    ∙ slice_get-get_or (replicate n attached) port attached within
    ∙ ap Some (get_or-replicate n port attached attached fits ∙ none)

-- a port without a mapper and without a table of its own has nothing attached
pub unattached : (e : Entities) (port : ℕ) → mapper_of_port e port ≡ None → least_instance (is_table_of 2 port) e.vlans ≡ None
    → attached_at e port ≡ attached_at nothing port
unattached e port no_mapper no_table = rw (no_table, no_mapper) refl

-- what is held at a port stays right where it stays
kept_right : (e : Entities) (old new : List Attached) (port : ℕ) → slice_get new port ≡ slice_get old port → IsAttachedIn e old port → IsAttachedIn e new port
kept_right e old new port same at = same ∙ at

pub or_kept_right : (e : Entities) (old new : List Attached) (port : ℕ) → IsAttachedIn e new port ⊎ (slice_get new port ≡ slice_get old port)
    → IsAttachedIn e old port → IsAttachedIn e new port
or_kept_right e old new port (inl at) before = at
or_kept_right e old new port (inr kept) before = kept ∙ before

-- ---- a step

-- one port is attached, and the others are as they were
pub record Attaches (e : Entities) (old new : List Attached) (port : ℕ) : Type 0 where
  pub attached : IsAttachedIn e new port
  pub others : (other : ℕ) → other ≢ port → slice_get new other ≡ slice_get old other

-- another place reads what it read
pub other_place : {T : Type 0} (l : List T) (place other : ℕ) (x : T) → other ≢ place → slice_get (set l place x) other ≡ slice_get l other
other_place [] place other y differs = refl
other_place (x ∷ l) zero zero y differs = absurd (differs refl)
other_place (x ∷ l) zero (suc other) y differs = refl
other_place (x ∷ l) (suc place) zero y differs = refl
other_place (x ∷ l) (suc place) (suc other) y differs = other_place l place other y (λ same. differs (ap suc same))

-- what is written at a port's place
pub attaches : (e : Entities) (ports : List Attached) (port : ℕ) (attached : Attached) → port < length ports → attached ≡ attached_at e port
    → Attaches e ports (set ports port attached) port
attaches e ports port attached within is =
    let long : port < length (set ports port attached) = omega (arith, length-set ports port attached) in
    record {
      attached = slice_get-get_or (set ports port attached) port attached long ∙ ap Some (get_or-set_same ports port attached attached within ∙ is);
      others = λ other differs. other_place ports port other attached differs;
    }

step_keeps : (e : Entities) (old new : List Attached) (port other : ℕ) → Attaches e old new port → IsAttachedIn e old other → IsAttachedIn e new other
step_keeps e old new port other step at = elim (cases_eq other port) [
  | inl same ↦ rw same step.attached
  | inr differs ↦ step.others other differs ∙ at
]

pub none_kept : (e : Entities) (ports : List Attached) → AreAttachedOrKept e ports ports
none_kept e ports port = inr refl

pub step_or_kept : (e : Entities) (first old new : List Attached) (port : ℕ) → Attaches e old new port → AreAttachedOrKept e first old → AreAttachedOrKept e first new
step_or_kept e first old new port step before other = elim (cases_eq other port) [
  | inl same ↦ inl (rw same step.attached)
  | inr differs ↦ elim (before other) [
    | inl at ↦ inl (step.others other differs ∙ at)
    | inr kept ↦ inr (step.others other differs ∙ kept)
  ]
]

-- ---- the ports that namings point to

module _ (e : Entities) (counts : Naming → Type 0) (names : List Naming) where
  -- the ports that the first namings which count point to have what is attached to them
  abbrev pub AreNamedAttached : List Attached → ℕ → Type 0
  AreNamedAttached ports place = (k : ℕ) (naming : Naming) → k < place → slice_get names k ≡ Some naming → counts naming → IsAttachedIn e ports naming.to

  pub named_none : (ports : List Attached) → AreNamedAttached ports zero
  named_none ports k naming before = absurd (omega arith)

  -- one more naming, to a port that is attached next
  pub named_step : (old new : List Attached) (place : ℕ) (here : Naming) → slice_get names place ≡ Some here → Attaches e old new here.to
      → AreNamedAttached old place → AreNamedAttached new (place + 1)
  named_step old new place here is step before k naming earlier held count = elim (cases_eq k place) [
    | inl same ↦
        let it : naming ≡ here = same_Some naming here (sym held ∙ (ap (slice_get names) same ∙ is)) in
        rw it step.attached
    | inr differs ↦ step_keeps e old new here.to naming.to step (before k naming (omega arith) held count)
  ]

  -- one more naming, which doesn't count
  pub named_skip : (ports : List Attached) (place : ℕ) (here : Naming) → slice_get names place ≡ Some here → (counts here → ⊥)
      → AreNamedAttached ports place → AreNamedAttached ports (place + 1)
  named_skip ports place here is none before k naming earlier held count = elim (cases_eq k place) [
    | inl same ↦
        let it : naming ≡ here = same_Some naming here (sym held ∙ (ap (slice_get names) same ∙ is)) in
        absurd (none (rw (← it) count))
    | inr differs ↦ before k naming (omega arith) held count
  ]

-- ---- the namings of entities

-- an instance of the least number is one of them
least_there : (test : Instance → Bool) (l : List Instance) → IsSome (least_instance test l)
    → (k : ℕ) × (i : Instance) × (slice_get l k ≡ Some i) × (test i ≡ true)
least_there test [] some = absurd (false≢true some)
least_there test (x ∷ l) some =
    elim (test x) as (λ b. test x ≡ b → IsSome (least_of (map (λ (i : Instance). i.number) (if b then x ∷ filter test l else filter test l)))
    → (k : ℕ) × (i : Instance) × (slice_get (x ∷ l) k ≡ Some i) × (test i ≡ true)) [
      | true ↦ λ is some. (zero, x, refl, is)
      | false ↦ λ is some. let later = least_there test l some in (suc later.0, later.1, later.2, later.3)
    ] refl some

-- a naming of a kind to a thing is among these
pub record IsNamed (names : List Naming) (kind to : ℕ) : Type 0 where
  pub place : ℕ
  pub naming : Naming
  pub held : slice_get names place ≡ Some naming
  pub of_kind : naming.kind ≡ kind
  pub points : naming.to ≡ to

mapper_named : (l : List Instance) (port : ℕ) → IsSome (least_instance (is_mapper_of 1 port) l) → IsNamed (map mapper_naming l) 1 port
mapper_named l port some =
    let it = least_there (is_mapper_of 1 port) l some in
    let both = and_parts (attribute_number 13 it.1 == 1) (attribute_number 1 it.1 == port) it.3 in
    record {
      place = it.0;
      naming = mapper_naming it.1;
      held = slice_get-map mapper_naming l it.0 ∙ ap (option_map mapper_naming) it.2;
      of_kind = eqb-true _ _ both.0;
      points = eqb-true _ _ both.1;
    }

table_named : (l : List Instance) (port : ℕ) → IsSome (least_instance (is_table_of 2 port) l) → IsNamed (map table_naming l) 2 port
table_named l port some =
    let it = least_there (is_table_of 2 port) l some in
    let both = and_parts (attribute_number 1 it.1 == 2) (attribute_number 7 it.1 == port) it.3 in
    record {
      place = it.0;
      naming = table_naming it.1;
      held = slice_get-map table_naming l it.0 ∙ ap (option_map table_naming) it.2;
      of_kind = eqb-true _ _ both.0;
      points = eqb-true _ _ both.1;
    }

-- ---- all ports

-- each port to which a naming of a kind points has what is attached to it
abbrev pub AreNamed : Entities → List Naming → ℕ → List Attached → Type 0
AreNamed e names kind ports = (place : ℕ) (naming : Naming) → slice_get names place ≡ Some naming → naming.kind ≡ kind → IsAttachedIn e ports naming.to

named_at : (e : Entities) (names : List Naming) (kind port : ℕ) (ports : List Attached) → AreNamed e names kind ports → IsNamed names kind port
    → IsAttachedIn e ports port
named_at e names kind port ports all it = rw (← it.points) (all it.place it.naming it.held it.of_kind)

-- where nothing was attached, and each port with a mapper has now what is attached to it
pub all_mapped : (e : Entities) (old new : List Attached) → AreAttachedOrKept e old new → AreAttached nothing old
    → AreNamed e (map mapper_naming e.mappers) 1 new → AreMapped e new
all_mapped e old new others empty named port fits =
    elim (mapper_of_port e port) as (λ o. mapper_of_port e port ≡ o → IsAttachedIn e new port ⊎ (mapper_of_port e port ≡ None) × IsAttachedIn nothing new port) [
      | Some n ↦ λ is. inl (named_at e _ 1 port new named (mapper_named e.mappers port (ap is_some is)))
      | None ↦ λ none. elim (others port) [
        | inl at ↦ inl at
        | inr kept ↦ inr (none, kept ∙ empty port fits)
      ]
    ] refl

-- where the ports with mappers had what is attached to them, and each port with a table of its own has it now
pub all_tabled : (e : Entities) (old new : List Attached) → AreAttachedOrKept e old new → AreMapped e old
    → AreNamed e (map table_naming e.vlans) 2 new → AreAttached e new
all_tabled e old new others mapped named port fits = elim (mapped port fits) [
  | inl at ↦ or_kept_right e old new port (others port) at
  | inr w ↦ elim (least_instance (is_table_of 2 port) e.vlans) as (λ o. least_instance (is_table_of 2 port) e.vlans ≡ o → IsAttachedIn e new port) [
    | Some n ↦ λ is. named_at e _ 2 port new named (table_named e.vlans port (ap is_some is))
    | None ↦ λ none. or_kept_right e old new port (others port) (w.1 ∙ ap Some (sym (unattached e port w.0 none)))
  ] refl
]

-- nothing is attached where nothing is to any port that a naming points to
pub all_detached : (e : Entities) (old between new : List Attached) → AreAttached e old
    → AreAttachedOrKept nothing old between → AreNamed nothing (map mapper_naming e.mappers) 1 between
    → AreAttachedOrKept nothing between new → AreNamed nothing (map table_naming e.vlans) 2 new → AreAttached nothing new
all_detached e old between new attached first mapped second tabled port fits =
    elim (mapper_of_port e port) as (λ o. mapper_of_port e port ≡ o → IsAttachedIn nothing new port) [
      | Some n ↦ λ is. or_kept_right nothing between new port (second port) (named_at nothing _ 1 port between mapped (mapper_named e.mappers port (ap is_some is)))
      | None ↦ λ no_mapper. elim (least_instance (is_table_of 2 port) e.vlans) as (λ o. least_instance (is_table_of 2 port) e.vlans ≡ o → IsAttachedIn nothing new port) [
        | Some n ↦ λ is. named_at nothing _ 2 port new tabled (table_named e.vlans port (ap is_some is))
        | None ↦ λ no_table.
            let was : IsAttachedIn nothing old port = attached port fits ∙ ap Some (unattached e port no_mapper no_table) in
            or_kept_right nothing between new port (second port) (or_kept_right nothing old between port (first port) was)
      ] refl
    ] refl

-- ---- what is attached to a port is a function of the namings

abbrev least_named : ℕ → ℕ → List Naming → Option ℕ
least_named kind to names = least_of (map (λ (n : Naming). n.number) (filter (λ (n : Naming). n.kind == kind && n.to == to) names))

abbrev place_named : ℕ → List Naming → Option ℕ
place_named number [] = None
place_named number (n ∷ names) = if n.number == number then Some 0 else option_map (λ (place : ℕ). place + 1) (place_named number names)

abbrev table_named_by : List Naming → Option ℕ → Option ℕ
table_named_by tables None = None
table_named_by tables (Some mapper) = least_named 1 mapper tables

abbrev place_or_none_by : List Naming → Option ℕ → ℕ
place_or_none_by names number = unwrap_or (option_and_then (λ n. place_named n names) number) 255

abbrev attached_by : List Naming → List Naming → ℕ → Attached
attached_by mappers tables port =
    record {
      table = place_or_none_by tables (option_or (least_named 2 port tables) (table_named_by tables (least_named 1 port mappers)));
      mapper = place_or_none_by mappers (least_named 1 port mappers);
    }

-- numbers of those that pass, before and after they are made namings
numbers_pass : (f : Instance → Naming) (test : Naming → Bool) (l : List Instance)
    → map (λ (i : Instance). let n = f i in n.number) (filter (λ (i : Instance). test (f i)) l) ≡ map (λ (n : Naming). n.number) (filter test (map f l))
numbers_pass f test [] = refl
numbers_pass f test (x ∷ l) = by_case (test (f x)) refl (numbers_pass f test l)
  where
    by_case : (b : Bool) → test (f x) ≡ b
        → map (λ (i : Instance). let n = f i in n.number) (filter (λ (i : Instance). test (f i)) l) ≡ map (λ (n : Naming). n.number) (filter test (map f l))
        → map (λ (i : Instance). let n = f i in n.number) (filter (λ (i : Instance). test (f i)) (x ∷ l)) ≡ map (λ (n : Naming). n.number) (filter test (map f (x ∷ l)))
    by_case true is rest = rw is (ap (λ (ns : List ℕ). (let n = f x in n.number) ∷ ns) rest)
    by_case false is rest = rw is rest

least_mapper : (kind to : ℕ) (l : List Instance) → least_instance (is_mapper_of kind to) l ≡ least_named kind to (map mapper_naming l)
least_mapper kind to l = ap least_of (numbers_pass mapper_naming (λ (n : Naming). n.kind == kind && n.to == to) l)

least_table : (kind to : ℕ) (l : List Instance) → least_instance (is_table_of kind to) l ≡ least_named kind to (map table_naming l)
least_table kind to l = ap least_of (numbers_pass table_naming (λ (n : Naming). n.kind == kind && n.to == to) l)

module _ (f : Instance → Naming) (same : (i : Instance) → let n = f i in n.number ≡ i.number) where
  placed : (number : ℕ) (l : List Instance) → place_in number l ≡ place_named number (map f l)
  placed number [] = refl
  placed number (x ∷ l) = rw (same x, placed number l) refl

  placed_or_none : (l : List Instance) (number : Option ℕ) → place_or_none l number ≡ place_or_none_by (map f l) number
  placed_or_none l None = refl
  placed_or_none l (Some number) = ap (λ o. unwrap_or o 255) (placed number l)

mapped_table : (e : Entities) (mapper : Option ℕ) → table_of_mapper e mapper ≡ table_named_by (map table_naming e.vlans) mapper
mapped_table e None = refl
mapped_table e (Some mapper) = least_table 1 mapper e.vlans

attached_named : (e : Entities) (port : ℕ) → attached_at e port ≡ attached_by (map mapper_naming e.mappers) (map table_naming e.vlans) port
attached_named e port =
    let mapper = least_mapper 1 port e.mappers in
    let table : table_of_port e port ≡ option_or (least_named 2 port (map table_naming e.vlans)) (table_named_by (map table_naming e.vlans) (least_named 1 port (map mapper_naming e.mappers))) =
    rw (least_table 2 port e.vlans, mapped_table e (mapper_of_port e port), mapper) refl in
    rw (placed_or_none table_naming (λ i. refl) e.vlans (table_of_port e port), placed_or_none mapper_naming (λ i. refl) e.mappers (mapper_of_port e port), table, mapper) refl

-- where the namings are the same, what is attached is
pub attached_same : (e e' : Entities) (port : ℕ) → map mapper_naming e'.mappers ≡ map mapper_naming e.mappers → map table_naming e'.vlans ≡ map table_naming e.vlans
    → attached_at e' port ≡ attached_at e port
attached_same e e' port mappers tables = attached_named e' port ∙ rw (mappers, tables) (sym (attached_named e port))

-- ---- where one naming changes

number_stays : (number : ℕ) (l : List Naming) (place : ℕ) (before now : Naming) → slice_get l place ≡ Some before → now.number ≡ before.number
    → place_named number (set l place now) ≡ place_named number l
number_stays number [] place before now was same = refl
number_stays number (x ∷ l) zero before now was same =
    let it : now.number ≡ x.number = same ∙ ap (λ (n : Naming). n.number) (sym (same_Some x before was)) in
    rw it refl
number_stays number (x ∷ l) (suc place) before now was same = rw (number_stays number l place before now was same) refl

places_stay : (l : List Naming) (place : ℕ) (before now : Naming) → slice_get l place ≡ Some before → now.number ≡ before.number
    → (number : Option ℕ) → place_or_none_by (set l place now) number ≡ place_or_none_by l number
places_stay l place before now was same None = refl
places_stay l place before now was same (Some number) = ap (λ o. unwrap_or o 255) (number_stays number l place before now was same)

passing_stay : (test : Naming → Bool) (l : List Naming) (place : ℕ) (before now : Naming) → slice_get l place ≡ Some before → test before ≡ false → test now ≡ false
    → filter test (set l place now) ≡ filter test l
passing_stay test [] place before now was fails fails_now = refl
passing_stay test (x ∷ l) zero before now was fails fails_now =
    let it : test x ≡ false = ap test (same_Some x before was) ∙ fails in
    rw (it, fails_now) refl
passing_stay test (x ∷ l) (suc place) before now was fails fails_now = rw (passing_stay test l place before now was fails fails_now) refl

-- either the naming passes a test, before or now, or the same pass
module _ (test : Naming → Bool) (l : List Naming) (place : ℕ) (before now : Naming) (was : slice_get l place ≡ Some before) where
  unless : (Q : Type 0) → (test before ≡ true → Q) → (test now ≡ true → Q) → (filter test (set l place now) ≡ filter test l → Q) → Q
  unless Q passed passes same =
      elim (test before) as (λ b. test before ≡ b → Q) [
        | true ↦ λ is. passed is
        | false ↦ λ fails. elim (test now) as (λ b. test now ≡ b → Q) [
          | true ↦ λ is. passes is
          | false ↦ λ fails_now. same (passing_stay test l place before now was fails fails_now)
        ] refl
      ] refl

-- one of those that pass has the least number
pub record IsLeast (test : Naming → Bool) (l : List Naming) (number : ℕ) : Type 0 where
  pub place : ℕ
  pub naming : Naming
  pub held : slice_get l place ≡ Some naming
  pub passes : test naming ≡ true
  pub numbered : naming.number ≡ number

least_further : (test : Naming → Bool) (x : Naming) (l : List Naming) (number : ℕ) → IsLeast test l number → IsLeast test (x ∷ l) number
least_further test x l number is = record { place = suc is.place; naming = is.naming; held = is.held; passes = is.passes; numbered = is.numbered }

either_least : (a b : ℕ) → (min a b ≡ a) ⊎ (min a b ≡ b)
either_least a b = elim (cases_lt a b) [
  | inl less ↦ inl (min-eq_left (omega arith))
  | inr other ↦ inr (min-eq_right other)
]

least_among : (test : Naming → Bool) (l : List Naming) (number : ℕ) → least_of (map (λ (n : Naming). n.number) (filter test l)) ≡ Some number → IsLeast test l number
least_among test [] number is = absurd (none-some number is)
least_among test (x ∷ l) number is = by_case (test x) refl is (least_among test l)
  where
    by_case : (b : Bool) → test x ≡ b → least_of (map (λ (n : Naming). n.number) (if b then x ∷ filter test l else filter test l)) ≡ Some number
        → ((m : ℕ) → least_of (map (λ (n : Naming). n.number) (filter test l)) ≡ Some m → IsLeast test l m) → IsLeast test (x ∷ l) number
    by_case false fails is_least later = least_further test x l number (later number is_least)
    by_case true passes is_least later =
        elim (least_of (map (λ (n : Naming). n.number) (filter test l))) as (λ o. least_of (map (λ (n : Naming). n.number) (filter test l)) ≡ o
        → option_map_or (min x.number) o x.number ≡ number → IsLeast test (x ∷ l) number) [
          | None ↦ λ none own. record { place = 0; naming = x; held = refl; passes = passes; numbered = own }
          | Some m ↦ λ some less. elim (either_least x.number m) [
            | inl first ↦ record { place = 0; naming = x; held = refl; passes = passes; numbered = sym first ∙ less }
            | inr other ↦ least_further test x l number (later number (some ∙ ap Some (sym other ∙ less)))
          ]
        ] refl (same_Some _ number is_least)

-- ---- what is attached where one naming changes

-- a naming of a kind points to a thing
abbrev points : ℕ → ℕ → Naming → Bool
points kind to n = n.kind == kind && n.to == to

pointed : (kind to : ℕ) (n : Naming) → points kind to n ≡ true → (n.kind ≡ kind) × (n.to ≡ to)
pointed kind to n is = let both = and_parts (n.kind == kind) (n.to == to) is in (eqb-true _ _ both.0, eqb-true _ _ both.1)

module _ (mappers tables : List Naming) (place : ℕ) (before now : Naming) (port : ℕ) (Q : Type 0) where
  -- a mapper points to a port, unless the same is attached to it
  mapper_moved : slice_get mappers place ≡ Some before → now.number ≡ before.number
      → (before.kind ≡ 1 → before.to ≡ port → Q) → (now.kind ≡ 1 → now.to ≡ port → Q)
      → (attached_by (set mappers place now) tables port ≡ attached_by mappers tables port → Q) → Q
  mapper_moved was number pointed_before points_now same =
      unless (points 1 port) mappers place before now was Q
      (λ is. let it = pointed 1 port before is in pointed_before it.0 it.1)
      (λ is. let it = pointed 1 port now is in points_now it.0 it.1)
      (λ passing.
      let least : least_named 1 port (set mappers place now) ≡ least_named 1 port mappers = ap (λ (l : List Naming). least_of (map (λ (n : Naming). n.number) l)) passing in
      same (rw (least, places_stay mappers place before now was number (least_named 1 port mappers)) refl))

  -- a table points to a port or to its mapper, unless the same is attached to it
  table_moved : slice_get tables place ≡ Some before → now.number ≡ before.number
      → (before.kind ≡ 2 → before.to ≡ port → Q) → (now.kind ≡ 2 → now.to ≡ port → Q)
      → ((k : ℕ) (mapper : Naming) → slice_get mappers k ≡ Some mapper → mapper.to ≡ port → before.kind ≡ 1 → IsMapperOfPort before.to mapper → Q)
      → ((k : ℕ) (mapper : Naming) → slice_get mappers k ≡ Some mapper → mapper.to ≡ port → now.kind ≡ 1 → IsMapperOfPort now.to mapper → Q)
      → (attached_by mappers (set tables place now) port ≡ attached_by mappers tables port → Q) → Q
  table_moved was number own_before own_now mapped_before mapped_now same =
      unless (points 2 port) tables place before now was Q
      (λ is. let it = pointed 2 port before is in own_before it.0 it.1)
      (λ is. let it = pointed 2 port now is in own_now it.0 it.1)
      (λ passing.
      let least : least_named 2 port (set tables place now) ≡ least_named 2 port tables = ap (λ (l : List Naming). least_of (map (λ (n : Naming). n.number) l)) passing in
      elim (least_named 1 port mappers) as (λ o. least_named 1 port mappers ≡ o → Q) [
        | None ↦ λ none. same (same_tables least (rw none refl))
        | Some m ↦ λ some.
            let it = least_among (points 1 port) mappers m some in
            let at = pointed 1 port it.naming it.passes in
            unless (points 1 m) tables place before now was Q
            (λ is. let of = pointed 1 m before is in mapped_before it.place it.naming it.held at.1 of.0 (record { numbered = it.numbered ∙ sym of.1; of_port = at.0 }))
            (λ is. let of = pointed 1 m now is in mapped_now it.place it.naming it.held at.1 of.0 (record { numbered = it.numbered ∙ sym of.1; of_port = at.0 }))
            (λ passing_mapped. same (same_tables least (rw some (ap (λ (l : List Naming). least_of (map (λ (n : Naming). n.number) l)) passing_mapped))))
      ] refl)
    where
      same_tables : least_named 2 port (set tables place now) ≡ least_named 2 port tables
          → table_named_by (set tables place now) (least_named 1 port mappers) ≡ table_named_by tables (least_named 1 port mappers)
          → attached_by mappers (set tables place now) port ≡ attached_by mappers tables port
      same_tables least mapped =
          rw (least, mapped, places_stay tables place before now was number (option_or (least_named 2 port tables) (table_named_by tables (least_named 1 port mappers)))) refl

-- what is attached to a port stays, where the port kept it and the namings give the same
stays_attached : (e e' : Entities) (mappers tables : List Naming) (port : ℕ) (old new : List Attached) → map mapper_naming e'.mappers ≡ mappers → map table_naming e'.vlans ≡ tables
    → AreAttachedOrKept e' old new → IsAttachedIn e old port → attached_by mappers tables port ≡ attached_by (map mapper_naming e.mappers) (map table_naming e.vlans) port
    → IsAttachedIn e' new port
stays_attached e e' mappers tables port old new of_mappers of_tables others was same =
    let still : attached_at e port ≡ attached_at e' port = attached_named e port ∙ sym same ∙ rw (← of_mappers, ← of_tables) (sym (attached_named e' port)) in
    or_kept_right e' old new port (others port) (was ∙ ap Some still)

-- where the naming of a mapper changed, and the ports that it points to, before and now, have what is attached to them
pub mapper_attached : (e e' : Entities) (place : ℕ) (before now : Naming) (old new : List Attached) → slice_get (map mapper_naming e.mappers) place ≡ Some before
    → now.number ≡ before.number → map mapper_naming e'.mappers ≡ set (map mapper_naming e.mappers) place now → e'.vlans ≡ e.vlans
    → AreAttached e old → AreAttachedOrKept e' old new → (before.kind ≡ 1 → IsAttachedIn e' new before.to) → (now.kind ≡ 1 → IsAttachedIn e' new now.to)
    → AreAttached e' new
mapper_attached e e' place before now old new was number mappers tables attached others before_at now_at port fits =
    mapper_moved (map mapper_naming e.mappers) (map table_naming e.vlans) place before now port (IsAttachedIn e' new port) was number
    (λ kind to. rw (← to) (before_at kind))
    (λ kind to. rw (← to) (now_at kind))
    (λ same. stays_attached e e' _ _ port old new mappers (ap (map table_naming) tables) others (attached port fits) same)

-- the same of a table
pub table_attached : (e e' : Entities) (place : ℕ) (before now : Naming) (old new : List Attached) → slice_get (map table_naming e.vlans) place ≡ Some before
    → now.number ≡ before.number → map table_naming e'.vlans ≡ set (map table_naming e.vlans) place now → e'.mappers ≡ e.mappers
    → AreAttached e old → AreAttachedOrKept e' old new → AreOfTable e' (map mapper_naming e.mappers) before new → AreOfTable e' (map mapper_naming e.mappers) now new
    → AreAttached e' new
table_attached e e' place before now old new was number tables mappers attached others before_at now_at port fits =
    table_moved (map mapper_naming e.mappers) (map table_naming e.vlans) place before now port (IsAttachedIn e' new port) was number
    (λ kind to. rw (← to) (before_at.own kind))
    (λ kind to. rw (← to) (now_at.own kind))
    (λ k mapper held to kind of. rw (← to) (before_at.mapped k mapper held kind of))
    (λ k mapper held to kind of. rw (← to) (now_at.mapped k mapper held kind of))
    (λ same. stays_attached e e' _ _ port old new (ap (map mapper_naming) mappers) tables others (attached port fits) same)

-- what is attached to the ports of a table stays
pub of_table_kept : (e : Entities) (mappers : List Naming) (table : Naming) (old new : List Attached) → AreAttachedOrKept e old new → AreOfTable e mappers table old
    → AreOfTable e mappers table new
of_table_kept e mappers table old new others at = record {
  own = λ kind. or_kept_right e old new table.to (others table.to) (at.own kind);
  mapped = λ place mapper held kind of. or_kept_right e old new mapper.to (others mapper.to) (at.mapped place mapper held kind of);
}

-- one after another
pub or_kept_both : (e : Entities) (old between new : List Attached) → AreAttachedOrKept e old between → AreAttachedOrKept e between new → AreAttachedOrKept e old new
or_kept_both e old between new first second port = elim (second port) [
  | inl at ↦ inl at
  | inr kept ↦ elim (first port) [
    | inl at ↦ inl (kept ∙ at)
    | inr kept_first ↦ inr (kept ∙ kept_first)
  ]
]
