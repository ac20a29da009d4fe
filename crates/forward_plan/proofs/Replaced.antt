-- A Set leaves all instances of a class where they stood.
use Rattle.std.proofs.Common.{◌≡◌, ℕ, Bool, true, false, suc, ◌+◌, ◌<◌, List, [], ◌∷◌, length, map, set, Option, Some, None, Result, Ok, Err, IfSome, is_ok, refl, ap, sym, subst, ◌∙◌, arith, inl, inr}
use Rattle.std.specs.Prelude.{◌==◌, if◌then◌else◌, not, drop, slice_get}
use Rattle.std.specs.Option.{option_map}
use Rattle.std.proofs.lemmas.Bool.{cases_eq, eq-eqb, eqb-true}
use Rattle.std.proofs.lemmas.List.{get_or-set_same, length-set, map-set, set-get_or}
use Rattle.std.proofs.lemmas.Option.{get_or_from_slice_get, none-some, same_Some, slice_get-get_or, slice_get-map, slice_get_within}
use Rattle.omci_msg.specs.declared.Request.{Request}
use Rattle.omci_msg.specs.declared.Action.TheVariants.{Set}
use Rattle.managed_entity.specs.declared.attribute.Attribute.{Attribute}
use Rattle.managed_entity.specs.declared.refusal.Refusal.{Refusal}
use Rattle.managed_entity.specs.Answer.{left_by}
use Rattle.managed_entity.specs.Class.{attributes_of, is_known, mapper_class, vlan_class}
use Rattle.managed_entity.specs.Instance.{Instance}
use Rattle.managed_entity.specs.Mask.{mask_of}
use Rattle.managed_entity.specs.Set.{set_instance}
use Rattle.managed_entity.proofs.SetInstance.{KeepsNumber, set_number}
use Rattle.mib_state.specs.declared.touch.Touch.{Touch}
use Rattle.mib_state.specs.declared.touch.Touch.TheVariants.{Nothing, One, All}
use Rattle.mib_state.specs.Entities.{Entities, State, find, instances_of, place_in, replace}
use Rattle.mib_state.specs.Step.{counted, done, left, replaced, set as set_request, set_found, set_in}
use Rattle.mib_state.specs.Touch.{AreSameButOne, touched, touched_by}
use Rattle.forward_plan.specs.declared.naming.Naming.{Naming}
use Rattle.forward_plan.specs.declared.part.Part.{Part}
use Rattle.forward_plan.specs.Parts.{AreParts, AreRight}
use Rattle.forward_plan.specs.Setting.{IsReplaced, IsSetOf, IsSetAt}
use Rattle.forward_plan.proofs.Attachments.{other_place}
use Rattle.forward_plan.proofs.Kept.{written_right}

-- ---- what a Set leaves

either : {A : Type 0} (P : A → Type 0) (b : Bool) (x y : A) → P x → P y → P (if b then x else y)
either P true x y here there = here
either P false x y here there = there

-- the instances that are left have one in the place of that of its number
abbrev ReplacesOne : ℕ → List Instance → Result (List Instance) Refusal → Type 0
ReplacesOne n old (Ok new) = IsReplaced n old new
ReplacesOne n old (Err refusal) = Unit {0}

-- the number that was looked for is that of the instance found
number_found : (n : ℕ) (l : List Instance) → IfSome (find n l) (λ i. i.number ≡ n)
number_found n [] = tt
number_found n (x ∷ l) = by_case (x.number == n) refl (number_found n l)
  where
    by_case : (b : Bool) → (x.number == n) ≡ b → IfSome (find n l) (λ i. i.number ≡ n) → IfSome (find n (x ∷ l)) (λ i. i.number ≡ n)
    by_case true is later = rw is (eqb-true x.number n is)
    by_case false is later = rw is later

replaces_found : (layout : List Attribute) (n mask : ℕ) (bytes : List ℕ) (l : List Instance) (found : Option Instance) → IfSome found (λ i. i.number ≡ n)
    → ReplacesOne n l (set_found layout mask bytes l found)
replaces_found layout n mask bytes l None is = tt
replaces_found layout n mask bytes l (Some i) is = by_case (set_instance layout mask bytes i) (subst (λ k. KeepsNumber k (set_instance layout mask bytes i)) is (set_number layout mask bytes i))
  where
    by_case : (r : Result Instance Refusal) → KeepsNumber n r → ReplacesOne n l (replaced l r)
    by_case (Ok new) keeps = (new, keeps, refl)
    by_case (Err refusal) keeps = tt

set_replaces : (layout : List Attribute) (n mask : ℕ) (bytes : List ℕ) (l : List Instance) → ReplacesOne n l (set_in layout n mask bytes l)
unfolding set_in
set_replaces layout n mask bytes l = replaces_found layout n mask bytes l (find n l) (number_found n l)

-- the entities that are left have one in its place, where the class is one of tables or of mappers
pub record LeavesOne (class n : ℕ) (old new : Entities) : Type 0 where
  pub mappers : class ≡ mapper_class → IsReplaced n old.mappers new.mappers
  pub vlans : class ≡ vlan_class → IsReplaced n old.vlans new.vlans

abbrev LeavesOneIf : ℕ → ℕ → Entities → Result Entities Refusal → Type 0
LeavesOneIf class n old (Ok new) = LeavesOne class n old new
LeavesOneIf class n old (Err refusal) = Unit {0}

counted_leaves : (e : Entities) (class n : ℕ) (r : Result (List Instance) Refusal) → ReplacesOne n (instances_of e class) r
    → LeavesOneIf class n e (counted e class r)
counted_leaves e class n (Err refusal) is = tt
counted_leaves e class n (Ok l) is = record {
  mappers = λ here. let (i, number, new) = (rw here at is) in rw here (i, number, new);
  vlans = λ here. let (i, number, new) = (rw here at is) in rw here (i, number, new);
}

set_leaves : (e : Entities) (q : Request) → LeavesOneIf q.class q.instance e (set_request e q)
unfolding set_request
set_leaves e q =
    either (LeavesOneIf q.class q.instance e) (not (is_known q.class)) _ _ tt
    (counted_leaves e q.class q.instance _ (set_replaces (attributes_of q.class) q.instance (mask_of q.contents) (drop 2 q.contents) (instances_of e q.class)))

-- ---- what a Set is said to touch

abbrev class_of : Touch → ℕ
class_of Nothing = 0
class_of (One class n) = suc class
class_of All = 0

abbrev instance_of : Touch → ℕ
instance_of Nothing = 0
instance_of (One class n) = n
instance_of All = 0

touched_one : (q : Request) (class n : ℕ) → touched_by Set q ≡ One class n → (q.class ≡ class) × (q.instance ≡ n)
touched_one q class n is = by_case (q.class == 2) is
  where
    by_case : (b : Bool) → (if b then Nothing else One q.class q.instance) ≡ One class n → (q.class ≡ class) × (q.instance ≡ n)
    by_case true none = absurd (omega (arith, ap class_of none))
    by_case false one = (omega (arith, ap class_of one), ap instance_of one)

accepted : (e : Entities) (q : Request) (class n : ℕ) (r : Result Entities Refusal) → LeavesOneIf q.class q.instance e r
    → (if is_ok (done r) then touched_by Set q else Nothing) ≡ One class n → LeavesOne class n e (left_by e r)
accepted e q class n (Err refusal) leaves is = absurd (omega (arith, ap class_of is))
accepted e q class n (Ok new) leaves is =
    let one = touched_one q class n is in
    rw (one.0, one.1) at leaves

-- a Set that touches one instance leaves the others where they stood
pub is_set : (s : State) (q : Request) (class n : ℕ) → q.action ≡ Set → touched s q ≡ One class n
    → AreSameButOne class n s.entities (left q.action s.entities q) → IsSetOf class n s.entities (left q.action s.entities q)
unfolding set_request
is_set s q class n action one same =
    let leaves = accepted s.entities q class n (set_request s.entities q) (set_leaves s.entities q) (rw action at one) in
    rw action (record { same = rw action at same; mappers = leaves.mappers; vlans = leaves.vlans })

-- ---- the place of the instance

replaced_at : (i : Instance) (l : List Instance) (place : ℕ) → place_in i.number (replace i l) ≡ Some place → IsSetAt place l (replace i l)
replaced_at i [] place is = absurd (none-some place is)
replaced_at i (x ∷ l) place is = by_case (x.number == i.number) refl is (replaced_at i l)
  where
    by_case : (b : Bool) → (x.number == i.number) ≡ b → place_in i.number (if b then i ∷ l else x ∷ replace i l) ≡ Some place
        → ((j : ℕ) → place_in i.number (replace i l) ≡ Some j → IsSetAt j l (replace i l)) → IsSetAt place (x ∷ l) (if x.number == i.number then i ∷ l else x ∷ replace i l)
    by_case true test here later =
        let first : 0 ≡ place = same_Some 0 place (rw (eq-eqb i.number i.number refl) at here) in
        rw (test, ← first) (record { before = x; now = i; was = refl; number = sym (eqb-true x.number i.number test); after = refl })
    by_case false test behind later =
        elim (place_in i.number (replace i l)) as (λ o. place_in i.number (replace i l) ≡ o → option_map (λ (k : ℕ). k + 1) o ≡ Some place
        → IsSetAt place (x ∷ l) (if x.number == i.number then i ∷ l else x ∷ replace i l)) [
          | None ↦ λ at none. absurd (none-some place none)
          | Some j ↦ λ at some.
              let rest = later j at in
              let next_is : suc j ≡ place = omega (arith, same_Some (j + 1) place some) in
              rw (test, ← next_is) (record { before = rest.before; now = rest.now; was = rest.was; number = rest.number; after = ap (λ (k : List Instance). x ∷ k) rest.after })
        ] refl (rw test at behind)

pub set_at : (n : ℕ) (old new : List Instance) (place : ℕ) → IsReplaced n old new → place_in n new ≡ Some place → IsSetAt place old new
set_at n old new place (i, number, is) at =
    let there : place_in i.number (replace i old) ≡ Some place = ap (λ (m : ℕ). place_in m (replace i old)) number ∙ ap (place_in n) (sym is) ∙ at in
    rw is (replaced_at i old place there)

-- ---- what the instances say of where they are attached

module _ (f : Instance → Naming) (numbered : (i : Instance) → let n = f i in n.number ≡ i.number) (old new : List Instance) (place : ℕ)
    (set_there : IsSetAt place old new) where
  stands : slice_get new place ≡ Some set_there.now
  stands =
      let within = slice_get_within old place set_there.before set_there.was in
      let long : place < length (set old place set_there.now) = omega (arith, within, length-set old place set_there.now) in
      ap (λ (l : List Instance). slice_get l place) set_there.after
      ∙ slice_get-get_or (set old place set_there.now) place set_there.now long
      ∙ ap Some (get_or-set_same old place set_there.now set_there.now within)

  pub was_named : slice_get (map f old) place ≡ Some (f set_there.before)
  was_named = slice_get-map f old place ∙ ap (option_map f) set_there.was

  module _ (now : Naming) (is : Some now ≡ option_map f (slice_get new place)) where
    now_named : now ≡ f set_there.now
    now_named = same_Some now (f set_there.now) (is ∙ ap (option_map f) stands)

    pub number_named : let n = f set_there.before in now.number ≡ n.number
    number_named = ap (λ (n : Naming). n.number) now_named ∙ numbered set_there.now ∙ set_there.number ∙ sym (numbered set_there.before)

    pub names_set : map f new ≡ set (map f old) place now
    names_set = ap (map f) set_there.after ∙ map-set f old place set_there.now ∙ ap (set (map f old) place) (sym now_named)

    pub names_same : now ≡ f set_there.before → map f new ≡ map f old
    names_same same =
        let there = get_or_from_slice_get (map f old) place (f set_there.before) now was_named in
        names_set ∙ ap (set (map f old) place) (same ∙ sym there) ∙ set-get_or (map f old) place now

-- ---- the parts of a class

-- what is compiled at each place of parts
abbrev pub compiled_of : {T : Type 0} → Part T → T
compiled_of part = part.compiled

-- where what is compiled stays at each place, it is there
compiled_there : {T : Type 0} (old new : List (Part T)) (k : ℕ) (part : Part T) → map compiled_of new ≡ map compiled_of old → slice_get old k ≡ Some part
    → (kept : Part T) × (slice_get new k ≡ Some kept) × (kept.compiled ≡ part.compiled)
compiled_there {T} old new k part same held =
    by_case (slice_get new k) refl (sym (slice_get-map compiled_of new k) ∙ ap (λ (l : List T). slice_get l k) same ∙ slice_get-map compiled_of old k ∙ ap (option_map compiled_of) held)
  where
    by_case : (o : Option (Part T)) → slice_get new k ≡ o → option_map compiled_of o ≡ Some part.compiled
        → (kept : Part T) × (slice_get new k ≡ Some kept) × (kept.compiled ≡ part.compiled)
    by_case None is none = absurd (none-some part.compiled none)
    by_case (Some kept) is some = (kept, is, same_Some kept.compiled part.compiled some)

-- one part is compiled anew at its place, and the others stay where they stood
pub one_compiled : {T : Type 0} (Is Is' : Instance → T → Type 0) (old new : List Instance) (place number : ℕ) (here : Instance) (parts kept : List (Part T)) (part : Part T)
    → IsSetAt place old new → Some here ≡ slice_get new place → find number new ≡ slice_get new place → part.of ≡ Some number → Is' here part.compiled
    → ((i : Instance) (compiled : T) → Is i compiled → Is' i compiled) → place < length kept → map compiled_of kept ≡ map compiled_of parts
    → AreRight Is' new kept → AreParts Is old parts → AreParts Is' new (set kept place part)
one_compiled Is Is' old new place number here parts kept part set_there is found of compiled still within same right all = record {
  right = written_right Is' new kept place number here part within is found of compiled right;
  kept = λ k i held. elim (cases_eq k place) [
    | inl here_is ↦
        let i_is : i ≡ here = same_Some i here (sym held ∙ (ap (slice_get new) here_is ∙ sym is)) in
        let long : place < length (set kept place part) = omega (arith, within, length-set kept place part) in
        record {
          kept = part;
          held = ap (slice_get (set kept place part)) here_is ∙ slice_get-get_or (set kept place part) place part long ∙ ap Some (get_or-set_same kept place part part within);
          right = rw i_is compiled;
        }
    | inr differs ↦
        let stood : slice_get old k ≡ Some i =
        sym (other_place old place k set_there.now differs) ∙ ap (λ (l : List Instance). slice_get l k) (sym set_there.after) ∙ held in
        let was = all.kept k i stood in
        let (there, held_there, compiled_is) = compiled_there parts kept k was.kept same was.held in
        record { kept = there; held = other_place kept place k part differs ∙ held_there; right = rw compiled_is (still i was.kept.compiled was.right) }
  ];
}
