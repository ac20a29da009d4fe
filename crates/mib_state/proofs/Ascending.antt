-- Each step leaves the instances of a class by ascending number.
use Rattle.std.proofs.Common.{◌≡◌, ℕ, zero, suc, ◌<◌, ◌≤◌, true, false, List, [], ◌∷◌, Option, Some, None, Result, Ok, Err, IfOk, IfSome, refl, sym, subst, arith}
use Rattle.std.specs.Prelude.{◌==◌, if◌then◌else◌, not, nat_lt, nat_le, is_some, length, drop}
use Rattle.std.proofs.lemmas.Bool.{eqb-true, eqb-false, ltb-true, ltb-false, leb-true, leb-false}
use mathlib.Core.Bool.{false≢true}
use Rattle.omci_msg.specs.declared.Request.{Request}
use Rattle.omci_msg.specs.declared.Action.{Action}
use Rattle.omci_msg.specs.declared.Action.TheVariants.{Create, Delete, Set, Get, GetNext, MibUpload, MibUploadNext, MibReset, Other}
use Rattle.managed_entity.specs.declared.attribute.Attribute.{Attribute}
use Rattle.managed_entity.specs.declared.refusal.Refusal.{Refusal}
use Rattle.managed_entity.specs.Answer.{left_by}
use Rattle.managed_entity.specs.Class.{attributes_of, is_known, room_of}
use Rattle.managed_entity.specs.Instance.{Instance}
use Rattle.managed_entity.specs.Mask.{mask_of}
use Rattle.managed_entity.specs.Set.{set_instance}
use Rattle.managed_entity.specs.Write.{created}
use Rattle.managed_entity.proofs.SetInstance.{KeepsNumber, set_number}
use Rattle.mib_state.specs.Entities.{Entities, nothing, find, insert, next, number_at, onu_data, remove, replace, instances_of, with_instances, IsAscending, IsAt, IsGapFor}
use Rattle.mib_state.specs.Step.{counted, create, create_in, delete, delete_in, left, next_sync, replaced, set, set_found, set_in}
use Rattle.mib_state.specs.After.{after, after_from, AreAscending, ClassesAscend, IsLeastFrom, NextIsLeast}
use Rattle.mib_state.proofs.Place.{ascending_insert, ascending_none, ascending_remove, ascending_set, insert_gap, remove_at, replace_at, tail_ascending}
use Rattle.mib_state.proofs.Touched.{either, number_found}

-- ---- where a number is, or where it would go

behind : (x : Instance) (l : List Instance) (n : ℕ) → (place : ℕ) × IsAt l n place → (place : ℕ) × IsAt (x ∷ l) n place
behind x l n at = (suc at.0, record { in_range = omega (arith, at.1.in_range); has_number = at.1.has_number })

found_place : (n : ℕ) (l : List Instance) → is_some (find n l) ≡ true → (place : ℕ) × IsAt l n place
found_place n [] is = absurd (false≢true is)
found_place n (x ∷ l) is =
    elim (x.number == n) as (λ b. (x.number == n) ≡ b → is_some (if b then Some x else find n l) ≡ true → (place : ℕ) × IsAt (x ∷ l) n place) [
      | true ↦ λ same is. (zero, record { in_range = omega arith; has_number = eqb-true x.number n same })
      | false ↦ λ other is. behind x l n (found_place n l is)
    ] refl is

-- a number that is under the first goes before it
head_greater : (x : Instance) (l : List Instance) (n : ℕ) → IsAscending (x ∷ l) → n < x.number → (j : ℕ) → j < length (x ∷ l) → n < number_at (x ∷ l) j
head_greater x l n up under zero inside = under
head_greater x l n up under (suc j) inside = omega (arith, up zero (suc j) (omega arith) inside, under)

gap_before : (x : Instance) (l : List Instance) (n : ℕ) → IsAscending (x ∷ l) → n < x.number → IsGapFor (x ∷ l) n zero
gap_before x l n up under = record {
  in_range = omega arith;
  smaller_before = λ j lt. absurd (omega arith);
  greater_after = λ j le lt. head_greater x l n up under j lt;
}

smaller_behind : (x : Instance) (l : List Instance) (n k : ℕ) → x.number < n → IsGapFor l n k → (j : ℕ) → j < suc k → number_at (x ∷ l) j < n
smaller_behind x l n k over gap zero lt = over
smaller_behind x l n k over gap (suc j) lt = gap.smaller_before j (omega arith)

greater_behind : (x : Instance) (l : List Instance) (n k : ℕ) → IsGapFor l n k → (j : ℕ) → suc k ≤ j → j < length (x ∷ l) → n < number_at (x ∷ l) j
greater_behind x l n k gap zero le lt = absurd (omega arith)
greater_behind x l n k gap (suc j) le lt = gap.greater_after j (omega arith) (omega arith)

gap_behind : (x : Instance) (l : List Instance) (n : ℕ) → x.number < n → (place : ℕ) × IsGapFor l n place → (place : ℕ) × IsGapFor (x ∷ l) n place
gap_behind x l n over gap = (
  suc gap.0,
  record {
    in_range = omega (arith, gap.1.in_range);
    smaller_before = smaller_behind x l n gap.0 over gap.1;
    greater_after = greater_behind x l n gap.0 gap.1;
  },
)

absent_gap : (n : ℕ) (l : List Instance) → IsAscending l → is_some (find n l) ≡ false → (place : ℕ) × IsGapFor l n place
absent_gap n [] up isnt = (zero, record { in_range = omega arith; smaller_before = λ j lt. absurd (omega arith); greater_after = λ j le lt. absurd (omega arith) })
absent_gap n (x ∷ l) up isnt =
    elim (x.number == n) as (λ b. (x.number == n) ≡ b → is_some (if b then Some x else find n l) ≡ false → (place : ℕ) × IsGapFor (x ∷ l) n place) [
      | true ↦ λ same isnt. absurd (false≢true (sym isnt))
      | false ↦ λ other isnt. elim (nat_lt n x.number) as (λ b. nat_lt n x.number ≡ b → (place : ℕ) × IsGapFor (x ∷ l) n place) [
        | true ↦ λ under. (zero, gap_before x l n up (ltb-true n x.number under))
        | false ↦ λ over. gap_behind x l n (grind (arith, ltb-false n x.number over, eqb-false x.number n other)) (absent_gap n l (tail_ascending x l up) isnt)
      ] refl
    ] refl isnt

-- ---- a change of the instances of a class

-- where it isn't refused, it leaves them in order
abbrev Ascends : Result (List Instance) Refusal → Type 0
Ascends r = IfOk r IsAscending

inserted : (new : Instance) (l : List Instance) → IsAscending l → is_some (find new.number l) ≡ false → IsAscending (insert new l)
inserted new l up isnt =
    let gap = absent_gap new.number l up isnt in
    rw (insert_gap l gap.0 new gap.1) (ascending_insert l gap.0 new gap.1 up)

removed : (n : ℕ) (l : List Instance) → IsAscending l → is_some (find n l) ≡ true → IsAscending (remove n l)
removed n l up is =
    let at = found_place n l is in
    rw (remove_at l n at.0 up at.1) (ascending_remove l at.0 at.1.in_range up)

changed : (n : ℕ) (new : Instance) (l : List Instance) → new.number ≡ n → IsAscending l → is_some (find n l) ≡ true → IsAscending (replace new l)
changed n new l numbered up is =
    let at = found_place n l is in
    rw (replace_at l n at.0 new numbered up at.1) (ascending_set l n at.0 new numbered up at.1)

create_ascends : (layout : List Attribute) (room n : ℕ) (contents : List ℕ) (l : List Instance) → IsAscending l → IfOk (create_in layout room n contents l) IsAscending
unfolding create_in
create_ascends layout room n contents l up =
    either Ascends (n == 65535) _ _ (λ is. tt) (λ no.
    either Ascends (is_some (find n l)) _ _ (λ is. tt) (λ absent.
    either Ascends (nat_le room (length l)) _ _ (λ is. tt) (λ no. inserted (created layout n contents) l up absent)))

delete_ascends : (n : ℕ) (l : List Instance) → IsAscending l → IfOk (delete_in n l) IsAscending
unfolding delete_in
delete_ascends n l up = either Ascends (is_some (find n l)) _ _ (λ held. removed n l up held) (λ no. tt)

replaced_ascends : (n : ℕ) (l : List Instance) (r : Result Instance Refusal) → KeepsNumber n r → IsAscending l → is_some (find n l) ≡ true → IfOk (replaced l r) IsAscending
replaced_ascends n l (Ok new) keeps up held = changed n new l keeps up held
replaced_ascends n l (Err refusal) keeps up held = tt

found_ascends : (layout : List Attribute) (n mask : ℕ) (bytes : List ℕ) (l : List Instance) (found : Option Instance) → IfSome found (λ i. i.number ≡ n)
    → IsAscending l → is_some (find n l) ≡ is_some found → IfOk (set_found layout mask bytes l found) IsAscending
found_ascends layout n mask bytes l None is up held = tt
found_ascends layout n mask bytes l (Some i) is up held =
    let r = set_instance layout mask bytes i in
    replaced_ascends n l r (subst (λ k. KeepsNumber k r) is (set_number layout mask bytes i)) up held

set_ascends : (layout : List Attribute) (n mask : ℕ) (bytes : List ℕ) (l : List Instance) → IsAscending l → IfOk (set_in layout n mask bytes l) IsAscending
unfolding set_in
set_ascends layout n mask bytes l up = found_ascends layout n mask bytes l (find n l) (number_found n l) up refl

-- ---- what a step leaves

one_ascends : (i : Instance) → IsAscending (i ∷ [])
one_ascends i j k lt inside = absurd (omega arith)

pub of_class : (e : Entities) (class : ℕ) → AreAscending e → IsAscending (instances_of e class)
of_class e class up =
    either IsAscending (class == 2) _ _ (λ is. one_ascends (onu_data e.sync)) (λ no.
    either IsAscending (class == 130) _ _ (λ is. up.mappers) (λ no.
    either IsAscending (class == 171) _ _ (λ is. up.vlans) (λ no.
    either IsAscending (class == 266) _ _ (λ is. up.interworks) (λ no.
    either IsAscending (class == 268) _ _ (λ is. up.gem_ports) (λ no. ascending_none)))))

with_class : (e : Entities) (class : ℕ) (l : List Instance) → AreAscending e → IsAscending l → AreAscending (with_instances e class l)
with_class e class l up ascends =
    either AreAscending (class == 2) _ _ (λ is. record { mappers = up.mappers; vlans = up.vlans; interworks = up.interworks; gem_ports = up.gem_ports }) (λ no.
    either AreAscending (class == 130) _ _ (λ is. record { mappers = ascends; vlans = up.vlans; interworks = up.interworks; gem_ports = up.gem_ports }) (λ no.
    either AreAscending (class == 171) _ _ (λ is. record { mappers = up.mappers; vlans = ascends; interworks = up.interworks; gem_ports = up.gem_ports }) (λ no.
    either AreAscending (class == 266) _ _ (λ is. record { mappers = up.mappers; vlans = up.vlans; interworks = ascends; gem_ports = up.gem_ports }) (λ no.
    either AreAscending (class == 268) _ _ (λ is. record { mappers = up.mappers; vlans = up.vlans; interworks = up.interworks; gem_ports = ascends }) (λ no. up)))))

-- the sync is no instance of these classes
with_sync : (e : Entities) (sync : ℕ) → AreAscending e → AreAscending (record e { sync = sync })
with_sync e sync up = record { mappers = up.mappers; vlans = up.vlans; interworks = up.interworks; gem_ports = up.gem_ports }

counted_ascends : (e : Entities) (class : ℕ) (r : Result (List Instance) Refusal) → AreAscending e → IfOk r IsAscending → IfOk (counted e class r) AreAscending
counted_ascends e class (Err refusal) up ascends = tt
counted_ascends e class (Ok l) up ascends =
    let now = with_class e class l up ascends in
    either AreAscending (class == 2) _ _ (λ is. now) (λ no. with_sync (with_instances e class l) (next_sync e.sync) now)

abbrev AllAscend : Result Entities Refusal → Type 0
AllAscend r = IfOk r AreAscending

create_ascend : (e : Entities) (q : Request) → AreAscending e → AllAscend (create e q)
unfolding create
create_ascend e q up =
    let made = create_ascends (attributes_of q.class) (room_of q.class) q.instance q.contents (instances_of e q.class) (of_class e q.class up) in
    either AllAscend (not (is_known q.class)) _ _ (λ is. tt) (λ no. either AllAscend (q.class == 2) _ _ (λ is. tt) (λ no. counted_ascends e q.class _ up made))

delete_ascend : (e : Entities) (q : Request) → AreAscending e → AllAscend (delete e q)
unfolding delete
delete_ascend e q up =
    let gone = delete_ascends q.instance (instances_of e q.class) (of_class e q.class up) in
    either AllAscend (not (is_known q.class)) _ _ (λ is. tt) (λ no. either AllAscend (q.class == 2) _ _ (λ is. tt) (λ no. counted_ascends e q.class _ up gone))

set_ascend : (e : Entities) (q : Request) → AreAscending e → AllAscend (set e q)
unfolding set
set_ascend e q up =
    let put = set_ascends (attributes_of q.class) q.instance (mask_of q.contents) (drop 2 q.contents) (instances_of e q.class) (of_class e q.class up) in
    either AllAscend (not (is_known q.class)) _ _ (λ is. tt) (λ no. counted_ascends e q.class _ up put)

left_ascends : (e : Entities) (r : Result Entities Refusal) → AreAscending e → AllAscend r → AreAscending (left_by e r)
left_ascends e (Ok new) up ascends = ascends
left_ascends e (Err refusal) up ascends = up

step_ascends : (a : Action) (e : Entities) (q : Request) → AreAscending e → AreAscending (left a e q)
step_ascends Create e q up = left_ascends e (create e q) up (create_ascend e q up)
step_ascends Delete e q up = left_ascends e (delete e q) up (delete_ascend e q up)
step_ascends Set e q up = left_ascends e (set e q) up (set_ascend e q up)
step_ascends Get e q up = up
step_ascends GetNext e q up = up
step_ascends MibUpload e q up = up
step_ascends MibUploadNext e q up = up
step_ascends MibReset e q up = record { mappers = ascending_none; vlans = ascending_none; interworks = ascending_none; gem_ports = ascending_none }
step_ascends (Other code) e q up = up

steps_ascend : (e : Entities) (qs : List Request) → AreAscending e → AreAscending (after_from e qs)
steps_ascend e [] up = up
steps_ascend e (q ∷ qs) up = steps_ascend (left q.action e q) qs (step_ascends q.action e q up)

pub classes_ascend : ClassesAscend
classes_ascend qs = steps_ascend nothing qs (record { mappers = ascending_none; vlans = ascending_none; interworks = ascending_none; gem_ports = ascending_none })

-- ---- the least number

first_least : (x : Instance) (l : List Instance) → IsAscending (x ∷ l) → (j : ℕ) → j < length (x ∷ l) → x.number ≤ number_at (x ∷ l) j
first_least x l up zero inside = omega arith
first_least x l up (suc j) inside = omega (arith, up zero (suc j) (omega arith) inside)

least_behind : (from : ℕ) (x : Instance) (l : List Instance) (n : ℕ) → x.number < from → IsLeastFrom from l n
    → (j : ℕ) → j < length (x ∷ l) → from ≤ number_at (x ∷ l) j → n ≤ number_at (x ∷ l) j
least_behind from x l n under is zero inside le = absurd (omega arith)
least_behind from x l n under is (suc j) inside le = is.least j (omega arith) le

next_behind : (from : ℕ) (x : Instance) (l : List Instance) (o : Option ℕ) → x.number < from → IfSome o (IsLeastFrom from l) → IfSome o (IsLeastFrom from (x ∷ l))
next_behind from x l None under is = tt
next_behind from x l (Some n) under is =
    record { held = behind x l n is.held; from_on = is.from_on; least = least_behind from x l n under is }

next_least : (from : ℕ) (l : List Instance) → IsAscending l → IfSome (next from l) (IsLeastFrom from l)
next_least from [] up = tt
next_least from (x ∷ l) up =
    either (λ o. IfSome o (IsLeastFrom from (x ∷ l))) (nat_le from x.number) (Some x.number) (next from l)
    (λ is. record {
      held = (zero, record { in_range = omega arith; has_number = refl });
      from_on = leb-true from x.number is;
      least = λ j inside le. first_least x l up j inside;
    })
    (λ no. next_behind from x l (next from l) (leb-false from x.number no) (next_least from l (tail_ascending x l up)))

pub next_is_least : NextIsLeast
next_is_least qs class from = next_least from (instances_of (after qs) class) (of_class (after qs) class (classes_ascend qs))
