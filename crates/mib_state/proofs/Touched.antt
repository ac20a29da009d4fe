-- A step changes no other instance than the one that it is said to touch.
use Rattle.std.proofs.Common.{◌≡◌, ◌≢◌, ℕ, Bool, true, false, List, [], ◌∷◌, Option, Some, None, Result, Ok, Err, IfSome, refl, sym, subst, ◌∙◌, arith}
use Rattle.std.specs.Prelude.{◌==◌, if◌then◌else◌, not, nat_lt, nat_le, is_some, length, drop}
use Rattle.std.proofs.lemmas.Bool.{ne_eqb, eqb-true}
use Rattle.omci_msg.specs.declared.Request.{Request}
use Rattle.omci_msg.specs.declared.Action.{Action}
use Rattle.omci_msg.specs.declared.Action.TheVariants.{Create, Delete, Set, Get, GetNext, MibUpload, MibUploadNext, MibReset, Other}
use Rattle.managed_entity.specs.declared.attribute.Attribute.{Attribute}
use Rattle.managed_entity.specs.declared.refusal.Refusal.{Refusal}
use Rattle.managed_entity.specs.declared.refusal.Refusal.TheVariants.{NotSupported, UnknownEntity}
use Rattle.managed_entity.specs.Answer.{left_by}
use Rattle.managed_entity.specs.Class.{is_known, attributes_of, room_of}
use Rattle.managed_entity.specs.Instance.{Instance}
use Rattle.managed_entity.specs.Mask.{mask_of}
use Rattle.managed_entity.specs.Set.{set_instance}
use Rattle.managed_entity.specs.Write.{created}
use Rattle.managed_entity.proofs.SetInstance.{KeepsNumber, set_number}
use Rattle.mib_state.specs.declared.touch.Touch.TheVariants.{Nothing, One}
use Rattle.mib_state.specs.Entities.{Entities, find, insert, remove, replace, instances_of, with_instances}
use Rattle.mib_state.specs.Step.{counted, create, create_in, delete, delete_in, left, next_sync, replaced, set, set_found, set_in}
use Rattle.mib_state.specs.Touch.{touched_by, IsSameBut, AreSame, AreSameButOne, IsTouch}

-- each way of an `if` has what it is asked for
pub either : {A : Type 0} (P : A → Type 0) (b : Bool) (x y : A) → (b ≡ true → P x) → (b ≡ false → P y) → P (if b then x else y)
either P true x y holds fails = holds refl
either P false x y holds fails = fails refl

-- ---- another number is found as before

-- behind one more
find_behind : (m : ℕ) (x : Instance) (l k : List Instance) → find m l ≡ find m k → find m (x ∷ l) ≡ find m (x ∷ k)
find_behind m x l k same = rw same refl

-- past one of another number
find_past : (m : ℕ) (x : Instance) (l : List Instance) → m ≢ x.number → find m (x ∷ l) ≡ find m l
find_past m x l other = rw (ne_eqb x.number m (λ is. other (sym is))) refl

find_inserted : (new : Instance) (l : List Instance) (m : ℕ) → m ≢ new.number → find m (insert new l) ≡ find m l
find_inserted new [] m other = find_past m new [] other
find_inserted new (x ∷ l) m other =
    either (λ (k : List Instance). find m k ≡ find m (x ∷ l)) (nat_lt new.number x.number) (new ∷ x ∷ l) (x ∷ insert new l)
    (λ is. find_past m new (x ∷ l) other)
    (λ no. find_behind m x (insert new l) l (find_inserted new l m other))

find_removed : (n : ℕ) (l : List Instance) (m : ℕ) → m ≢ n → find m (remove n l) ≡ find m l
find_removed n [] m other = refl
find_removed n (x ∷ l) m other =
    either (λ (k : List Instance). find m k ≡ find m (x ∷ l)) (x.number == n) l (x ∷ remove n l)
    (λ is. sym (find_past m x l (λ same. other (same ∙ eqb-true x.number n is))))
    (λ no. find_behind m x (remove n l) l (find_removed n l m other))

find_replaced : (new : Instance) (l : List Instance) (m : ℕ) → m ≢ new.number → find m (replace new l) ≡ find m l
find_replaced new [] m other = refl
find_replaced new (x ∷ l) m other =
    either (λ (k : List Instance). find m k ≡ find m (x ∷ l)) (x.number == new.number) (new ∷ l) (x ∷ replace new l)
    (λ is. find_past m new l other ∙ sym (find_past m x l (λ same. other (same ∙ eqb-true x.number new.number is))))
    (λ no. find_behind m x (replace new l) l (find_replaced new l m other))

-- the number that was looked for is that of the instance found
pub number_found : (n : ℕ) (l : List Instance) → IfSome (find n l) (λ i. i.number ≡ n)
number_found n [] = tt
number_found n (x ∷ l) =
    either (λ found. IfSome found (λ (i : Instance). i.number ≡ n)) (x.number == n) (Some x) (find n l) (λ is. eqb-true x.number n is) (λ no. number_found n l)

-- ---- a change of the instances of a class

-- it touches no other number
abbrev OthersKept : ℕ → List Instance → Result (List Instance) Refusal → Type 0
OthersKept n old (Ok new) = (m : ℕ) → m ≢ n → find m new ≡ find m old
OthersKept n old (Err refusal) = Unit {0}

create_others : (layout : List Attribute) (room n : ℕ) (contents : List ℕ) (l : List Instance) → OthersKept n l (create_in layout room n contents l)
unfolding create_in
create_others layout room n contents l =
    either (OthersKept n l) (n == 65535) _ _ (λ is. tt) (λ no.
    either (OthersKept n l) (is_some (find n l)) _ _ (λ is. tt) (λ no.
    either (OthersKept n l) (nat_le room (length l)) _ _ (λ is. tt) (λ no. find_inserted (created layout n contents) l)))

delete_others : (n : ℕ) (l : List Instance) → OthersKept n l (delete_in n l)
unfolding delete_in
delete_others n l = either (OthersKept n l) (is_some (find n l)) _ _ (λ is. find_removed n l) (λ no. tt)

replaced_others : (n : ℕ) (l : List Instance) (r : Result Instance Refusal) → KeepsNumber n r → OthersKept n l (replaced l r)
replaced_others n l (Ok new) keeps = λ m other. find_replaced new l m (λ same. other (same ∙ keeps))
replaced_others n l (Err refusal) keeps = tt

found_others : (layout : List Attribute) (n mask : ℕ) (bytes : List ℕ) (l : List Instance) (found : Option Instance) → IfSome found (λ i. i.number ≡ n)
    → OthersKept n l (set_found layout mask bytes l found)
found_others layout n mask bytes l None is = tt
found_others layout n mask bytes l (Some i) is =
    let r = set_instance layout mask bytes i in
    replaced_others n l r (subst (λ k. KeepsNumber k r) is (set_number layout mask bytes i))

set_others : (layout : List Attribute) (n mask : ℕ) (bytes : List ℕ) (l : List Instance) → OthersKept n l (set_in layout n mask bytes l)
unfolding set_in
set_others layout n mask bytes l = found_others layout n mask bytes l (find n l) (number_found n l)

-- ---- what it leaves of the entities

unchanged : (own class n : ℕ) (l : List Instance) → IsSameBut own class n l l
unchanged own class n l = record { elsewhere = λ other. refl; others = λ m other. refl }

all_unchanged : (class n : ℕ) (e : Entities) → AreSameButOne class n e e
all_unchanged class n e = record {
  mappers = unchanged 130 class n e.mappers;
  vlans = unchanged 171 class n e.vlans;
  interworks = unchanged 266 class n e.interworks;
  gem_ports = unchanged 268 class n e.gem_ports;
}

-- the instances of the class itself
changed : (own class n : ℕ) (old new : List Instance) → class ≡ own → ((m : ℕ) → m ≢ n → find m new ≡ find m old) → IsSameBut own class n old new
changed own class n old new is kept = record { elsewhere = λ other. absurd (other (sym is)); others = kept }

-- a class with other instances, of which each other number is found as before
with_changed : (e : Entities) (class n : ℕ) (l : List Instance) → ((m : ℕ) → m ≢ n → find m l ≡ find m (instances_of e class))
    → AreSameButOne class n e (with_instances e class l)
with_changed e class n l kept =
    let mappers = unchanged 130 class n e.mappers in
    let vlans = unchanged 171 class n e.vlans in
    let interworks = unchanged 266 class n e.interworks in
    let gem_ports = unchanged 268 class n e.gem_ports in
    either (AreSameButOne class n e) (class == 2) _ _
    (λ is. record { mappers = mappers; vlans = vlans; interworks = interworks; gem_ports = gem_ports })
    (λ no. either (AreSameButOne class n e) (class == 130) _ _
    (λ here. let is = eqb-true class 130 here in record { mappers = changed 130 class n e.mappers l is (rw is at kept); vlans = vlans; interworks = interworks; gem_ports = gem_ports })
    (λ no. either (AreSameButOne class n e) (class == 171) _ _
    (λ here. let is = eqb-true class 171 here in record { mappers = mappers; vlans = changed 171 class n e.vlans l is (rw is at kept); interworks = interworks; gem_ports = gem_ports })
    (λ no. either (AreSameButOne class n e) (class == 266) _ _
    (λ here. let is = eqb-true class 266 here in record { mappers = mappers; vlans = vlans; interworks = changed 266 class n e.interworks l is (rw is at kept); gem_ports = gem_ports })
    (λ no. either (AreSameButOne class n e) (class == 268) _ _
    (λ here. let is = eqb-true class 268 here in record { mappers = mappers; vlans = vlans; interworks = interworks; gem_ports = changed 268 class n e.gem_ports l is (rw is at kept) })
    (λ no. all_unchanged class n e)))))

-- the sync has no part in it
with_sync : (class n sync : ℕ) (old new : Entities) → AreSameButOne class n old new → AreSameButOne class n old (record new { sync = sync })
with_sync class n sync old new same = record { mappers = same.mappers; vlans = same.vlans; interworks = same.interworks; gem_ports = same.gem_ports }

counted_left : (e : Entities) (class n : ℕ) (r : Result (List Instance) Refusal) → OthersKept n (instances_of e class) r
    → AreSameButOne class n e (left_by e (counted e class r))
counted_left e class n (Err refusal) kept = all_unchanged class n e
counted_left e class n (Ok l) kept =
    let same = with_changed e class n l kept in
    either (AreSameButOne class n e) (class == 2) _ _ (λ is. same) (λ no. with_sync class n (next_sync e.sync) e (with_instances e class l) same)

-- ---- what an action leaves

module _ (e : Entities) (q : Request) where
  abbrev Leaves : Result Entities Refusal → Type 0
  Leaves r = AreSameButOne q.class q.instance e (left_by e r)

  refused : (refusal : Refusal) → Leaves (Err refusal)
  refused refusal = all_unchanged q.class q.instance e

  create_left : Leaves (create e q)
  unfolding create
  create_left =
      either Leaves (not (is_known q.class)) _ _ (λ is. refused UnknownEntity) (λ no.
      either Leaves (q.class == 2) _ _ (λ is. refused NotSupported) (λ no.
      counted_left e q.class q.instance _ (create_others (attributes_of q.class) (room_of q.class) q.instance q.contents (instances_of e q.class))))

  delete_left : Leaves (delete e q)
  unfolding delete
  delete_left =
      either Leaves (not (is_known q.class)) _ _ (λ is. refused UnknownEntity) (λ no.
      either Leaves (q.class == 2) _ _ (λ is. refused NotSupported) (λ no.
      counted_left e q.class q.instance _ (delete_others q.instance (instances_of e q.class))))

  set_left : Leaves (set e q)
  unfolding set
  set_left =
      either Leaves (not (is_known q.class)) _ _ (λ is. refused UnknownEntity) (λ no.
      counted_left e q.class q.instance _ (set_others (attributes_of q.class) q.instance (mask_of q.contents) (drop 2 q.contents) (instances_of e q.class)))

-- where no other than an instance of ONU data is touched, none of the four classes is
none_of_onu_data : (class n : ℕ) (old new : Entities) → class ≡ 2 → AreSameButOne class n old new → AreSame old new
none_of_onu_data class n old new is same = record {
  mappers = same.mappers.elsewhere (omega (arith, is));
  vlans = same.vlans.elsewhere (omega (arith, is));
  interworks = same.interworks.elsewhere (omega (arith, is));
  gem_ports = same.gem_ports.elsewhere (omega (arith, is));
}

pub same_again : (e : Entities) → AreSame e e
same_again e = record { mappers = refl; vlans = refl; interworks = refl; gem_ports = refl }

pub action_touches : (a : Action) (e : Entities) (q : Request) → IsTouch e (left a e q) (touched_by a q)
action_touches Create e q = create_left e q
action_touches Delete e q = delete_left e q
action_touches Set e q =
    let same = set_left e q in
    either (IsTouch e (left_by e (set e q))) (q.class == 2) Nothing (One q.class q.instance)
    (λ is. none_of_onu_data q.class q.instance e _ (eqb-true q.class 2 is) same) (λ no. same)
action_touches Get e q = same_again e
action_touches GetNext e q = same_again e
action_touches MibUpload e q = same_again e
action_touches MibUploadNext e q = same_again e
action_touches MibReset e q = tt
action_touches (Other code) e q = same_again e
