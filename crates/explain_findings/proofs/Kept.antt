-- Each step leaves tables that hold rules.
use Rattle.std.proofs.Common.{◌≡◌, ◌==◌, ℕ, Bool, true, not, ◌&&◌, List, [], ◌∷◌, Option, Some, None, Result, Ok, Err, IfOk, refl, ◌∙◌, drop, take, length}
use Rattle.std.specs.Prelude.{is_none, is_some, nat_le, nat_lt}
use Rattle.std.specs.List.{list_all}
use Rattle.std.proofs.lemmas.Bool.{and_from, and_parts}
use Rattle.std.proofs.lemmas.List.Folds.{list_all-append}
use Rattle.omci_msg.specs.declared.Request.{Request}
use Rattle.omci_msg.specs.declared.Action.{Action}
use Rattle.omci_msg.specs.declared.Action.TheVariants.{Create, Delete, Set, Get, GetNext, MibUpload, MibUploadNext, MibReset, Other}
use Rattle.vlan_rule.specs.declared.fault.RuleFault.{RuleFault}
use Rattle.vlan_rule.specs.declared.fault.TableFault.{TableFault}
use Rattle.vlan_rule.specs.Entry.{key_of, kind_of, number_of, refusal_of, value_of}
use Rattle.vlan_rule.specs.Table.{Change, delete as delete_entry, holds, is_deletion, overwritten, predefined, put, table_max_size, without, write}
use Rattle.managed_entity.specs.declared.attribute.Attribute.{Attribute}
use Rattle.managed_entity.specs.declared.refusal.Refusal.{Refusal}
use Rattle.managed_entity.specs.Answer.{left_by}
use Rattle.managed_entity.specs.Class.{attributes_of, has_table, is_known, room_of}
use Rattle.managed_entity.specs.Instance.{Instance}
use Rattle.managed_entity.specs.Mask.{mask_of, named_width, unknown_of, unwritable_of}
use Rattle.managed_entity.specs.Set.{entries_after, entries_by, entry_at, set_instance, with_entries}
use Rattle.managed_entity.specs.Write.{created}
use Rattle.mib_state.specs.Entities.{Entities, find, insert, instances_of, nothing, remove, replace, with_instances}
use Rattle.mib_state.specs.Step.{counted, create, create_in, delete, delete_in, left, next_sync, replaced, set, set_found, set_in}
use Rattle.mib_state.specs.After.{after, after_from}
use Rattle.mib_state.proofs.Touched.{either}
use Rattle.explain_findings.specs.Claims.{holds_rules}
use Rattle.explain_findings.proofs.Tables.{are_rules, found_passes}

-- ---- of a table

without_rules : (key : ℕ) (entries : List (List ℕ)) → are_rules entries ≡ true → are_rules (without key entries) ≡ true
without_rules key [] rules = refl
without_rules key (e ∷ rest) rules =
    let parts = and_parts (is_none (refusal_of e)) (are_rules rest) rules in
    either (λ x. are_rules x ≡ true) (key_of e == key) rest (e ∷ without key rest) (λ is. parts.1) (λ no. and_from _ _ parts.0 (without_rules key rest parts.1))

overwritten_rules : (new : List ℕ) (entries : List (List ℕ)) → is_none (refusal_of new) ≡ true → are_rules entries ≡ true → are_rules (overwritten new entries) ≡ true
overwritten_rules new [] rule rules = refl
overwritten_rules new (e ∷ rest) rule rules =
    let parts = and_parts (is_none (refusal_of e)) (are_rules rest) rules in
    either (λ x. are_rules x ≡ true) (key_of e == key_of new) (new ∷ rest) (e ∷ overwritten new rest) (λ is. and_from _ _ rule parts.1)
    (λ no. and_from _ _ parts.0 (overwritten_rules new rest rule parts.1))

abbrev KeepRules : Result Change TableFault → Type 0
KeepRules r = IfOk r (λ change. are_rules change.entries ≡ true)

write_rules : (refusal : Option RuleFault) (new : List ℕ) (entries : List (List ℕ)) → refusal_of new ≡ refusal → are_rules entries ≡ true → KeepRules (write refusal new entries)
write_rules (Some fault) new entries is rules = tt
write_rules None new entries is rules =
    let rule : is_none (refusal_of new) ≡ true = rw is refl in
    either KeepRules (holds (key_of new) entries) _ _ (λ held. overwritten_rules new entries rule rules) (λ no.
    either KeepRules (nat_le table_max_size (length entries)) _ _ (λ full. tt) (λ room.
    list_all-append (λ entry. is_none (refusal_of entry)) entries (new ∷ []) ∙ and_from _ _ rules (and_from _ true rule refl)))

put_rules : (entries : List (List ℕ)) (new : List ℕ) → are_rules entries ≡ true → KeepRules (put entries new)
unfolding put
put_rules entries new rules =
    either KeepRules (is_deletion new) (delete_entry (key_of new) entries) (write (refusal_of new) new entries)
    (λ gone. either KeepRules (holds (key_of new) entries) _ _ (λ held. without_rules (key_of new) entries rules) (λ no. rules))
    (λ no. write_rules (refusal_of new) new entries refl rules)

-- ---- of an instance

abbrev rules_of : Instance → Bool
rules_of i = are_rules i.entries

predefined_rules : are_rules predefined ≡ true
unfolding refusal_of kind_of value_of number_of
predefined_rules = refl

created_rules : (layout : List Attribute) (n : ℕ) (contents : List ℕ) → rules_of (created layout n contents) ≡ true
created_rules layout n contents = either (λ entries. are_rules entries ≡ true) (has_table layout) predefined [] (λ is. predefined_rules) (λ no. refl)

by_rules : (r : Result Change TableFault) → KeepRules r → IfOk (entries_by r) (λ entries. are_rules entries ≡ true)
by_rules (Ok change) rules = rules
by_rules (Err fault) rules = tt

after_rules : (at : Option ℕ) (bytes : List ℕ) (entries : List (List ℕ)) → are_rules entries ≡ true → IfOk (entries_after at bytes entries) (λ entries. are_rules entries ≡ true)
after_rules None bytes entries rules = rules
after_rules (Some at) bytes entries rules = by_rules (put entries (take 16 (drop at bytes))) (put_rules entries (take 16 (drop at bytes)) rules)

with_rules : (mask : ℕ) (layout : List Attribute) (bytes : List ℕ) (i : Instance) (r : Result (List (List ℕ)) Refusal) → IfOk r (λ entries. are_rules entries ≡ true)
    → IfOk (with_entries mask layout bytes i r) (λ new. rules_of new ≡ true)
with_rules mask layout bytes i (Ok entries) rules = rules
with_rules mask layout bytes i (Err refusal) rules = tt

abbrev InstanceHolds : Result Instance Refusal → Type 0
InstanceHolds r = IfOk r (λ new. rules_of new ≡ true)

set_instance_rules : (layout : List Attribute) (mask : ℕ) (bytes : List ℕ) (i : Instance) → rules_of i ≡ true → IfOk (set_instance layout mask bytes i) (λ new. rules_of new ≡ true)
unfolding set_instance
set_instance_rules layout mask bytes i rules =
    either InstanceHolds (not (unknown_of mask (length layout) == 0 && unwritable_of mask 0 layout == 0)) _ _ (λ is. tt) (λ no.
    either InstanceHolds (nat_lt 30 (named_width mask 0 layout)) _ _ (λ is. tt) (λ no.
    with_rules mask layout bytes i (entries_after (entry_at mask 0 layout) bytes i.entries) (after_rules (entry_at mask 0 layout) bytes i.entries rules)))

-- ---- of the instances of a class

abbrev all_rules : List Instance → Bool
all_rules l = list_all rules_of l

abbrev HoldRules : List Instance → Type 0
HoldRules l = all_rules l ≡ true

inserted : (new : Instance) (l : List Instance) → rules_of new ≡ true → HoldRules l → HoldRules (insert new l)
inserted new [] rules all = and_from _ true rules refl
inserted new (x ∷ l) rules all =
    let parts = and_parts (rules_of x) (all_rules l) all in
    either HoldRules (nat_lt new.number x.number) (new ∷ x ∷ l) (x ∷ insert new l) (λ is. and_from _ _ rules all) (λ no. and_from _ _ parts.0 (inserted new l rules parts.1))

removed : (n : ℕ) (l : List Instance) → HoldRules l → HoldRules (remove n l)
removed n [] all = refl
removed n (x ∷ l) all =
    let parts = and_parts (rules_of x) (all_rules l) all in
    either HoldRules (x.number == n) l (x ∷ remove n l) (λ is. parts.1) (λ no. and_from _ _ parts.0 (removed n l parts.1))

changed_one : (new : Instance) (l : List Instance) → rules_of new ≡ true → HoldRules l → HoldRules (replace new l)
changed_one new [] rules all = refl
changed_one new (x ∷ l) rules all =
    let parts = and_parts (rules_of x) (all_rules l) all in
    either HoldRules (x.number == new.number) (new ∷ l) (x ∷ replace new l) (λ is. and_from _ _ rules parts.1) (λ no. and_from _ _ parts.0 (changed_one new l rules parts.1))

abbrev ClassHolds : Result (List Instance) Refusal → Type 0
ClassHolds r = IfOk r HoldRules

create_holds : (layout : List Attribute) (room n : ℕ) (contents : List ℕ) (l : List Instance) → HoldRules l → ClassHolds (create_in layout room n contents l)
unfolding create_in
create_holds layout room n contents l all =
    either ClassHolds (n == 65535) _ _ (λ is. tt) (λ no.
    either ClassHolds (is_some (find n l)) _ _ (λ is. tt) (λ absent.
    either ClassHolds (nat_le room (length l)) _ _ (λ is. tt) (λ no. inserted (created layout n contents) l (created_rules layout n contents) all)))

delete_holds : (n : ℕ) (l : List Instance) → HoldRules l → ClassHolds (delete_in n l)
unfolding delete_in
delete_holds n l all = either ClassHolds (is_some (find n l)) _ _ (λ held. removed n l all) (λ no. tt)

replaced_holds : (l : List Instance) (r : Result Instance Refusal) → IfOk r (λ new. rules_of new ≡ true) → HoldRules l → ClassHolds (replaced l r)
replaced_holds l (Ok new) rules all = changed_one new l rules all
replaced_holds l (Err refusal) rules all = tt

found_holds : (layout : List Attribute) (n mask : ℕ) (bytes : List ℕ) (l : List Instance) (found : Option Instance) → find n l ≡ found → HoldRules l
    → ClassHolds (set_found layout mask bytes l found)
found_holds layout n mask bytes l None is all = tt
found_holds layout n mask bytes l (Some i) is all =
    replaced_holds l (set_instance layout mask bytes i) (set_instance_rules layout mask bytes i (found_passes rules_of n l i is all)) all

set_holds : (layout : List Attribute) (n mask : ℕ) (bytes : List ℕ) (l : List Instance) → HoldRules l → ClassHolds (set_in layout n mask bytes l)
unfolding set_in
set_holds layout n mask bytes l all = found_holds layout n mask bytes l (find n l) refl all

-- ---- of all

-- so for each class, of which only one has a table
record EachHolds (e : Entities) : Type 0 where
  mappers : HoldRules e.mappers
  vlans : HoldRules e.vlans
  interworks : HoldRules e.interworks
  gem_ports : HoldRules e.gem_ports

of_class : (e : Entities) (class : ℕ) → EachHolds e → HoldRules (instances_of e class)
of_class e class each =
    either HoldRules (class == 2) _ _ (λ is. refl) (λ no.
    either HoldRules (class == 130) _ _ (λ is. each.mappers) (λ no.
    either HoldRules (class == 171) _ _ (λ is. each.vlans) (λ no.
    either HoldRules (class == 266) _ _ (λ is. each.interworks) (λ no.
    either HoldRules (class == 268) _ _ (λ is. each.gem_ports) (λ no. refl)))))

with_class : (e : Entities) (class : ℕ) (l : List Instance) → EachHolds e → HoldRules l → EachHolds (with_instances e class l)
with_class e class l each all =
    either EachHolds (class == 2) _ _ (λ is. record { mappers = each.mappers; vlans = each.vlans; interworks = each.interworks; gem_ports = each.gem_ports }) (λ no.
    either EachHolds (class == 130) _ _ (λ is. record { mappers = all; vlans = each.vlans; interworks = each.interworks; gem_ports = each.gem_ports }) (λ no.
    either EachHolds (class == 171) _ _ (λ is. record { mappers = each.mappers; vlans = all; interworks = each.interworks; gem_ports = each.gem_ports }) (λ no.
    either EachHolds (class == 266) _ _ (λ is. record { mappers = each.mappers; vlans = each.vlans; interworks = all; gem_ports = each.gem_ports }) (λ no.
    either EachHolds (class == 268) _ _ (λ is. record { mappers = each.mappers; vlans = each.vlans; interworks = each.interworks; gem_ports = all }) (λ no. each)))))

with_sync : (e : Entities) (sync : ℕ) → EachHolds e → EachHolds (record e { sync = sync })
with_sync e sync each = record { mappers = each.mappers; vlans = each.vlans; interworks = each.interworks; gem_ports = each.gem_ports }

abbrev AllHold : Result Entities Refusal → Type 0
AllHold r = IfOk r EachHolds

counted_holds : (e : Entities) (class : ℕ) (r : Result (List Instance) Refusal) → EachHolds e → ClassHolds r → AllHold (counted e class r)
counted_holds e class (Err refusal) each all = tt
counted_holds e class (Ok l) each all =
    let now = with_class e class l each all in
    either EachHolds (class == 2) _ _ (λ is. now) (λ no. with_sync (with_instances e class l) (next_sync e.sync) now)

created_holds : (e : Entities) (q : Request) → EachHolds e → AllHold (create e q)
unfolding create
created_holds e q each =
    let made = create_holds (attributes_of q.class) (room_of q.class) q.instance q.contents (instances_of e q.class) (of_class e q.class each) in
    either AllHold (not (is_known q.class)) _ _ (λ is. tt) (λ no. either AllHold (q.class == 2) _ _ (λ is. tt) (λ no. counted_holds e q.class _ each made))

deleted_holds : (e : Entities) (q : Request) → EachHolds e → AllHold (delete e q)
unfolding delete
deleted_holds e q each =
    let gone = delete_holds q.instance (instances_of e q.class) (of_class e q.class each) in
    either AllHold (not (is_known q.class)) _ _ (λ is. tt) (λ no. either AllHold (q.class == 2) _ _ (λ is. tt) (λ no. counted_holds e q.class _ each gone))

been_set_holds : (e : Entities) (q : Request) → EachHolds e → AllHold (set e q)
unfolding set
been_set_holds e q each =
    let put = set_holds (attributes_of q.class) q.instance (mask_of q.contents) (drop 2 q.contents) (instances_of e q.class) (of_class e q.class each) in
    either AllHold (not (is_known q.class)) _ _ (λ is. tt) (λ no. counted_holds e q.class _ each put)

left_holds : (e : Entities) (r : Result Entities Refusal) → EachHolds e → AllHold r → EachHolds (left_by e r)
left_holds e (Ok new) each all = all
left_holds e (Err refusal) each all = each

none_holds : EachHolds nothing
none_holds = record { mappers = refl; vlans = refl; interworks = refl; gem_ports = refl }

step_holds : (a : Action) (e : Entities) (q : Request) → EachHolds e → EachHolds (left a e q)
step_holds Create e q each = left_holds e (create e q) each (created_holds e q each)
step_holds Delete e q each = left_holds e (delete e q) each (deleted_holds e q each)
step_holds Set e q each = left_holds e (set e q) each (been_set_holds e q each)
step_holds Get e q each = each
step_holds GetNext e q each = each
step_holds MibUpload e q each = each
step_holds MibUploadNext e q each = each
step_holds MibReset e q each = none_holds
step_holds (Other code) e q each = each

steps_hold : (e : Entities) (qs : List Request) → EachHolds e → EachHolds (after_from e qs)
steps_hold e [] each = each
steps_hold e (q ∷ qs) each = steps_hold (left q.action e q) qs (step_holds q.action e q each)

pub rules_after : (qs : List Request) → holds_rules (after qs) ≡ true
rules_after qs = let each = steps_hold nothing qs none_holds in each.vlans
