-- The tables of entities that hold rules, and the entries that are used.
use Rattle.std.proofs.Common.{◌≡◌, ◌==◌, ℕ, zero, suc, ◌<◌, Bool, true, false, List, [], ◌∷◌, Option, Some, None, length, refl, subst, arith}
use Rattle.std.specs.Prelude.{IfSome, if◌then◌else◌, is_none, option_map}
use Rattle.std.specs.List.{list_all}
use Rattle.std.specs.Option.{option_and_then}
use Rattle.std.proofs.lemmas.Bool.{and_parts}
use Rattle.tag_view.specs.Frame.{Reading, type_at}
use Rattle.vlan_rule.specs.Entry.{refusal_of}
use Rattle.vlan_rule.specs.Choice.{IsChoice, choice, entry_at, matches}
use Rattle.vlan_rule.proofs.Chosen.{chosen_once}
use Rattle.managed_entity.specs.Instance.{Instance}
use Rattle.mib_state.specs.Entities.{Entities, find}
use Rattle.mib_state.specs.Attached.{table_of_port}
use Rattle.frame_meaning.specs.Meaning.{Table, entry_for, table_at, table_of}
use Rattle.explain_findings.specs.Claims.{holds_rules}

-- each entry is a rule
abbrev pub are_rules : List (List ℕ) → Bool
are_rules entries = list_all (λ entry. is_none (refusal_of entry)) entries

none-is : {A : Type 0} (o : Option A) → is_none o ≡ true → o ≡ None
none-is None is = refl
none-is (Some x) is = cc

-- the entry at a place
rule_at : (entries : List (List ℕ)) (i : ℕ) → i < length entries → are_rules entries ≡ true → refusal_of (entry_at entries i) ≡ None
rule_at [] i within rules = absurd (omega arith)
rule_at (entry ∷ rest) zero within rules = none-is (refusal_of entry) (and_parts (is_none (refusal_of entry)) (are_rules rest) rules).0
rule_at (entry ∷ rest) (suc i) within rules = rule_at rest i (omega arith) (and_parts (is_none (refusal_of entry)) (are_rules rest) rules).1

-- the entry that is used stands at a place
pub record UsesAt (table : Table) (frame : Reading) (entry : List ℕ) : Type 0 where
  pub place : ℕ
  pub chosen : choice (matches table.settings.input_tpid frame.tags (type_at 0 frame.rest)) table.entries ≡ Some place
  pub within : place < length table.entries
  pub is : entry_at table.entries place ≡ entry

pub entry_within : (table : Table) (frame : Reading) (entry : List ℕ) → entry_for table frame ≡ Some entry → UsesAt table frame entry
unfolding entry_for
entry_within table frame entry used = by_case (choice test table.entries) refl used (chosen_once.computed table.settings.input_tpid frame.tags (type_at 0 frame.rest) table.entries)
  where
    test : List ℕ → Bool
    test = matches table.settings.input_tpid frame.tags (type_at 0 frame.rest)

    by_case : (o : Option ℕ) → choice (matches table.settings.input_tpid frame.tags (type_at 0 frame.rest)) table.entries ≡ o
        → option_map (entry_at table.entries) o ≡ Some entry → IsChoice (matches table.settings.input_tpid frame.tags (type_at 0 frame.rest)) table.entries o → UsesAt table frame entry
    by_case None of used is = cc
    by_case (Some place) of used is = record { place = place; chosen = of; within = is.in_range; is = cc }

pub accepted_entry : (table : Table) (frame : Reading) (entry : List ℕ) → are_rules table.entries ≡ true → entry_for table frame ≡ Some entry → refusal_of entry ≡ None
accepted_entry table frame entry rules used =
    let at = entry_within table frame entry used in
    subst (λ (x : List ℕ). refusal_of x ≡ None) at.is (rule_at table.entries at.place at.within rules)

-- what all instances pass, the one that is found passes
pub found_passes : (test : Instance → Bool) (n : ℕ) (l : List Instance) (i : Instance) → find n l ≡ Some i → list_all test l ≡ true → test i ≡ true
found_passes test n [] i is all = cc
found_passes test n (x ∷ l) i is all = by_case (λ later. found_passes test n l i later (and_parts (test x) (list_all test l) all).1) (x.number == n) is
  where
    by_case : (find n l ≡ Some i → test i ≡ true) → (b : Bool) → (if b then Some x else find n l) ≡ Some i → test i ≡ true
    by_case later true is = let same : x ≡ i = cc in subst (λ (y : Instance). test y ≡ true) same (and_parts (test x) (list_all test l) all).0
    by_case later false is = later is

-- the table of a port is that of an instance
pub table_found : (e : Entities) (port : ℕ) (table : Table) → table_at e port ≡ Some table
    → (n : ℕ) × (i : Instance) × (table_of_port e port ≡ Some n) × (find n e.vlans ≡ Some i) × (table_of i ≡ table)
unfolding table_at
table_found e port table is = by_case (table_of_port e port) refl is
  where
    by_instance : (n : ℕ) (o : Option Instance) → table_of_port e port ≡ Some n → find n e.vlans ≡ o → option_map table_of o ≡ Some table
        → (n : ℕ) × (i : Instance) × (table_of_port e port ≡ Some n) × (find n e.vlans ≡ Some i) × (table_of i ≡ table)
    by_instance n None of found is = cc
    by_instance n (Some i) of found is = (n, i, of, found, cc)

    by_case : (o : Option ℕ) → table_of_port e port ≡ o → option_map table_of (option_and_then (λ n. find n e.vlans) o) ≡ Some table
        → (n : ℕ) × (i : Instance) × (table_of_port e port ≡ Some n) × (find n e.vlans ≡ Some i) × (table_of i ≡ table)
    by_case None of is = cc
    by_case (Some n) of is = by_instance n (find n e.vlans) of refl is

pub rules_at : (e : Entities) (port : ℕ) → holds_rules e ≡ true → IfSome (table_at e port) (λ t. are_rules t.entries ≡ true)
rules_at e port rules = by_case (table_at e port) refl
  where
    by_case : (o : Option Table) → table_at e port ≡ o → IfSome o (λ t. are_rules t.entries ≡ true)
    by_case None is = tt
    by_case (Some table) is =
        let found = table_found e port table is in
        subst (λ (t : Table). are_rules t.entries ≡ true) found.4 (found_passes (λ i. are_rules i.entries) found.0 e.vlans found.1 found.3 rules)
