-- Entries that are never used.
use Rattle.std.proofs.Common.{◌≡◌, ◌≢◌, ℕ, ◌<◌, Bool, true, false, List, [], ◌∷◌, ◌++◌, Option, Some, None, Result, Ok, Err, length, refl, sym, ◌∙◌, subst}
use Rattle.std.specs.Prelude.{All, if◌then◌else◌, nat_lt, ok_or, option_map}
use Rattle.std.specs.Prelude as list
use Rattle.std.proofs.lemmas.Bool.{and_parts}
use Rattle.std.proofs.lemmas.List.Elements.{All-head, All-tail}
use Rattle.tag_view.specs.Frame.{Reading, type_at}
use Rattle.tag_view.specs.Dscp.{dscp_of}
use Rattle.vlan_rule.specs.Choice.{choice, entry_at, is_before, matches}
use Rattle.vlan_rule.proofs.Chosen.{chosen_once}
use Rattle.managed_entity.specs.Instance.{Instance}
use Rattle.mib_state.specs.Entities.{Entities, find}
use Rattle.mib_state.specs.Attached.{table_of_port}
use Rattle.frame_meaning.specs.declared.reason.Reason.{Reason}
use Rattle.frame_meaning.specs.declared.reason.Reason.TheVariants.{NoRule, RuleDiscard}
use Rattle.frame_meaning.specs.Meaning.{Table, entry_for, read_at, table_at, table_of}
use Rattle.explain.specs.declared.step.Step.{Step}
use Rattle.explain.specs.declared.step.Step.TheVariants as step
use Rattle.explain.specs.Covers.{covers, is_shadowed_by, shadow_of}
use Rattle.explain.specs.Force.{number_in_force, table_in_force}
use Rattle.explain.specs.Order.{tried_order}
use Rattle.explain.specs.Outgoing.{outgoing}
use Rattle.explain.specs.Steps.{dropped, explained, from_read, from_table, from_tags, then_step, told_used, tries_of}
use Rattle.explain.proofs.Covers.{covers_sound}
use Rattle.explain.proofs.Orders.{tried_within}
use Rattle.explain.proofs.Shadows.{never_used}
use Rattle.explain.proofs.Tries.{tells_the_used}
use Rattle.explain_findings.proofs.Lists.{find_passes}
use Rattle.explain_findings.proofs.Walking.{force_number}

-- ---- an entry with a shadow isn't chosen

-- what is found passes what holds of each
found_holds : {X : Type 0} (P : X → Type 0) (p : X → Bool) (xs : List X) (x : X) → list.find p xs ≡ Some x → All P xs → P x
found_holds P p [] x is all = cc
found_holds {X} P p (y ∷ ys) x is all = by_case (λ later. found_holds P p ys x later (All-tail P y ys all)) (p y) is
  where
    by_case : (list.find p ys ≡ Some x → P x) → (b : Bool) → (if b then Some y else list.find p ys) ≡ Some x → P x
    by_case later true is = let same : y ≡ x = cc in subst P same (All-head P y ys all)
    by_case later false is = later is

-- the shadow is found among the entries that are tried
found_shadow : (entries : List (List ℕ)) (i j : ℕ) → shadow_of entries i ≡ Some j → list.find (is_shadowed_by entries i) (tried_order entries) ≡ Some j
unfolding shadow_of
found_shadow entries i j is = by_case (nat_lt i (length entries)) is
  where
    by_case : (b : Bool) → (if b then list.find (is_shadowed_by entries i) (tried_order entries) else None) ≡ Some j → list.find (is_shadowed_by entries i) (tried_order entries) ≡ Some j
    by_case true is = is
    by_case false is = cc

pub not_chosen : (table : Table) (frame : Reading) (i j : ℕ) → shadow_of table.entries i ≡ Some j
    → choice (matches table.settings.input_tpid frame.tags (type_at 0 frame.rest)) table.entries ≢ Some i
not_chosen table frame i j is =
    let entries = table.entries in
    let input = table.settings.input_tpid in
    let type = type_at 0 frame.rest in
    let found = found_shadow entries i j is in
    let parts = and_parts (is_before entries j i) (covers (entry_at entries j) (entry_at entries i)) (find_passes (is_shadowed_by entries i) (tried_order entries) j found) in
    let within : j < length entries = found_holds (λ place. place < length entries) (is_shadowed_by entries i) (tried_order entries) j found (tried_within entries) in
    never_used (matches input frame.tags type) entries i j (chosen_once.computed input frame.tags type entries) within parts.0
    (covers_sound (entry_at entries j) (entry_at entries i) input frame.tags type parts.1)

-- ---- the entry that an explanation tells

told_before : (first rest : List Step) (k : ℕ) → told_used first ≡ Some k → told_used (first ++ rest) ≡ Some k
told_before [] rest k is = cc
told_before (step.Used place ∷ first) rest k is = is
told_before (step.Table x ∷ first) rest k is = told_before first rest k is
told_before (step.Read x ∷ first) rest k is = told_before first rest k is
told_before (step.Failed x y ∷ first) rest k is = told_before first rest k is
told_before (step.Tags x ∷ first) rest k is = told_before first rest k is
told_before (step.Mapper x ∷ first) rest k is = told_before first rest k is
told_before (step.Priority x y ∷ first) rest k is = told_before first rest k is
told_before (step.Pointer x ∷ first) rest k is = told_before first rest k is
told_before (step.Interwork x y ∷ first) rest k is = told_before first rest k is
told_before (step.GemPort x y z ∷ first) rest k is = told_before first rest k is
told_before (step.Verdict x ∷ first) rest k is = told_before first rest k is

told_behind : (first rest : List Step) → told_used first ≡ None → told_used (first ++ rest) ≡ told_used rest
told_behind [] rest is = refl
told_behind (step.Used place ∷ first) rest is = cc
told_behind (step.Table x ∷ first) rest is = told_behind first rest is
told_behind (step.Read x ∷ first) rest is = told_behind first rest is
told_behind (step.Failed x y ∷ first) rest is = told_behind first rest is
told_behind (step.Tags x ∷ first) rest is = told_behind first rest is
told_behind (step.Mapper x ∷ first) rest is = told_behind first rest is
told_behind (step.Priority x y ∷ first) rest is = told_behind first rest is
told_behind (step.Pointer x ∷ first) rest is = told_behind first rest is
told_behind (step.Interwork x y ∷ first) rest is = told_behind first rest is
told_behind (step.GemPort x y z ∷ first) rest is = told_behind first rest is
told_behind (step.Verdict x ∷ first) rest is = told_behind first rest is

-- of a frame that a table is used for, it is the one that is chosen
table_tells : (e : Entities) (port : ℕ) (table : Table) (frame : Reading)
    → told_used (from_table e port table frame) ≡ choice (matches table.settings.input_tpid frame.tags (type_at 0 frame.rest)) table.entries
unfolding from_table entry_for
table_tells e port table frame =
    by_choice (choice (matches table.settings.input_tpid frame.tags (type_at 0 frame.rest)) table.entries) (tells_the_used.used table frame)
  where
    next : List ℕ → List Step
    next entry = then_step (ok_or (outgoing entry table.settings frame.tags (dscp_of frame.rest)) RuleDiscard) (from_tags e port frame)

    by_choice : (o : Option ℕ) → told_used (tries_of table frame) ≡ o
        → told_used (tries_of table frame ++ then_step (ok_or (option_map (entry_at table.entries) o) NoRule) next) ≡ o
    by_choice None is = told_behind (tries_of table frame) (dropped NoRule) is
    by_choice (Some k) is = told_before (tries_of table frame) _ k is

pub never_told : (e : Entities) (n place other : ℕ) (i : Instance) → find n e.vlans ≡ Some i → shadow_of i.entries place ≡ Some other
    → (port : ℕ) (bytes : List ℕ) → number_in_force (table_in_force e port) ≡ Some n → told_used (explained e port bytes) ≢ Some place
unfolding explained from_read table_at
never_told e n place other i found shadow port bytes force =
    let of_port : table_of_port e port ≡ Some n = sym (force_number e port) ∙ force in
    let there : table_at e port ≡ Some (table_of i) = rw (of_port, found) refl in
    by_table (table_at e port) there
  where
    by_read : (r : Result Reading Reason) → told_used (then_step r (from_read e port (Some (table_of i)))) ≢ Some place
    by_read (Err r) = λ is. cc
    by_read (Ok frame) = λ is. not_chosen (table_of i) frame place other shadow (sym (table_tells e port (table_of i) frame) ∙ is)

    by_table : (o : Option Table) → o ≡ Some (table_of i) → told_used (then_step (read_at o bytes) (from_read e port o)) ≢ Some place
    by_table o is = rw is (by_read (read_at (Some (table_of i)) bytes))
