-- Ports all of whose frames are dropped, and priorities that no GEM port carries.
use Rattle.std.proofs.Common.{◌≡◌, ◌==◌, ℕ, ◌<◌, ◌≤◌, Bool, true, ◌||◌, List, Option, Some, None, Result, Ok, Err, refl, ap, sym, ◌∙◌, arith}
use Rattle.std.specs.Prelude.{IfSome, is_err, min, nat_lt, ok_or}
use Rattle.std.specs.List.{list_all}
use Rattle.std.specs.Result.{result_map_both}
use Rattle.std.proofs.lemmas.Bool.{false≢true, lt-ltb, or_left, or_right}
use Rattle.std.proofs.lemmas.List.Folds.{list_all-map}
use Rattle.tag_view.specs.declared.fault.FrameFault.{FrameFault}
use Rattle.tag_view.specs.declared.fault.FrameFault.TheVariants as fault
use Rattle.tag_view.specs.Tag.{TagFields}
use Rattle.tag_view.specs.Frame.{Reading, frame_of}
use Rattle.tag_view.specs.Dscp.{dscp_of}
use Rattle.treatment.specs.Treatment.{treated}
use Rattle.pmapper.specs.Mapper.{priority_of}
use Rattle.managed_entity.specs.Instance.{Instance}
use Rattle.mib_state.specs.Entities.{Entities, find}
use Rattle.frame_meaning.specs.declared.reason.Reason.{Reason}
use Rattle.frame_meaning.specs.declared.reason.Reason.TheVariants as reason
use Rattle.frame_meaning.specs.Reason.{number_of_reason, reason_of_fault}
use Rattle.frame_meaning.specs.Meaning.{Table, entry_for, forwarded_by, found_then, gem_port_at, gem_port_of, input_tpid_of, mapper_at, meaning, read_at, table_at, tags_at, tags_by, unmarked_at, verdict_of}
use Rattle.explain_findings.specs.Reach.{priorities}
use Rattle.explain_findings.specs.Drops.{lacks_by, routes}
use Rattle.explain_findings.specs.Claims.{AreBytes, DropsPriority, drops, holds_rules, is_by}
use Rattle.explain_findings.proofs.Priorities.{at_priority}
use Rattle.explain_findings.proofs.Small.{are_small, priority_small, treated_small}
use Rattle.explain_findings.proofs.Tables.{accepted_entry, are_rules, rules_at}
use Rattle.explain_findings.proofs.Walking.{read_frame}

-- ---- a priority

-- a frame that comes to a mapper is dropped as its priority is
pub drops_priority : (e : Entities) (n priority : ℕ) (mapper : Instance) (r : Reason) → find n e.mappers ≡ Some mapper → gem_port_of e mapper priority ≡ Err r
    → DropsPriority e n priority r
unfolding meaning forwarded_by gem_port_at mapper_at
drops_priority e n priority mapper r found lacks port bytes comes =
    let same : comes.instance ≡ mapper = cc (comes.found, found) in
    let route : gem_port_of e comes.instance (priority_of (unmarked_at comes.instance) comes.tags (dscp_of comes.frame.rest)) ≡ Err r =
    ap (gem_port_of e comes.instance) comes.with ∙ ap (λ (i : Instance). gem_port_of e i priority) same ∙ lacks in
    rw (comes.read, comes.leaves, comes.in_force, comes.found, route) refl

-- ---- a port, by where each frame ends

-- nothing is found, for a reason that passes a test
abbrev pub Lacks : {A : Type 0} → (Reason → Bool) → Result A Reason → Type 0
Lacks test (Ok found) = ⊥
Lacks test (Err r) = test r ≡ true

-- the tests that reasons of the reading pass
pub record PassesFaults (test : Reason → Bool) : Type 0 where
  pub runt : test reason.Runt ≡ true
  pub cut : test reason.CutTag ≡ true

fault_passes : (test : Reason → Bool) → PassesFaults test → (f : FrameFault) → test (reason_of_fault f) ≡ true
fault_passes test passes fault.Runt = passes.runt
fault_passes test passes fault.CutTag = passes.cut

-- a frame of a port is dropped where, as it is read, it has no tags to leave with, or no GEM port with them
frame_drops : (test : Reason → Bool) (e : Entities) (port : ℕ) (bytes : List ℕ) → PassesFaults test
    → ((frame : Reading) → read_at (table_at e port) bytes ≡ Ok frame → Lacks test (found_then (tags_at (table_at e port) frame) (λ tags. gem_port_at e port tags (dscp_of frame.rest))))
    → drops test (meaning e port bytes) ≡ true
unfolding meaning forwarded_by
frame_drops test e port bytes passes lacks = by_read (frame_of (input_tpid_of (table_at e port)) bytes) lacks
  where
    by_gem : (frame : Reading) (tags : List TagFields) (gem : Result ℕ Reason) → Lacks test gem
        → drops test (verdict_of (found_then gem (λ gem. Ok (gem, record frame { tags = tags })))) ≡ true
    by_gem frame tags (Ok gem) lacks = absurd lacks
    by_gem frame tags (Err r) lacks = lacks

    by_tags : (frame : Reading) (tags : Result (List TagFields) Reason) → Lacks test (found_then tags (λ tags. gem_port_at e port tags (dscp_of frame.rest)))
        → drops test (verdict_of (found_then tags (λ tags. found_then (gem_port_at e port tags (dscp_of frame.rest)) (λ gem. Ok (gem, record frame { tags = tags }))))) ≡ true
    by_tags frame (Err r) lacks = lacks
    by_tags frame (Ok tags) lacks = by_gem frame tags (gem_port_at e port tags (dscp_of frame.rest)) lacks

    by_read : (read : Result Reading FrameFault)
        → ((frame : Reading) → result_map_both (λ frame. frame) reason_of_fault read ≡ Ok frame
        → Lacks test (found_then (tags_at (table_at e port) frame) (λ tags. gem_port_at e port tags (dscp_of frame.rest))))
        → drops test (verdict_of (found_then (result_map_both (λ frame. frame) reason_of_fault read) (λ frame.
        found_then (tags_at (table_at e port) frame) (λ tags.
        found_then (gem_port_at e port tags (dscp_of frame.rest)) (λ gem. Ok (gem, record frame { tags = tags })))))) ≡ true
    by_read (Err f) lacks = fault_passes test passes f
    by_read (Ok frame) lacks = by_tags frame (tags_at (table_at e port) frame) (lacks frame refl)

-- ---- by its table

-- no tags to leave with
pub drops_by_table : (test : Reason → Bool) (e : Entities) (port : ℕ) → PassesFaults test
    → ((frame : Reading) → Lacks test (tags_at (table_at e port) frame)) → (bytes : List ℕ) → drops test (meaning e port bytes) ≡ true
drops_by_table test e port passes lacks bytes = frame_drops test e port bytes passes (λ frame is. by_tags frame (tags_at (table_at e port) frame) (lacks frame))
  where
    by_tags : (frame : Reading) (tags : Result (List TagFields) Reason) → Lacks test tags → Lacks test (found_then tags (λ tags. gem_port_at e port tags (dscp_of frame.rest)))
    by_tags frame (Err r) lacks = lacks
    by_tags frame (Ok tags) lacks = absurd lacks

-- ---- by its mapper

-- the tests that reasons of the table pass too
pub record PassesEarly (test : Reason → Bool) : Type 0 where
  pub faults : PassesFaults test
  pub rule : test reason.NoRule ≡ true
  pub discard : test reason.RuleDiscard ≡ true

-- no GEM port with any tags whose priorities are under 8
pub drops_by_mapper : (test : Reason → Bool) (e : Entities) (port : ℕ) → PassesEarly test → holds_rules e ≡ true
    → ((tags : List TagFields) (dscp : Option ℕ) → are_small tags ≡ true → Lacks test (gem_port_at e port tags dscp))
    → (bytes : List ℕ) → AreBytes bytes → drops test (meaning e port bytes) ≡ true
unfolding tags_at tags_by
drops_by_mapper test e port passes rules lacks bytes fits =
    frame_drops test e port bytes passes.faults (λ frame is. by_table frame (table_at e port) (rules_at e port rules) (read_frame (table_at e port) bytes frame fits is))
  where
    by_treated : (frame : Reading) (out : Option (List TagFields)) → IfSome out (λ out. are_small out ≡ true)
        → Lacks test (found_then (ok_or out reason.RuleDiscard) (λ tags. gem_port_at e port tags (dscp_of frame.rest)))
    by_treated frame None small = passes.discard
    by_treated frame (Some tags) small = lacks tags (dscp_of frame.rest) small

    by_entry : (frame : Reading) (table : Table) (used : Option (List ℕ)) → entry_for table frame ≡ used → are_rules table.entries ≡ true → are_small frame.tags ≡ true
        → Lacks test (found_then (found_then (ok_or used reason.NoRule) (λ entry. ok_or (treated entry table.settings frame.tags (dscp_of frame.rest)) reason.RuleDiscard))
        (λ tags. gem_port_at e port tags (dscp_of frame.rest)))
    by_entry frame table None is rules small = passes.rule
    by_entry frame table (Some entry) is rules small =
        by_treated frame (treated entry table.settings frame.tags (dscp_of frame.rest))
        (treated_small entry table.settings frame.tags (dscp_of frame.rest) (accepted_entry table frame entry rules is) small)

    by_table : (frame : Reading) (table : Option Table) → IfSome table (λ t. are_rules t.entries ≡ true) → are_small frame.tags ≡ true
        → Lacks test (found_then (tags_at table frame) (λ tags. gem_port_at e port tags (dscp_of frame.rest)))
    by_table frame None rules small = lacks frame.tags (dscp_of frame.rest) small
    by_table frame (Some table) rules small = by_entry frame table (entry_for table frame) refl rules small

-- ---- the mapper

pub none_at : (test : Reason → Bool) (e : Entities) (port : ℕ) → mapper_at e port ≡ None → test reason.NoMapper ≡ true
    → (tags : List TagFields) (dscp : Option ℕ) → Lacks test (gem_port_at e port tags dscp)
unfolding gem_port_at
none_at test e port none passes tags dscp = rw none passes

pub lacks_at : (test : Reason → Bool) (e : Entities) (port : ℕ) (mapper : Instance) (lacks : Result ℕ Reason → Bool) → mapper_at e port ≡ Some mapper
    → ((route : Result ℕ Reason) → lacks route ≡ true → Lacks test route) → list_all lacks (routes e mapper) ≡ true
    → (tags : List TagFields) (dscp : Option ℕ) → are_small tags ≡ true → Lacks test (gem_port_at e port tags dscp)
unfolding gem_port_at
lacks_at test e port mapper lacks there each all tags dscp small =
    let priority = priority_of (unmarked_at mapper) tags dscp in
    rw there (each (gem_port_of e mapper priority)
    (at_priority (λ p. lacks (gem_port_of e mapper p)) priority (priority_small (unmarked_at mapper) tags dscp small) (sym (list_all-map lacks (gem_port_of e mapper) priorities) ∙ all)))

-- ---- the reasons

-- a reason of the mapper or behind it, and those before
pub early_by : (r : Reason) → 5 ≤ number_of_reason r → PassesEarly (is_by r)
early_by r late =
    let least : (n : ℕ) → n < 5 → (n == number_of_reason r || nat_lt n (min (number_of_reason r) 5)) ≡ true =
    λ n before. or_right (n == number_of_reason r) _ (lt-ltb n (min (number_of_reason r) 5) (omega arith)) in
    record {
      faults = record { runt = least 1 (omega arith); cut = least 2 (omega arith) };
      rule = least 3 (omega arith);
      discard = least 4 (omega arith);
    }

pub by_itself : (r other : Reason) → number_of_reason other == number_of_reason r ≡ true → is_by r other ≡ true
by_itself r other same = or_left (number_of_reason other == number_of_reason r) _ same

pub lacks_by_reason : (r : Reason) (route : Result ℕ Reason) → lacks_by r route ≡ true → Lacks (is_by r) route
lacks_by_reason r (Ok id) lacks = false≢true lacks
lacks_by_reason r (Err other) lacks = by_itself r other lacks

pub lacks_any : (route : Result ℕ Reason) → is_err route ≡ true → Lacks (λ r. true) route
lacks_any (Ok id) lacks = false≢true lacks
lacks_any (Err r) lacks = refl

pub early_any : PassesEarly (λ r. true)
early_any = record { faults = record { runt = refl; cut = refl }; rule = refl; discard = refl }
