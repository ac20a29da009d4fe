-- Every finding holds what it claims.
use Rattle.std.proofs.Common.{◌≡◌, ◌≢◌, ◌==◌, ℕ, Bool, true, false, ◌&&◌, ◌||◌, List, [], ◌∷◌, Option, Some, None, Result, Ok, Err, refl, ap, sym, ◌∙◌, subst, arith}
use Rattle.std.specs.Prelude.{All, IfSome, if◌then◌else◌, is_err, is_none, is_some, nat_le, ok_or}
use Rattle.std.specs.List.{list_all}
use Rattle.std.specs.Option.{option_and_then, option_map_or}
use Rattle.std.proofs.lemmas.Bool.{and_parts, eq-eqb, eqb-false, eqb-true, false≢true, leb-true}
use Rattle.std.proofs.lemmas.Option.{cond_some}
use Rattle.std.proofs.lemmas.List.Elements.{All-append, All-nil}
use Rattle.tag_view.specs.Tag.{TagFields}
use Rattle.tag_view.specs.Frame.{Reading, type_at}
use Rattle.tag_view.specs.Dscp.{dscp_of}
use Rattle.vlan_rule.specs.declared.settings.TableSettings.{TableSettings}
use Rattle.vlan_rule.specs.declared.treatment.Treatment.{Treatment}
use Rattle.vlan_rule.specs.declared.treatment.Treatment.TheVariants as treatment
use Rattle.vlan_rule.specs.Meaning.{treatment_of}
use Rattle.vlan_rule.specs.Choice.{choice, entry_at, matches}
use Rattle.treatment.specs.Treatment.{treated, treated_by}
use Rattle.pmapper.specs.Mapper.{pointer_of}
use Rattle.managed_entity.specs.declared.class.Class.{Class}
use Rattle.managed_entity.specs.declared.class.Class.TheVariants as class
use Rattle.managed_entity.specs.Class.{class_number}
use Rattle.managed_entity.specs.Instance.{Instance, attribute_number}
use Rattle.mib_state.specs.Entities.{Entities, find, instances_of}
use Rattle.mib_state.specs.Attached.{association_mapper, mapper_of_port, table_of_port}
use Rattle.mib_state.proofs.Touched.{number_found}
use Rattle.frame_meaning.specs.declared.reason.Reason.{Reason}
use Rattle.frame_meaning.specs.declared.reason.Reason.TheVariants as reason
use Rattle.frame_meaning.specs.Reason.{number_of_reason}
use Rattle.frame_meaning.specs.Meaning.{Table, carries_upstream, entry_for, found_then, gem_port_of, mapper_at, meaning, pointers_at, table_at, tags_at, tags_by}
use Rattle.explain.specs.Order.{tried_order}
use Rattle.explain.specs.Covers.{shadow_of}
use Rattle.explain.proofs.Orders.{chosen_first}
use Rattle.explain_findings.specs.declared.finding.Finding.{Finding}
use Rattle.explain_findings.specs.declared.finding.Finding.TheVariants as finding
use Rattle.explain_findings.specs.Reach.{numbers, port_of_mapper, port_of_table, priorities, reached_gem_ports, reached_mappers, reached_points, reached_tables}
use Rattle.explain_findings.specs.Drops.{common_reason, discards_all, entries_reason, is_discard, lacks_by, lets_none, port_drops, port_drops_by, routes, table_reason, uncarried, by_common}
use Rattle.explain_findings.specs.Findings.{another, class_findings, drops_at_mapper, drops_at_table, findings, findings_of, first_of_port_id, gem_port_findings, has_port_id, instance_findings, interwork_findings, is_alone_at, is_number, mapper_findings, missing_gem_port, missing_mapper, missing_service_profile, not_upstream, option_mapper, port_by_table, pointer_finding, priority_finding, second_mapper, second_mapper_by, second_table, second_table_by, shared_by, shared_port_id, table_findings, uncarried_by, unreached, unused_by, unused_entry}
use Rattle.explain_findings.specs.Claims.{Claims, DropsBy, drops, holds_rules, is_by}
use Rattle.explain_findings.proofs.Lists.{all_found, all_given, all_joined, all_mapped, find_all, find_passes, has}
use Rattle.explain_findings.proofs.Tables.{entry_within}
use Rattle.explain_findings.proofs.Walking.{is_unreached, reached_of}
use Rattle.explain_findings.proofs.Dropping.{Lacks, drops_by_mapper, drops_by_table, drops_priority, early_any, early_by, lacks_any, lacks_at, lacks_by_reason, none_at}
use Rattle.explain_findings.proofs.Unused.{never_told, not_chosen}

-- ---- parts that findings share

-- what is claimed of what may be found of a value that there may be
given : {A : Type 0} (P : Finding → Type 0) (f : A → Option Finding) (o : Option A) → ((a : A) → o ≡ Some a → IfSome (f a) P) → IfSome (option_and_then f o) P
given P f None each = tt
given P f (Some a) each = each a refl

-- and under a condition
where_so : (P : Finding → Type 0) (b : Bool) (o : Option Finding) → (b ≡ true → IfSome o P) → IfSome (if b then o else None) P
where_so P true o holds = holds refl
where_so P false o holds = tt

-- another number than this one
pub record IsAnother (o : Option ℕ) (n other : ℕ) : Type 0 where
  pub there : o ≡ Some other
  pub differs : other ≢ n

is_another : (o : Option ℕ) (n other : ℕ) → another o n ≡ Some other → IsAnother o n other
is_another None n other is = cc
is_another (Some m) n other is = by_case (m == n) refl is
  where
    by_case : (b : Bool) → (m == n) ≡ b → (if b then None else Some m) ≡ Some other → IsAnother (Some m) n other
    by_case true same is = cc
    by_case false differs is = let that : m ≡ other = cc in record { there = ap Some that; differs = λ same. eqb-false m n differs (that ∙ same) }

number_is : (n : ℕ) (o : Option ℕ) → is_number n o ≡ true → o ≡ Some n
number_is n None is = absurd (false≢true is)
number_is n (Some m) is = ap Some (eqb-true m n is)

none-is : {A : Type 0} (o : Option A) → is_none o ≡ true → o ≡ None
none-is None is = refl
none-is (Some x) is = cc

-- an instance that isn't among those that are reached
unreached_holds : (e : Entities) (c : Class) (n : ℕ) → holds_rules e ≡ true → IfSome (unreached c n (reached_of e c)) (Claims e)
unreached_holds e c n rules = by_case (has (reached_of e c) n) refl
  where
    by_case : (b : Bool) → has (reached_of e c) n ≡ b → IfSome (if b then None else Some (finding.Unreached c n)) (Claims e)
    by_case true is = tt
    by_case false is = is_unreached e c n rules is

-- ---- a port

-- an entry that is used lets none through
lets_none_drops : (table : Table) (frame : Reading) (entry : List ℕ) → discards_all table.entries ≡ true → entry_for table frame ≡ Some entry → is_discard (treatment_of entry) ≡ true
unfolding discards_all
lets_none_drops table frame entry all used =
    let at = entry_within table frame entry used in
    let test = matches table.settings.input_tpid frame.tags (type_at 0 frame.rest) in
    let first = sym (chosen_first test table.entries) ∙ at.chosen in
    let none : lets_none table.entries at.place ≡ true = find_all (λ i. test (entry_at table.entries i)) (lets_none table.entries) (tried_order table.entries) at.place first all in
    rw at.is at (by_case (is_discard (treatment_of (entry_at table.entries at.place))) (shadow_of table.entries at.place) refl none (not_chosen table frame at.place) at.chosen)
  where
    by_case : {i : ℕ} {chosen : Option ℕ} (discards : Bool) (shadow : Option ℕ) → shadow_of table.entries i ≡ shadow → (discards || is_some shadow) ≡ true
        → ((j : ℕ) → shadow_of table.entries i ≡ Some j → chosen ≢ Some i) → chosen ≡ Some i → discards ≡ true
    by_case true shadow is none not chosen = refl
    by_case false None is none not chosen = none
    by_case false (Some j) is none not chosen = absurd (not j is chosen)

discard_treats : (t : Treatment) (settings : TableSettings) (tags : List TagFields) (dscp : Option ℕ) → is_discard t ≡ true → treated_by t settings tags dscp ≡ None
unfolding treated_by
discard_treats treatment.Discard settings tags dscp is = refl
discard_treats (treatment.Retag retag) settings tags dscp is = absurd (false≢true is)

discard_lacks : (table : Table) (frame : Reading) → discards_all table.entries ≡ true → Lacks (is_by reason.RuleDiscard) (tags_by table frame)
unfolding tags_by treated
discard_lacks table frame all = by_case (entry_for table frame) refl
  where
    by_case : (used : Option (List ℕ)) → entry_for table frame ≡ used
        → Lacks (is_by reason.RuleDiscard) (found_then (ok_or used reason.NoRule) (λ entry. ok_or (treated entry table.settings frame.tags (dscp_of frame.rest)) reason.RuleDiscard))
    by_case None is = refl
    by_case (Some entry) is =
        let none = discard_treats (treatment_of entry) table.settings frame.tags (dscp_of frame.rest) (lets_none_drops table frame entry all is) in
        rw none refl

-- no entry is used where there is none
none_lacks : (table : Table) (frame : Reading) → table.entries ≡ [] → Lacks (is_by reason.NoRule) (tags_by table frame)
unfolding tags_by entry_for choice
none_lacks table frame none = rw none refl

-- by its table
table_drops : (e : Entities) (port : ℕ) (r : Reason) → table_reason (table_at e port) ≡ Some r → DropsBy e port r
unfolding tags_at
table_drops e port r is bytes fits = by_table (table_at e port) refl is
  where
    by_entries : (table : Table) → table_at e port ≡ Some table → (entries : List (List ℕ)) → table.entries ≡ entries → entries_reason entries ≡ Some r
        → drops (is_by r) (meaning e port bytes) ≡ true
    by_entries table there [] are is =
        let that : reason.NoRule ≡ r = cc in
        subst (λ (r : Reason). drops (is_by r) (meaning e port bytes) ≡ true) that
        (drops_by_table (is_by reason.NoRule) e port (record { runt = refl; cut = refl }) (λ frame. rw there (none_lacks table frame are)) bytes)
    by_entries table there (entry ∷ rest) are is =
        let so = cond_some (discards_all (entry ∷ rest)) reason.RuleDiscard r is in
        subst (λ (r : Reason). drops (is_by r) (meaning e port bytes) ≡ true) so.1
        (drops_by_table (is_by reason.RuleDiscard) e port (record { runt = refl; cut = refl }) (λ frame. rw there (discard_lacks table frame (ap discards_all are ∙ so.0))) bytes)

    by_table : (o : Option Table) → table_at e port ≡ o → table_reason o ≡ Some r → drops (is_by r) (meaning e port bytes) ≡ true
    by_table None there is = cc
    by_table (Some table) there is = by_entries table there table.entries refl is

-- by its mapper
mapper_drops : (e : Entities) (port : ℕ) (mapper : Instance) → holds_rules e ≡ true → mapper_at e port ≡ Some mapper → IfSome (uncarried port (routes e mapper)) (Claims e)
mapper_drops e port mapper rules there = by_case (common_reason (routes e mapper)) refl
  where
    by_case : (o : Option Reason) → common_reason (routes e mapper) ≡ o → IfSome (by_common port (routes e mapper) o) (Claims e)
    by_case (Some r) is =
        let lacks = find_passes (λ r. list_all (lacks_by r) (routes e mapper)) (reason.NullPointer ∷ reason.NoInterwork ∷ reason.NoGem ∷ reason.Direction ∷ []) r is in
        let late = find_all (λ r. list_all (lacks_by r) (routes e mapper)) (λ r. nat_le 5 (number_of_reason r)) (reason.NullPointer ∷ reason.NoInterwork ∷ reason.NoGem ∷ reason.Direction ∷ []) r is refl in
        drops_by_mapper (is_by r) e port (early_by r (leb-true 5 (number_of_reason r) late)) rules (lacks_at (is_by r) e port mapper (lacks_by r) there (lacks_by_reason r) lacks)
    by_case None is =
        where_so (Claims e) (list_all is_err (routes e mapper)) (Some (finding.PortCarriesNone port)) (λ so.
        drops_by_mapper (λ r. true) e port early_any rules (lacks_at (λ r. true) e port mapper is_err there lacks_any so))

port_holds : (e : Entities) (port : ℕ) → holds_rules e ≡ true → IfSome (port_drops e port) (Claims e)
unfolding port_drops
port_holds e port rules = by_case (table_reason (table_at e port)) (mapper_at e port) refl refl
  where
    by_case : (table : Option Reason) (mapper : Option Instance) → table_reason (table_at e port) ≡ table → mapper_at e port ≡ mapper → IfSome (port_drops_by e port table mapper) (Claims e)
    by_case (Some r) mapper is there = table_drops e port r is
    by_case None None is there = drops_by_mapper (is_by reason.NoMapper) e port (early_by reason.NoMapper (omega arith)) rules (λ tags dscp small. none_at (is_by reason.NoMapper) e port there refl tags dscp)
    by_case None (Some mapper) is there = mapper_drops e port mapper rules there

-- ---- a mapper

-- the instance is the one of its number
module _ (e : Entities) (rules : holds_rules e ≡ true) (i : Instance) where
  second_mapper_holds : find i.number e.mappers ≡ Some i → IfSome (second_mapper e i) (Claims e)
  second_mapper_holds is =
      given (Claims e) _ (port_of_mapper i) (λ port points. by_case port points (another (mapper_of_port e port) i.number) refl)
    where
      by_case : (port : ℕ) → port_of_mapper i ≡ Some port → (o : Option ℕ) → another (mapper_of_port e port) i.number ≡ o → IfSome (second_mapper_by i.number port o) (Claims e)
      by_case port points None so = tt
      by_case port points (Some other) so =
          let differs = is_another (mapper_of_port e port) i.number other so in
          record { instance = i; found = is; points = points; in_force = differs.there; differs = differs.differs }

  drops_at_mapper_holds : IfSome (drops_at_mapper e i) (Claims e)
  drops_at_mapper_holds =
      given (Claims e) _ (port_of_mapper i) (λ port points. where_so (Claims e) (is_number i.number (mapper_of_port e port)) (port_drops e port) (λ so. port_holds e port rules))

  priority_holds : find i.number e.mappers ≡ Some i → (p : ℕ) → IfSome (priority_finding e i p) (Claims e)
  unfolding gem_port_of
  priority_holds is p = by_pointer (pointer_of (pointers_at i) p) refl
    where
      by_route : (r : Result ℕ Reason) → gem_port_of e i p ≡ r → IfSome (uncarried_by i.number p r) (Claims e)
      by_route (Ok id) route = tt
      by_route (Err r) route = drops_priority e i.number p i r is route

      by_point : (pointer : ℕ) → pointer_of (pointers_at i) p ≡ Some pointer → (o : Option Instance) → find pointer e.interworks ≡ o
          → IfSome (if is_none o then Some (finding.MissingInterwork i.number p pointer) else uncarried_by i.number p (gem_port_of e i p)) (Claims e)
      by_point pointer points None there =
          (record { instance = i; found = is; points = points }, there, drops_priority e i.number p i reason.NoInterwork is (rw (points, there) refl))
      by_point pointer points (Some point) there = by_route (gem_port_of e i p) refl

      by_pointer : (o : Option ℕ) → pointer_of (pointers_at i) p ≡ o → IfSome (pointer_finding e i p o) (Claims e)
      by_pointer None points = (record { instance = i; found = is; points = points }, drops_priority e i.number p i reason.NullPointer is (rw points refl))
      by_pointer (Some pointer) points = by_point pointer points (find pointer e.interworks) refl

  mapper_holds : find i.number e.mappers ≡ Some i → All (Claims e) (mapper_findings e i)
  mapper_holds is =
      All-append (Claims e) _ _
      (all_found (Claims e) (second_mapper e i ∷ drops_at_mapper e i ∷ []) (second_mapper_holds is, (drops_at_mapper_holds, tt)))
      (All-append (Claims e) _ _
      (all_mapped (Claims e) (priority_finding e i) (priority_holds is) priorities)
      (all_found (Claims e) (unreached class.Mapper i.number (reached_mappers e) ∷ []) (unreached_holds e class.Mapper i.number rules, tt)))

  -- ---- a table

  second_table_holds : find i.number e.vlans ≡ Some i → IfSome (second_table e i) (Claims e)
  second_table_holds is =
      given (Claims e) _ (port_by_table e i) (λ port points. by_case port points (another (table_of_port e port) i.number) refl)
    where
      by_case : (port : ℕ) → port_by_table e i ≡ Some port → (o : Option ℕ) → another (table_of_port e port) i.number ≡ o → IfSome (second_table_by i.number port o) (Claims e)
      by_case port points None so = tt
      by_case port points (Some other) so =
          let differs = is_another (table_of_port e port) i.number other so in
          record { instance = i; found = is; points = points; in_force = differs.there; differs = differs.differs }

  missing_mapper_holds : find i.number e.vlans ≡ Some i → IfSome (missing_mapper e i) (Claims e)
  missing_mapper_holds is =
      where_so (Claims e) (attribute_number 1 i == association_mapper && is_none (find (attribute_number 7 i) e.mappers)) _ (λ so.
      let parts = and_parts (attribute_number 1 i == association_mapper) _ so in
      record {
        instance = i;
        found = is;
        association = eqb-true (attribute_number 1 i) association_mapper parts.0;
        points = refl;
        missing = none-is (find (attribute_number 7 i) e.mappers) parts.1;
      })

  drops_at_table_holds : IfSome (drops_at_table e i) (Claims e)
  drops_at_table_holds =
      given (Claims e) _ (port_of_table i) (λ port points. where_so (Claims e) (is_alone_at e i.number port) (port_drops e port) (λ so. port_holds e port rules))

  unused_holds : find i.number e.vlans ≡ Some i → (place : ℕ) → IfSome (unused_entry i.number i.entries place) (Claims e)
  unused_holds is place = by_case (shadow_of i.entries place) refl
    where
      by_case : (o : Option ℕ) → shadow_of i.entries place ≡ o → IfSome (unused_by i.number place o) (Claims e)
      by_case None so = tt
      by_case (Some other) so = record { instance = i; found = is; covered = so; never = never_told e i.number place other i is so }

  table_holds : find i.number e.vlans ≡ Some i → All (Claims e) (table_findings e i)
  table_holds is =
      All-append (Claims e) _ _
      (all_found (Claims e) (second_table e i ∷ missing_mapper e i ∷ drops_at_table e i ∷ []) (second_table_holds is, (missing_mapper_holds is, (drops_at_table_holds, tt))))
      (All-append (Claims e) _ _
      (all_given (Claims e) (unused_entry i.number i.entries) (unused_holds is) (tried_order i.entries))
      (all_found (Claims e) (unreached class.Vlan i.number (reached_tables e) ∷ []) (unreached_holds e class.Vlan i.number rules, tt)))

  -- ---- a GEM interworking termination point, and a GEM port network CTP

  missing_gem_port_holds : find i.number e.interworks ≡ Some i → IfSome (missing_gem_port e i) (Claims e)
  missing_gem_port_holds is =
      where_so (Claims e) (is_none (find (attribute_number 1 i) e.gem_ports)) _ (λ so.
      record { instance = i; found = is; points = refl; missing = none-is (find (attribute_number 1 i) e.gem_ports) so })

  missing_service_profile_holds : find i.number e.interworks ≡ Some i → IfSome (missing_service_profile e i) (Claims e)
  missing_service_profile_holds is =
      where_so (Claims e) (attribute_number 2 i == option_mapper && is_none (find (attribute_number 3 i) e.mappers)) _ (λ so.
      let parts = and_parts (attribute_number 2 i == option_mapper) _ so in
      record {
        instance = i;
        found = is;
        option = eqb-true (attribute_number 2 i) option_mapper parts.0;
        points = refl;
        missing = none-is (find (attribute_number 3 i) e.mappers) parts.1;
      })

  interwork_holds : find i.number e.interworks ≡ Some i → All (Claims e) (interwork_findings e i)
  interwork_holds is =
      all_found (Claims e) (missing_gem_port e i ∷ missing_service_profile e i ∷ unreached class.Interwork i.number (reached_points e) ∷ [])
      (missing_gem_port_holds is, (missing_service_profile_holds is, (unreached_holds e class.Interwork i.number rules, tt)))

  not_upstream_holds : find i.number e.gem_ports ≡ Some i → IfSome (not_upstream i) (Claims e)
  not_upstream_holds is = by_case (carries_upstream i) refl
    where
      by_case : (b : Bool) → carries_upstream i ≡ b → IfSome (if b then None else Some (finding.NotUpstream i.number (attribute_number 3 i))) (Claims e)
      by_case true so = tt
      by_case false so = record { instance = i; found = is; directed = refl; carries = so }

  shared_holds : find i.number e.gem_ports ≡ Some i → IfSome (shared_port_id e i) (Claims e)
  shared_holds is = by_case (another (first_of_port_id e (attribute_number 1 i)) i.number) refl
    where
      by_case : (o : Option ℕ) → another (first_of_port_id e (attribute_number 1 i)) i.number ≡ o → IfSome (shared_by i.number (attribute_number 1 i) o) (Claims e)
      by_case None so = tt
      by_case (Some first) so =
          let id = attribute_number 1 i in
          let differs = is_another (first_of_port_id e id) i.number first so in
          record {
            own = rw is (eq-eqb id id refl);
            other = find_passes (has_port_id e id) (numbers e.gem_ports) first differs.there;
            differs = differs.differs;
          }

  gem_port_holds : find i.number e.gem_ports ≡ Some i → All (Claims e) (gem_port_findings e i)
  gem_port_holds is =
      all_found (Claims e) (not_upstream i ∷ shared_port_id e i ∷ unreached class.GemPort i.number (reached_gem_ports e) ∷ [])
      (not_upstream_holds is, (shared_holds is, (unreached_holds e class.GemPort i.number rules, tt)))

  -- ---- all

  instance_holds : (c : Class) → find i.number (instances_of e (class_number c)) ≡ Some i → All (Claims e) (findings_of e c i)
  instance_holds class.OnuData is = All-nil (Claims e)
  instance_holds class.Mapper is = mapper_holds is
  instance_holds class.Vlan is = table_holds is
  instance_holds class.Interwork is = interwork_holds is
  instance_holds class.GemPort is = gem_port_holds is

number_holds : (e : Entities) → holds_rules e ≡ true → (c : Class) (n : ℕ) → All (Claims e) (instance_findings e c n)
unfolding instance_findings
number_holds e rules c n = by_case (find n (instances_of e (class_number c))) refl (number_found n (instances_of e (class_number c)))
  where
    by_case : (o : Option Instance) → find n (instances_of e (class_number c)) ≡ o → IfSome o (λ i. i.number ≡ n) → All (Claims e) (option_map_or (findings_of e c) o [])
    by_case None is numbered = All-nil (Claims e)
    by_case (Some i) is numbered = instance_holds e rules i c (ap (λ (m : ℕ). find m (instances_of e (class_number c))) numbered ∙ is)

class_holds : (e : Entities) → holds_rules e ≡ true → (c : Class) → All (Claims e) (class_findings e c)
unfolding class_findings
class_holds e rules c = all_joined (Claims e) (instance_findings e c) (number_holds e rules c) (numbers (instances_of e (class_number c)))

pub findings_hold : (e : Entities) → holds_rules e ≡ true → All (Claims e) (findings e)
unfolding findings
findings_hold e rules = all_joined (Claims e) (class_findings e) (class_holds e rules) (class.Mapper ∷ class.Vlan ∷ class.Interwork ∷ class.GemPort ∷ [])
