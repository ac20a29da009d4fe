-- Each step of an explanation comes by what pointers lead to from a port.
use Rattle.std.proofs.Common.{◌≡◌, ◌==◌, ℕ, ◌<◌, Bool, true, false, List, [], ◌∷◌, Option, Some, None, Result, Ok, Err, refl, ap, sym, ◌∙◌}
use Rattle.std.specs.Prelude.{All, IfSome, is_none, ok_or}
use Rattle.std.specs.List.{list_all}
use Rattle.std.specs.Option.{option_and_then, option_or}
use Rattle.std.specs.Result.{result_map_both}
use Rattle.std.proofs.lemmas.Bool.{eqb-true, false≢true}
use Rattle.std.proofs.lemmas.List.Elements.{All-append, All-cons, All-nil, All-weaker}
use Rattle.tag_view.specs.declared.fault.FrameFault.{FrameFault}
use Rattle.tag_view.specs.Frame.{Reading, frame_of}
use Rattle.tag_view.specs.Dscp.{dscp_of}
use Rattle.vlan_rule.specs.Entry.{refusal_of}
use Rattle.treatment.specs.Treatment.{treated}
use Rattle.pmapper.specs.Mapper.{pointer_of, priority_of}
use Rattle.managed_entity.specs.declared.class.Class.{Class}
use Rattle.managed_entity.specs.declared.class.Class.TheVariants as class
use Rattle.managed_entity.specs.Instance.{Instance, attribute_number}
use Rattle.mib_state.specs.Entities.{Entities, find}
use Rattle.mib_state.specs.Attached.{association_uni, is_table_of, least_instance, mapper_of_port, table_of_mapper, table_of_port}
use Rattle.mib_state.proofs.Touched.{number_found}
use Rattle.frame_meaning.specs.declared.reason.Reason.{Reason}
use Rattle.frame_meaning.specs.declared.reason.Reason.TheVariants.{NoRule, RuleDiscard, NoMapper, NullPointer, NoInterwork, NoGem}
use Rattle.frame_meaning.specs.declared.verdict.Verdict.TheVariants.{Forward}
use Rattle.frame_meaning.specs.Reason.{reason_of_fault}
use Rattle.frame_meaning.specs.Meaning.{Table, entry_for, input_tpid_of, mapper_at, pointers_at, port_id_of, read_at, table_at, unmarked_at}
use Rattle.explain.specs.declared.force.TableInForce.{TableInForce}
use Rattle.explain.specs.declared.force.TableInForce.TheVariants.{NoTable, OfPort, OfMapper}
use Rattle.explain.specs.declared.mismatch.Mismatch.{Mismatch}
use Rattle.explain.specs.declared.outgoing.OutgoingTag.{OutgoingTag}
use Rattle.explain.specs.declared.step.Step.{Step}
use Rattle.explain.specs.declared.step.Step.TheVariants as step
use Rattle.explain.specs.Force.{in_force_by, number_in_force, of_mapper, table_in_force}
use Rattle.explain.specs.Outgoing.{kept_after, outgoing, plain}
use Rattle.explain.specs.Priority.{priority_origin}
use Rattle.explain.specs.Steps.{explained, from_gem_port, from_interwork, from_mapper, from_pointer, from_read, from_table, from_tags, mismatch_at, then_step, tried, tries, tries_of}
use Rattle.explain.proofs.Origins.{plain-outgoing, plain-unchanged}
use Rattle.explain_findings.specs.Reach.{gem_port_pointer, pointers_of, priorities, reached_gem_ports, reached_mappers, reached_points, reached_tables}
use Rattle.explain_findings.specs.Claims.{AreBytes, IsUnreached, hangs_on, holds_rules, is_table, names}
use Rattle.explain_findings.proofs.Lists.{has, has_joined, has_mapped}
use Rattle.explain_findings.proofs.Priorities.{has_priority}
use Rattle.explain_findings.proofs.Reaching.{mapper_is_reached, table_is_reached}
use Rattle.explain_findings.proofs.Small.{are_small, priority_small, read_small, treated_small}
use Rattle.explain_findings.proofs.Tables.{accepted_entry, rules_at}

-- ---- what a step comes by is reached

-- the mapper that the table in force hangs on
abbrev pub mapper_in_force : TableInForce → Option ℕ
mapper_in_force NoTable = None
mapper_in_force (OfPort instance) = None
mapper_in_force (OfMapper mapper instance) = Some mapper

abbrev pub Leads : Entities → Step → Type 0
Leads e (step.Table force) =
    IfSome (number_in_force force) (λ n. has (reached_tables e) n ≡ true) × IfSome (mapper_in_force force) (λ n. has (reached_mappers e) n ≡ true)
Leads e (step.Mapper n) = has (reached_mappers e) n ≡ true
Leads e (step.Pointer n) = has (reached_points e) n ≡ true
Leads e (step.Interwork n pointer) = (has (reached_points e) n ≡ true) × (has (reached_gem_ports e) pointer ≡ true)
Leads e (step.GemPort n id direction) = has (reached_gem_ports e) n ≡ true
Leads e _ = Unit {0}

-- ---- a step, and what comes next

next_leads : (e : Entities) {A : Type 0} (r : Result A Reason) (next : A → List Step) → ((a : A) → r ≡ Ok a → All (Leads e) (next a)) → All (Leads e) (then_step r next)
next_leads e (Ok a) next lead = lead a refl
next_leads e (Err reason) next lead = All-cons (Leads e) _ [] tt (All-nil (Leads e))

found_leads : (e : Entities) {A : Type 0} (o : Option A) (reason : Reason) (next : A → List Step) → ((a : A) → o ≡ Some a → All (Leads e) (next a))
    → All (Leads e) (then_step (ok_or o reason) next)
found_leads e (Some a) reason next lead = lead a refl
found_leads e None reason next lead = All-cons (Leads e) _ [] tt (All-nil (Leads e))

-- ---- from the last step to the first

gem_port_leads : (e : Entities) (leaving : Reading) (gem : Instance) → has (reached_gem_ports e) gem.number ≡ true → All (Leads e) (from_gem_port leaving gem)
unfolding from_gem_port
gem_port_leads e leaving gem reached =
    All-cons (Leads e) _ _ reached
    (next_leads e (port_id_of gem) (λ id. step.Verdict (Forward id leaving) ∷ []) (λ id is. All-cons (Leads e) _ [] tt (All-nil (Leads e))))

-- an instance that is found has the number that it was looked for by
numbered : (n : ℕ) (l : List Instance) (i : Instance) → find n l ≡ Some i → i.number ≡ n
numbered n l i is = rw is at (number_found n l)

-- the pointer of a point that is reached
points_on : (e : Entities) (n : ℕ) (point : Instance) → has (reached_points e) n ≡ true → find n e.interworks ≡ Some point
    → has (reached_gem_ports e) (attribute_number 1 point) ≡ true
unfolding reached_gem_ports
points_on e n point reached is = has_mapped (gem_port_pointer e) (reached_points e) n (attribute_number 1 point) reached (rw is refl)

interwork_leads : (e : Entities) (leaving : Reading) (n : ℕ) (point : Instance) → has (reached_points e) n ≡ true → find n e.interworks ≡ Some point
    → All (Leads e) (from_interwork e leaving point)
unfolding from_interwork
interwork_leads e leaving n point reached is =
    let on = points_on e n point reached is in
    All-cons (Leads e) _ _ (rw (numbered n e.interworks point is) reached, on)
    (found_leads e (find (attribute_number 1 point) e.gem_ports) NoGem (from_gem_port leaving) (λ gem found.
    gem_port_leads e leaving gem (rw (numbered (attribute_number 1 point) e.gem_ports gem found) on)))

pointer_leads : (e : Entities) (leaving : Reading) (pointer : ℕ) → has (reached_points e) pointer ≡ true → All (Leads e) (from_pointer e leaving pointer)
unfolding from_pointer
pointer_leads e leaving pointer reached =
    All-cons (Leads e) _ _ reached
    (found_leads e (find pointer e.interworks) NoInterwork (from_interwork e leaving) (λ point found. interwork_leads e leaving pointer point reached found))

-- a pointer of a mapper that is reached
pointer_reached : (e : Entities) (n priority pointer : ℕ) (mapper : Instance) → has (reached_mappers e) n ≡ true → find n e.mappers ≡ Some mapper → priority < 8
    → pointer_of (pointers_at mapper) priority ≡ Some pointer → has (reached_points e) pointer ≡ true
unfolding reached_points
pointer_reached e n priority pointer mapper reached is small set =
    has_joined (pointers_of e) (reached_mappers e) n pointer reached (rw is (has_mapped (pointer_of (pointers_at mapper)) priorities priority pointer (has_priority priority small) set))

mapper_leads : (e : Entities) (leaving : Reading) (dscp : Option ℕ) (n : ℕ) (mapper : Instance) → are_small leaving.tags ≡ true → has (reached_mappers e) n ≡ true
    → find n e.mappers ≡ Some mapper → All (Leads e) (from_mapper e leaving dscp mapper)
unfolding from_mapper
mapper_leads e leaving dscp n mapper small reached is =
    let priority = priority_of (unmarked_at mapper) leaving.tags dscp in
    let origin = priority_origin (unmarked_at mapper) leaving.tags dscp in
    let rest = then_step (ok_or (pointer_of (pointers_at mapper) priority) NullPointer) (from_pointer e leaving) in
    All-cons (Leads e) (step.Mapper mapper.number) (step.Priority priority origin ∷ rest) (rw (numbered n e.mappers mapper is) reached)
    (All-cons (Leads e) (step.Priority priority origin) rest tt
    (found_leads e (pointer_of (pointers_at mapper) priority) NullPointer (from_pointer e leaving) (λ pointer set.
    pointer_leads e leaving pointer (pointer_reached e n priority pointer mapper reached is (priority_small (unmarked_at mapper) leaving.tags dscp small) set))))

-- the mapper at a port is found by its number
pub at_number : (e : Entities) (port : ℕ) (mapper : Instance) → mapper_at e port ≡ Some mapper → (n : ℕ) × (mapper_of_port e port ≡ Some n) × (find n e.mappers ≡ Some mapper)
unfolding mapper_at
at_number e port mapper is = by_case (mapper_of_port e port) refl is
  where
    by_case : (o : Option ℕ) → mapper_of_port e port ≡ o → option_and_then (λ n. find n e.mappers) o ≡ Some mapper
        → (n : ℕ) × (mapper_of_port e port ≡ Some n) × (find n e.mappers ≡ Some mapper)
    by_case None of is = cc
    by_case (Some n) of is = (n, of, is)

tags_lead : (e : Entities) (port : ℕ) (frame : Reading) (tags : List OutgoingTag) → are_small (plain tags) ≡ true → All (Leads e) (from_tags e port frame tags)
unfolding from_tags
tags_lead e port frame tags small =
    All-cons (Leads e) _ _ tt
    (found_leads e (mapper_at e port) NoMapper _ (λ mapper there.
    let at = at_number e port mapper there in
    mapper_leads e (record frame { tags = plain tags }) (dscp_of frame.rest) at.0 mapper small (mapper_is_reached e port at.0 at.1) at.2))

tries_lead : (e : Entities) (at : ℕ → Option Mismatch) (order : List ℕ) → All (Leads e) (tries at order)
tries_lead e at [] = All-nil (Leads e)
tries_lead e at (place ∷ rest) = by_case (at place) (tries_lead e at rest)
  where
    by_case : (found : Option Mismatch) → All (Leads e) (tries at rest) → All (Leads e) (tried place found (tries at rest))
    by_case None others = All-cons (Leads e) _ [] tt (All-nil (Leads e))
    by_case (Some field) others = All-cons (Leads e) _ _ tt others

-- the tags by an entry that isn't refused
outgoing_small : (entry : List ℕ) (table : Table) (frame : Reading) (tags : List OutgoingTag) → refusal_of entry ≡ None → are_small frame.tags ≡ true
    → outgoing entry table.settings frame.tags (dscp_of frame.rest) ≡ Some tags → are_small (plain tags) ≡ true
outgoing_small entry table frame tags accepted small is =
    let out = plain-outgoing entry table.settings frame.tags (dscp_of frame.rest) in
    let treats : treated entry table.settings frame.tags (dscp_of frame.rest) ≡ Some (plain tags) = sym out ∙ rw is refl in
    rw treats at (treated_small entry table.settings frame.tags (dscp_of frame.rest) accepted small)

table_leads : (e : Entities) (port : ℕ) (table : Table) (frame : Reading) → list_all (λ entry. is_none (refusal_of entry)) table.entries ≡ true → are_small frame.tags ≡ true
    → All (Leads e) (from_table e port table frame)
unfolding from_table tries_of
table_leads e port table frame rules small =
    All-append (Leads e) (tries_of table frame) _ (tries_lead e (mismatch_at table frame) _)
    (found_leads e (entry_for table frame) NoRule _ (λ entry used.
    found_leads e (outgoing entry table.settings frame.tags (dscp_of frame.rest)) RuleDiscard (from_tags e port frame) (λ tags out.
    tags_lead e port frame tags (outgoing_small entry table frame tags (accepted_entry table frame entry rules used) small out))))

read_leads : (e : Entities) (port : ℕ) (table : Option Table) (frame : Reading) → IfSome table (λ t. list_all (λ entry. is_none (refusal_of entry)) t.entries ≡ true)
    → are_small frame.tags ≡ true → All (Leads e) (from_read e port table frame)
unfolding from_read
read_leads e port None frame rules small =
    All-cons (Leads e) _ _ tt (tags_lead e port frame (kept_after 0 frame.tags) (ap are_small (plain-unchanged frame.tags) ∙ small))
read_leads e port (Some table) frame rules small = All-cons (Leads e) _ _ tt (table_leads e port table frame rules small)

-- ---- the table in force

-- its number is that of the port's table
pub force_number : (e : Entities) (port : ℕ) → number_in_force (table_in_force e port) ≡ table_of_port e port
force_number e port = by_case (least_instance (is_table_of association_uni port) e.vlans) (mapper_of_port e port)
  where
    by_mapper : (m : ℕ) (t : Option ℕ) → number_in_force (of_mapper m t) ≡ t
    by_mapper m None = refl
    by_mapper m (Some t) = refl

    by_case : (own mapper : Option ℕ) → number_in_force (in_force_by e own mapper) ≡ option_or own (table_of_mapper e mapper)
    by_case (Some t) mapper = refl
    by_case None None = refl
    by_case None (Some m) = by_mapper m (table_of_mapper e (Some m))

-- its mapper is that of the port
mapper_leads_there : (e : Entities) (port : ℕ) → IfSome (mapper_in_force (table_in_force e port)) (λ n. has (reached_mappers e) n ≡ true)
mapper_leads_there e port = by_case (least_instance (is_table_of association_uni port) e.vlans) (mapper_of_port e port) refl
  where
    by_mapper : (m : ℕ) (t : Option ℕ) → mapper_of_port e port ≡ Some m → IfSome (mapper_in_force (of_mapper m t)) (λ n. has (reached_mappers e) n ≡ true)
    by_mapper m None is = tt
    by_mapper m (Some t) is = mapper_is_reached e port m is

    by_case : (own mapper : Option ℕ) → mapper_of_port e port ≡ mapper → IfSome (mapper_in_force (in_force_by e own mapper)) (λ n. has (reached_mappers e) n ≡ true)
    by_case (Some t) mapper is = tt
    by_case None None is = tt
    by_case None (Some m) is = by_mapper m (table_of_mapper e (Some m)) is

force_leads : (e : Entities) (port : ℕ) → Leads e (step.Table (table_in_force e port))
force_leads e port = (by_case (table_of_port e port) refl, mapper_leads_there e port)
  where
    by_case : (o : Option ℕ) → table_of_port e port ≡ o → IfSome (number_in_force (table_in_force e port)) (λ n. has (reached_tables e) n ≡ true)
    by_case None is = rw (force_number e port, is) tt
    by_case (Some n) is = rw (force_number e port, is) (table_is_reached e port n is)

-- ---- the whole

-- a frame that is read
pub read_frame : (table : Option Table) (bytes : List ℕ) (frame : Reading) → AreBytes bytes → read_at table bytes ≡ Ok frame → are_small frame.tags ≡ true
read_frame table bytes frame fits is = by_case (frame_of (input_tpid_of table) bytes) refl is
  where
    by_case : (r : Result Reading FrameFault) → frame_of (input_tpid_of table) bytes ≡ r → result_map_both (λ frame. frame) reason_of_fault r ≡ Ok frame → are_small frame.tags ≡ true
    by_case (Err fault) of is = cc
    by_case (Ok read) of is = let same : read ≡ frame = cc in read_small (input_tpid_of table) bytes frame fits (of ∙ ap Ok same)

explained_leads : (e : Entities) (port : ℕ) (bytes : List ℕ) → holds_rules e ≡ true → AreBytes bytes → All (Leads e) (explained e port bytes)
unfolding explained
explained_leads e port bytes rules fits =
    All-cons (Leads e) _ _ (force_leads e port)
    (next_leads e (read_at (table_at e port) bytes) (from_read e port (table_at e port)) (λ frame is.
    read_leads e port (table_at e port) frame (rules_at e port rules) (read_frame (table_at e port) bytes frame fits is)))

-- ---- what isn't reached

-- the instances of a class that are reached
abbrev pub reached_of : Entities → Class → List ℕ
reached_of e class.OnuData = []
reached_of e class.Mapper = reached_mappers e
reached_of e class.Vlan = reached_tables e
reached_of e class.Interwork = reached_points e
reached_of e class.GemPort = reached_gem_ports e

-- it is another one
other : (xs : List ℕ) (m n : ℕ) → has xs n ≡ false → has xs m ≡ true → (m == n) ≡ false
other xs m n absent there = by_case (m == n) refl
  where
    by_case : (b : Bool) → (m == n) ≡ b → b ≡ false
    by_case false is = refl
    by_case true is = absurd (false≢true (sym absent ∙ ap (has xs) (sym (eqb-true m n is)) ∙ there))

another_table : (e : Entities) (force : TableInForce) (n : ℕ) → has (reached_tables e) n ≡ false → Leads e (step.Table force) → is_table force n ≡ false
another_table e NoTable n absent lead = refl
another_table e (OfPort i) n absent lead = other (reached_tables e) i n absent lead.0
another_table e (OfMapper mapper i) n absent lead = other (reached_tables e) i n absent lead.0

another_mapper : (e : Entities) (force : TableInForce) (n : ℕ) → has (reached_mappers e) n ≡ false → Leads e (step.Table force) → hangs_on force n ≡ false
another_mapper e NoTable n absent lead = refl
another_mapper e (OfPort i) n absent lead = refl
another_mapper e (OfMapper mapper i) n absent lead = other (reached_mappers e) mapper n absent lead.1

unnamed : (e : Entities) (c : Class) (n : ℕ) → has (reached_of e c) n ≡ false → (s : Step) → Leads e s → names c n s ≡ false
unnamed e class.OnuData n absent s lead = refl
unnamed e class.Vlan n absent (step.Table force) lead = another_table e force n absent lead
unnamed e class.Vlan n absent _ lead = refl
unnamed e class.Mapper n absent (step.Table force) lead = another_mapper e force n absent lead
unnamed e class.Mapper n absent (step.Mapper i) lead = other (reached_mappers e) i n absent lead
unnamed e class.Mapper n absent _ lead = refl
unnamed e class.Interwork n absent (step.Pointer i) lead = other (reached_points e) i n absent lead
unnamed e class.Interwork n absent (step.Interwork i pointer) lead = other (reached_points e) i n absent lead.0
unnamed e class.Interwork n absent _ lead = refl
unnamed e class.GemPort n absent (step.Interwork i pointer) lead = other (reached_gem_ports e) pointer n absent lead.1
unnamed e class.GemPort n absent (step.GemPort i id direction) lead = other (reached_gem_ports e) i n absent lead
unnamed e class.GemPort n absent _ lead = refl

pub is_unreached : (e : Entities) (c : Class) (n : ℕ) → holds_rules e ≡ true → has (reached_of e c) n ≡ false → IsUnreached e c n
is_unreached e c n rules absent port bytes fits =
    All-weaker (Leads e) (λ s. names c n s ≡ false) (unnamed e c n absent) (explained e port bytes) (explained_leads e port bytes rules fits)
