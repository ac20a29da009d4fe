-- Each explanation ends with the meaning of its frame, its one verdict.
use Rattle.std.proofs.Common.{◌≡◌, ℕ, false, List, [], ◌∷◌, ◌++◌, Option, Some, None, Result, Ok, Err, refl, ap, sym, subst, ◌∙◌, append_assoc}
use Rattle.std.specs.Prelude.{ok_or, option_map}
use Rattle.std.specs.List.{list_any}
use Rattle.std.proofs.lemmas.List.Folds.{list_any-append}
use Rattle.tag_view.specs.Tag.{TagFields}
use Rattle.tag_view.specs.Frame.{Reading}
use Rattle.tag_view.specs.Dscp.{dscp_of}
use Rattle.treatment.specs.Treatment.{treated}
use Rattle.pmapper.specs.Mapper.{pointer_of, priority_of}
use Rattle.managed_entity.specs.Instance.{Instance, attribute_number}
use Rattle.mib_state.specs.Entities.{Entities, find}
use Rattle.frame_meaning.specs.declared.reason.Reason.{Reason}
use Rattle.frame_meaning.specs.declared.reason.Reason.TheVariants.{NoRule, RuleDiscard, NoMapper, NullPointer, NoInterwork, NoGem}
use Rattle.frame_meaning.specs.declared.verdict.Verdict.{Verdict}
use Rattle.frame_meaning.specs.declared.verdict.Verdict.TheVariants.{Forward, Drop}
use Rattle.frame_meaning.specs.Meaning.{Table, entry_for, forwarded_by, found_then, gem_port_at, gem_port_behind, gem_port_of, mapper_at, meaning, pointers_at, port_id_of, read_at, table_at, tags_at, tags_by, unmarked_at, verdict_of}
use Rattle.explain.specs.declared.mismatch.Mismatch.{Mismatch}
use Rattle.explain.specs.declared.outgoing.OutgoingTag.{OutgoingTag}
use Rattle.explain.specs.declared.step.Step.{Step}
use Rattle.explain.specs.declared.step.Step.TheVariants as step
use Rattle.explain.specs.Outgoing.{kept_after, outgoing, plain}
use Rattle.explain.specs.Steps.{explained, from_gem_port, from_interwork, from_mapper, from_pointer, from_read, from_table, from_tags, mismatch_at, then_step, tried, tries, tries_of}
use Rattle.explain.specs.Ends.{EndsWith, is_verdict}
use Rattle.explain.proofs.Origins.{plain-outgoing, plain-unchanged}

-- ---- a step, some steps, and what comes next

alone : (verdict : Verdict) → EndsWith verdict (step.Verdict verdict ∷ [])
alone verdict = record { before = []; last = refl; only = refl }

after : (verdict : Verdict) (s : Step) (steps : List Step) → is_verdict s ≡ false → EndsWith verdict steps → EndsWith verdict (s ∷ steps)
after verdict s steps none ends = record {
  before = s ∷ ends.before;
  last = ap (λ (l : List Step). s ∷ l) ends.last;
  only = rw none ends.only;
}

behind : (verdict : Verdict) (first steps : List Step) → list_any is_verdict first ≡ false → EndsWith verdict steps → EndsWith verdict (first ++ steps)
behind verdict first steps none ends =
    let parts = list_any-append is_verdict first ends.before in record {
      before = first ++ ends.before;
      last = ap (λ (l : List Step). first ++ l) ends.last ∙ sym (append_assoc first ends.before (step.Verdict verdict ∷ []));
      only = parts ∙ rw none ends.only;
    }

-- what is found leads on, and a reason ends
next_ends : {A : Type 0} (r : Result A Reason) (next : A → List Step) (f : A → Result (ℕ × Reading) Reason)
    → ((a : A) → EndsWith (verdict_of (f a)) (next a)) → EndsWith (verdict_of (found_then r f)) (then_step r next)
next_ends (Ok a) next f ends = ends a
next_ends (Err reason) next f ends = alone (Drop reason)

-- the same where it is found in two parts
parts_end : {A B : Type 0} (r : Result A Reason) (next : A → List Step) (f : A → Result B Reason) (g : B → Result (ℕ × Reading) Reason)
    → ((a : A) → EndsWith (verdict_of (found_then (f a) g)) (next a)) → EndsWith (verdict_of (found_then (found_then r f) g)) (then_step r next)
parts_end (Ok a) next f g ends = ends a
parts_end (Err reason) next f g ends = alone (Drop reason)

-- ---- stage by stage

abbrev leave : Reading → ℕ → Result (ℕ × Reading) Reason
leave leaving gem = Ok (gem, leaving)

gem_port_ends : (leaving : Reading) (gem : Instance) → EndsWith (verdict_of (found_then (port_id_of gem) (leave leaving))) (from_gem_port leaving gem)
unfolding from_gem_port
gem_port_ends leaving gem =
    after _ (step.GemPort gem.number (attribute_number 1 gem) (attribute_number 3 gem)) _ refl
    (next_ends (port_id_of gem) (λ id. step.Verdict (Forward id leaving) ∷ []) (leave leaving) (λ id. alone (Forward id leaving)))

interwork_ends : (e : Entities) (leaving : Reading) (point : Instance)
    → EndsWith (verdict_of (found_then (gem_port_behind e point) (leave leaving))) (from_interwork e leaving point)
unfolding from_interwork gem_port_behind
interwork_ends e leaving point =
    after _ (step.Interwork point.number (attribute_number 1 point)) _ refl
    (parts_end (ok_or (find (attribute_number 1 point) e.gem_ports) NoGem) (from_gem_port leaving) port_id_of (leave leaving) (gem_port_ends leaving))

pointer_ends : (e : Entities) (leaving : Reading) (pointer : ℕ)
    → EndsWith (verdict_of (found_then (found_then (ok_or (find pointer e.interworks) NoInterwork) (gem_port_behind e)) (leave leaving))) (from_pointer e leaving pointer)
unfolding from_pointer
pointer_ends e leaving pointer =
    after _ (step.Pointer pointer) _ refl
    (parts_end (ok_or (find pointer e.interworks) NoInterwork) (from_interwork e leaving) (gem_port_behind e) (leave leaving) (interwork_ends e leaving))

mapper_ends : (e : Entities) (leaving : Reading) (dscp : Option ℕ) (mapper : Instance)
    → EndsWith (verdict_of (found_then (gem_port_of e mapper (priority_of (unmarked_at mapper) leaving.tags dscp)) (leave leaving))) (from_mapper e leaving dscp mapper)
unfolding from_mapper gem_port_of
mapper_ends e leaving dscp mapper =
    let priority = priority_of (unmarked_at mapper) leaving.tags dscp in
    after _ (step.Mapper mapper.number) _ refl
    (after _ _ _ refl
    (parts_end (ok_or (pointer_of (pointers_at mapper) priority) NullPointer) (from_pointer e leaving)
    (λ pointer. found_then (ok_or (find pointer e.interworks) NoInterwork) (gem_port_behind e)) (leave leaving) (pointer_ends e leaving)))

tags_end : (e : Entities) (port : ℕ) (frame : Reading) (tags : List OutgoingTag)
    → EndsWith (verdict_of (found_then (gem_port_at e port (plain tags) (dscp_of frame.rest)) (leave (record frame { tags = plain tags })))) (from_tags e port frame tags)
unfolding from_tags gem_port_at
tags_end e port frame tags =
    let leaving : Reading = record frame { tags = plain tags } in
    after _ (step.Tags (record { items = tags })) _ refl
    (parts_end (ok_or (mapper_at e port) NoMapper) (from_mapper e leaving (dscp_of frame.rest))
    (λ mapper. gem_port_of e mapper (priority_of (unmarked_at mapper) (plain tags) (dscp_of frame.rest))) (leave leaving) (mapper_ends e leaving (dscp_of frame.rest)))

-- the frame with these tags, by the GEM port that it then leaves through
abbrev leave_with : Entities → ℕ → Reading → List TagFields → Result (ℕ × Reading) Reason
leave_with e port frame tags = found_then (gem_port_at e port tags (dscp_of frame.rest)) (leave (record frame { tags = tags }))

-- entries that are tried are no verdicts
tries_tell_none : (at : ℕ → Option Mismatch) (order : List ℕ) → list_any is_verdict (tries at order) ≡ false
tries_tell_none at [] = refl
tries_tell_none at (place ∷ rest) = by_case (at place) (tries_tell_none at rest)
  where
    by_case : (found : Option Mismatch) → list_any is_verdict (tries at rest) ≡ false → list_any is_verdict (tried place found (tries at rest)) ≡ false
    by_case None others = refl
    by_case (Some field) others = others

treated_ends : (found : Option (List OutgoingTag)) (next : List OutgoingTag → List Step) (g : List TagFields → Result (ℕ × Reading) Reason)
    → ((tags : List OutgoingTag) → EndsWith (verdict_of (g (plain tags))) (next tags))
    → EndsWith (verdict_of (found_then (ok_or (option_map plain found) RuleDiscard) g)) (then_step (ok_or found RuleDiscard) next)
treated_ends None next g ends = alone (Drop RuleDiscard)
treated_ends (Some tags) next g ends = ends tags

entry_ends : (e : Entities) (port : ℕ) (table : Table) (frame : Reading) (entry : List ℕ)
    → EndsWith (verdict_of (found_then (ok_or (treated entry table.settings frame.tags (dscp_of frame.rest)) RuleDiscard) (leave_with e port frame)))
    (then_step (ok_or (outgoing entry table.settings frame.tags (dscp_of frame.rest)) RuleDiscard) (from_tags e port frame))
entry_ends e port table frame entry =
    let found = outgoing entry table.settings frame.tags (dscp_of frame.rest) in
    let Ends : Option (List TagFields) → Type 0 =
    λ o. EndsWith (verdict_of (found_then (ok_or o RuleDiscard) (leave_with e port frame))) (then_step (ok_or found RuleDiscard) (from_tags e port frame)) in
    subst Ends (plain-outgoing entry table.settings frame.tags (dscp_of frame.rest))
    (treated_ends found (from_tags e port frame) (leave_with e port frame) (tags_end e port frame))

table_ends : (e : Entities) (port : ℕ) (table : Table) (frame : Reading)
    → EndsWith (verdict_of (found_then (tags_by table frame) (leave_with e port frame))) (from_table e port table frame)
unfolding from_table tags_by tries_of
table_ends e port table frame =
    behind _ (tries_of table frame) _ (tries_tell_none (mismatch_at table frame) _)
    (parts_end (ok_or (entry_for table frame) NoRule) _
    (λ entry. ok_or (treated entry table.settings frame.tags (dscp_of frame.rest)) RuleDiscard) (leave_with e port frame) (entry_ends e port table frame))

read_ends : (e : Entities) (port : ℕ) (table : Option Table) (frame : Reading)
    → EndsWith (verdict_of (found_then (tags_at table frame) (leave_with e port frame))) (from_read e port table frame)
unfolding from_read tags_at
read_ends e port (Some table) frame = after _ (step.Read frame) _ refl (table_ends e port table frame)
read_ends e port None frame =
    let tags = kept_after 0 frame.tags in
    let Ends : List TagFields → Type 0 = λ ts. EndsWith (verdict_of (leave_with e port frame ts)) (from_tags e port frame tags) in
    after _ (step.Read frame) _ refl (subst Ends (plain-unchanged frame.tags) (tags_end e port frame tags))

pub explained_ends : (e : Entities) (port : ℕ) (bytes : List ℕ) → EndsWith (meaning e port bytes) (explained e port bytes)
unfolding explained meaning forwarded_by
explained_ends e port bytes =
    after _ (step.Table _) _ refl
    (next_ends (read_at (table_at e port) bytes) (from_read e port (table_at e port))
    (λ frame. found_then (tags_at (table_at e port) frame) (leave_with e port frame)) (read_ends e port (table_at e port)))
