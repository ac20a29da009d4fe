-- The steps of the entries that are tried.
use Rattle.std.proofs.Common.{◌≡◌, ℕ, Bool, true, false, List, [], ◌∷◌, Option, Some, None, refl, ap, sym, ◌∙◌, if◌then◌else◌}
use Rattle.std.specs.Prelude.{find, is_none}
use Rattle.tag_view.specs.Tag.{TagFields}
use Rattle.tag_view.specs.Frame.{Reading, type_at}
use Rattle.vlan_rule.specs.declared.filter.EthertypeFilter.{EthertypeFilter}
use Rattle.vlan_rule.specs.declared.filter.Filter.{Filter}
use Rattle.vlan_rule.specs.declared.rule.Rule.{Rule}
use Rattle.vlan_rule.specs.Meaning.{filter_of}
use Rattle.vlan_rule.specs.Rule.{IsRuleOf}
use Rattle.vlan_rule.specs.Choice.{choice, entry_at, matches}
use Rattle.frame_meaning.specs.Meaning.{Table}
use Rattle.explain.specs.declared.mismatch.Mismatch.{Mismatch}
use Rattle.explain.specs.declared.step.Step.TheVariants as step
use Rattle.explain.specs.Mismatch.{mismatch, mismatch_by}
use Rattle.explain.specs.Order.{tried_order}
use Rattle.explain.specs.Steps.{mismatch_at, told_used, tried, tries, tries_of, TellsTheUsed}
use Rattle.explain.proofs.Admits.{none_where_matches}
use Rattle.explain.proofs.Orders.{chosen_first}

pub tries_fail : (at : ℕ → Option Mismatch) (place : ℕ) (field : Mismatch) (rest : List ℕ) → Some field ≡ at place
    → step.Failed place field ∷ tries at rest ≡ tries at (place ∷ rest)
tries_fail at place field rest is = rw (← is) refl

pub tries_use : (at : ℕ → Option Mismatch) (place : ℕ) (rest : List ℕ) → None ≡ at place → step.Used place ∷ [] ≡ tries at (place ∷ rest)
tries_use at place rest is = rw (← is) refl

-- the mismatch of an entry, by its rule
pub rule_mismatch : (input : ℕ) (tags : List TagFields) (type : ℕ) (entry : List ℕ) (rule : Rule) (found : Option Mismatch) → IsRuleOf entry rule
    → found ≡ mismatch_by input tags type rule.filter rule.ethertype → found ≡ mismatch input tags type entry
unfolding mismatch
rule_mismatch input tags type entry rule found means is =
    is ∙ ap (λ (f : Filter). mismatch_by input tags type f rule.ethertype) means.filter
    ∙ ap (λ (e : EthertypeFilter). mismatch_by input tags type (filter_of entry) e) means.ethertype

-- the mismatch of the entry at a place of a table
pub mismatch_there : (table : Table) (frame : Reading) (place input type : ℕ) (tags : List TagFields) (entries : List (List ℕ)) (rule : Rule) (found : Option Mismatch)
    → input ≡ table.settings.input_tpid → tags ≡ frame.tags → type ≡ type_at 0 frame.rest → entries ≡ table.entries
    → IsRuleOf (entry_at entries place) rule → found ≡ mismatch_by input tags type rule.filter rule.ethertype → found ≡ mismatch_at table frame place
mismatch_there table frame place input type tags entries rule found is_input is_tags is_type is_entries means is =
    rule_mismatch input tags type (entry_at entries place) rule found means is
    ∙ ap (λ (i : ℕ). mismatch i tags type (entry_at entries place)) is_input
    ∙ ap (λ (ts : List TagFields). mismatch table.settings.input_tpid ts type (entry_at entries place)) is_tags
    ∙ ap (λ (t : ℕ). mismatch table.settings.input_tpid frame.tags t (entry_at entries place)) is_type
    ∙ ap (λ (es : List (List ℕ)). mismatch table.settings.input_tpid frame.tags (type_at 0 frame.rest) (entry_at es place)) is_entries

-- ---- the entry that is told

first_told : (at : ℕ → Option Mismatch) (order : List ℕ) → told_used (tries at order) ≡ find (λ place. is_none (at place)) order
first_told at [] = refl
first_told at (place ∷ rest) = by_case (at place) (first_told at rest)
  where
    by_case : (found : Option Mismatch) → told_used (tries at rest) ≡ find (λ place. is_none (at place)) rest
        → told_used (tried place found (tries at rest)) ≡ (if is_none found then Some place else find (λ place. is_none (at place)) rest)
    by_case None others = refl
    by_case (Some field) others = others

-- two tests that agree find the same
find-same : (p q : ℕ → Bool) (order : List ℕ) → ((place : ℕ) → p place ≡ q place) → find p order ≡ find q order
find-same p q [] same = refl
find-same p q (place ∷ rest) same = rw (same place) (by_case (q place) (find-same p q rest same))
  where
    by_case : (b : Bool) → find p rest ≡ find q rest → (if b then Some place else find p rest) ≡ (if b then Some place else find q rest)
    by_case true others = refl
    by_case false others = others

used_told : (table : Table) (frame : Reading)
    → told_used (tries_of table frame) ≡ choice (matches table.settings.input_tpid frame.tags (type_at 0 frame.rest)) table.entries
unfolding tries_of
used_told table frame =
    let test = matches table.settings.input_tpid frame.tags (type_at 0 frame.rest) in
    first_told (mismatch_at table frame) (tried_order table.entries)
    ∙ find-same _ (λ place. test (entry_at table.entries place)) (tried_order table.entries)
    (λ place. none_where_matches table.settings.input_tpid frame.tags (type_at 0 frame.rest) (entry_at table.entries place))
    ∙ sym (chosen_first test table.entries)

pub tells_the_used : TellsTheUsed
tells_the_used = record { used = used_told }
