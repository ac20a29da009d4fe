-- For which reason all frames of a port are dropped (ITU-T G.988, clauses 9.3.13, 9.3.10, 9.2.4 and 9.2.3).
use Rattle.std.specs.Prelude.{ℕ, Bool, true, false, ◌||◌, List, [], ◌∷◌, Option, Some, None, Result, Ok, Err, if◌then◌else◌, ◌==◌, find, is_err, is_some, map}
use Rattle.std.specs.List.{list_all}
use Rattle.vlan_rule.specs.declared.treatment.Treatment.{Treatment}
use Rattle.vlan_rule.specs.declared.treatment.Treatment.TheVariants as treatment
use Rattle.vlan_rule.specs.Meaning.{treatment_of}
use Rattle.vlan_rule.specs.Choice.{entry_at}
use Rattle.managed_entity.specs.Instance.{Instance}
use Rattle.mib_state.specs.Entities.{Entities}
use Rattle.frame_meaning.specs.declared.reason.Reason.{Reason}
use Rattle.frame_meaning.specs.declared.reason.Reason.TheVariants.{NoRule, RuleDiscard, NoMapper, NullPointer, NoInterwork, NoGem, Direction}
use Rattle.frame_meaning.specs.Reason.{number_of_reason}
use Rattle.frame_meaning.specs.Meaning.{Table, gem_port_of, mapper_at, table_at}
use Rattle.explain.specs.Order.{tried_order}
use Rattle.explain.specs.Covers.{shadow_of}
use Rattle.explain_findings.specs.Reach.{priorities}
use Rattle.explain_findings.specs.declared.finding.Finding.{Finding}
use Rattle.explain_findings.specs.declared.finding.Finding.TheVariants as finding

-- ---- by its table

abbrev pub is_discard : Treatment → Bool
is_discard treatment.Discard = true
is_discard (treatment.Retag retag) = false

-- the entry at a place lets no frame through: it discards, or it is never used
abbrev pub lets_none : List (List ℕ) → ℕ → Bool
lets_none entries place = is_discard (treatment_of (entry_at entries place)) || is_some (shadow_of entries place)

-- no entry of the table lets a frame through
unfoldable pub discards_all : List (List ℕ) → Bool
discards_all entries = list_all (lets_none entries) (tried_order entries)

-- why a table with these entries drops each frame, if it does
abbrev pub entries_reason : List (List ℕ) → Option Reason
entries_reason [] = Some NoRule
entries_reason (entry ∷ rest) = if discards_all (entry ∷ rest) then Some RuleDiscard else None

abbrev pub table_reason : Option Table → Option Reason
table_reason None = None
table_reason (Some table) = entries_reason table.entries

-- ---- by its mapper

-- the GEM port of each priority of a mapper, or why there is none
abbrev pub routes : Entities → Instance → List (Result ℕ Reason)
routes e mapper = map (gem_port_of e mapper) priorities

-- there is no GEM port, for this reason
abbrev pub lacks_by : Reason → Result ℕ Reason → Bool
lacks_by reason (Ok id) = false
lacks_by reason (Err other) = number_of_reason other == number_of_reason reason

-- the reason for which no priority has a GEM port
abbrev pub common_reason : List (Result ℕ Reason) → Option Reason
common_reason routes = find (λ reason. list_all (lacks_by reason) routes) (NullPointer ∷ NoInterwork ∷ NoGem ∷ Direction ∷ [])

-- what is found of a port by the routes of its mapper, and by the reason that they have in common
abbrev pub by_common : ℕ → List (Result ℕ Reason) → Option Reason → Option Finding
by_common port routes (Some reason) = Some (finding.PortDrops port reason)
by_common port routes None = if list_all is_err routes then Some (finding.PortCarriesNone port) else None

abbrev pub uncarried : ℕ → List (Result ℕ Reason) → Option Finding
uncarried port routes = by_common port routes (common_reason routes)

-- ---- both

abbrev pub port_drops_by : Entities → ℕ → Option Reason → Option Instance → Option Finding
port_drops_by e port (Some reason) mapper = Some (finding.PortDrops port reason)
port_drops_by e port None None = Some (finding.PortDrops port NoMapper)
port_drops_by e port None (Some mapper) = uncarried port (routes e mapper)

-- whether all frames of a port are dropped, and for which reason
unfoldable pub port_drops : Entities → ℕ → Option Finding
port_drops e port = port_drops_by e port (table_reason (table_at e port)) (mapper_at e port)
