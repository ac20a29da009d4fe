-- Which entry of a table is used for a frame (ITU-T G.988, 9.3.13). A frame is here the input TPID,
-- its tags, the outermost first, and the type behind them.
use Rattle.std.specs.Prelude.{◌≡◌, ◌<◌, ℕ, Bool, true, false, not, ◌&&◌, ◌||◌, List, [], ◌∷◌, Option, Some, None, ◌==◌, nat_lt, length, slice_index_or}
use Rattle.std.specs.List.{position}
use Rattle.std.specs.Option.{option_or}
use Rattle.tag_view.specs.Tag.{TagFields, customer_tpid}
use Rattle.vlan_rule.specs.declared.filter.PriorityFilter.{PriorityFilter}
use Rattle.vlan_rule.specs.declared.filter.PriorityFilter.TheVariants as priority
use Rattle.vlan_rule.specs.declared.filter.VidFilter.{VidFilter}
use Rattle.vlan_rule.specs.declared.filter.VidFilter.TheVariants as vid
use Rattle.vlan_rule.specs.declared.filter.TpidFilter.{TpidFilter}
use Rattle.vlan_rule.specs.declared.filter.TpidFilter.TheVariants as tpid
use Rattle.vlan_rule.specs.declared.filter.EthertypeFilter.{EthertypeFilter}
use Rattle.vlan_rule.specs.declared.filter.EthertypeFilter.TheVariants as ethertype
use Rattle.vlan_rule.specs.declared.filter.TagFilter.{TagFilter}
use Rattle.vlan_rule.specs.declared.filter.Filter.{Filter}
use Rattle.vlan_rule.specs.declared.filter.Filter.TheVariants as filter
use Rattle.vlan_rule.specs.declared.rank.Rank.{Rank}
use Rattle.vlan_rule.specs.declared.rank.Rank.TheVariants.{Ordinary, Default, Predefined}
use Rattle.vlan_rule.specs.Meaning.{ethertype_of, filter_of, rank_number, rank_of}

-- ---- which entries match

abbrev pub has_priority : PriorityFilter → TagFields → Bool
has_priority priority.Any tag = true
has_priority (priority.Exactly p) tag = tag.pcp == p

abbrev pub has_vid : VidFilter → TagFields → Bool
has_vid vid.Any tag = true
has_vid (vid.Exactly v) tag = tag.vid == v

abbrev pub has_tpid : ℕ → TpidFilter → TagFields → Bool
has_tpid input tpid.Any tag = true
has_tpid input tpid.Standard tag = tag.tpid == customer_tpid
has_tpid input tpid.Input tag = tag.tpid == input
has_tpid input tpid.InputNotEligible tag = tag.tpid == input && not tag.dei
has_tpid input tpid.InputEligible tag = tag.tpid == input && tag.dei

abbrev pub has_type : EthertypeFilter → ℕ → Bool
has_type ethertype.Any type = true
has_type ethertype.Ipv4 type = type == 0x0800
has_type ethertype.Pppoe type = type == 0x8863 || type == 0x8864
has_type ethertype.Arp type = type == 0x0806
has_type ethertype.Ipv6 type = type == 0x86DD
has_type ethertype.Eapol type = type == 0x888E

-- a tag is as the filter asks
abbrev pub is_tag : ℕ → TagFilter → TagFields → Bool
is_tag input f tag = has_priority f.priority tag && (has_vid f.vid tag && has_tpid input f.tpid tag)

-- the first of the tags is as the filter asks
abbrev pub is_outer : ℕ → TagFilter → List TagFields → Bool
is_outer input f [] = false
is_outer input f (tag ∷ rest) = is_tag input f tag

-- the last of the tags is as the filter asks
abbrev pub is_inner : ℕ → TagFilter → List TagFields → Bool
is_inner input f [] = false
is_inner input f (tag ∷ []) = is_tag input f tag
is_inner input f (tag ∷ next ∷ rest) = is_inner input f (next ∷ rest)

-- there are as many tags as the kind asks, and the filters that count hold
abbrev pub are_tags : ℕ → Filter → List TagFields → Bool
are_tags input filter.NoTag tags = length tags == 0
are_tags input filter.OneTagDefault tags = length tags == 1
are_tags input (filter.OneTag inner) tags = length tags == 1 && is_inner input inner tags
are_tags input filter.TwoTagDefault tags = length tags == 2
are_tags input (filter.TwoTag outer inner) tags = length tags == 2 && (is_outer input outer tags && is_inner input inner tags)

unfoldable pub matches : ℕ → List TagFields → ℕ → List ℕ → Bool
matches input tags type entry = are_tags input (filter_of entry) tags && has_type (ethertype_of entry) type

-- ---- which of them is used

abbrev pub entry_at : List (List ℕ) → ℕ → List ℕ
entry_at entries i = slice_index_or entries i []

-- the number of the rank of the entry at a place
abbrev pub rank_at : List (List ℕ) → ℕ → ℕ
rank_at entries i = rank_number (rank_of (entry_at entries i))

-- the pair of rank and place of i is smaller than that of j
abbrev pub is_before : List (List ℕ) → ℕ → ℕ → Bool
is_before entries i j = nat_lt (rank_at entries i) (rank_at entries j) || (rank_at entries i == rank_at entries j && nat_lt i j)

-- the entry at place i passes the test, and none that passes it has a smaller pair of rank and place
pub record IsChosen (test : List ℕ → Bool) (entries : List (List ℕ)) (i : ℕ) : Type 0 where
  pub in_range : i < length entries
  pub passes : test (entry_at entries i) ≡ true
  pub least : (j : ℕ) → j < length entries → test (entry_at entries j) ≡ true → is_before entries j i ≡ false

-- no entry passes the test
abbrev pub NonePasses : (List ℕ → Bool) → List (List ℕ) → Type 0
NonePasses test entries = (j : ℕ) → j < length entries → test (entry_at entries j) ≡ false

-- the place of the entry that is used, or None where none passes the test
abbrev pub IsChoice : (List ℕ → Bool) → List (List ℕ) → Option ℕ → Type 0
IsChoice test entries None = NonePasses test entries
IsChoice test entries (Some i) = IsChosen test entries i

-- ---- the same, computed

-- the place of the first entry of a rank that passes the test
abbrev pub first_of : Rank → (List ℕ → Bool) → List (List ℕ) → Option ℕ
first_of rank test entries = position (λ e. rank_number (rank_of e) == rank_number rank && test e) entries

-- the place of the entry that is used: the first of the least rank
unfoldable pub choice : (List ℕ → Bool) → List (List ℕ) → Option ℕ
choice test entries = option_or (first_of Ordinary test entries) (option_or (first_of Default test entries) (first_of Predefined test entries))

-- ---- law

-- at most one place is chosen, and none exactly where no entry matches; it is the one that is computed
pub record ChosenOnce : Type 0 where
  pub at_most_one : (input : ℕ) (tags : List TagFields) (type : ℕ) (entries : List (List ℕ)) (i j : ℕ)
      → IsChosen (matches input tags type) entries i → IsChosen (matches input tags type) entries j → i ≡ j
  pub one : (input : ℕ) (tags : List TagFields) (type : ℕ) (entries : List (List ℕ)) (i : ℕ)
      → i < length entries → matches input tags type (entry_at entries i) ≡ true → (k : ℕ) × IsChosen (matches input tags type) entries k
  pub none : (input : ℕ) (tags : List TagFields) (type : ℕ) (entries : List (List ℕ)) (i : ℕ)
      → NonePasses (matches input tags type) entries → ¬ IsChosen (matches input tags type) entries i
  pub computed : (input : ℕ) (tags : List TagFields) (type : ℕ) (entries : List (List ℕ))
      → IsChoice (matches input tags type) entries (choice (matches input tags type) entries)
