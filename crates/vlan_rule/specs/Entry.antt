-- An entry of the received frame VLAN tagging operation table (ITU-T G.988, 9.3.13), as the list of
-- its 16 bytes: its fields, its kind, and why it is refused.
use Rattle.std.specs.Prelude.{◌<◌, ◌≤◌, ℕ, ◌+◌, ◌-◌, ◌*◌, ◌/◌, ◌%◌, ◌^◌, Bool, true, false, not, ◌&&◌, ◌||◌, List, [], ◌∷◌, ◌++◌, Option, Some, None, if◌then◌else◌, ◌==◌, nat_lt, nat_le}
use Rattle.std.specs.Int.{is_in_range, to_be_bytes, w64}
use Rattle.std.specs.List.{list_any}
use Rattle.std.specs.Option.{option_or}
use Rattle.byteorder.specs.Endian.{big_number}
use Rattle.vlan_rule.specs.declared.layout.Field.{Field}
use Rattle.vlan_rule.specs.declared.layout.TagCodes.{TagCodes}
use Rattle.vlan_rule.specs.declared.layout.TagLayout.{TagLayout}
use Rattle.vlan_rule.specs.declared.fault.RuleFault.{RuleFault}
use Rattle.vlan_rule.specs.declared.fault.RuleFault.TheVariants.{Priority, Mixed, Vid, Tpid, Ethertype, TreatPriority, TreatVid, TreatTpid}
use Rattle.vlan_rule.specs.declared.kind.Kind.{Kind}
use Rattle.vlan_rule.specs.declared.kind.Kind.TheVariants.{NoTag, OneTagDefault, OneTag, TwoTagDefault, TwoTag}

-- the key of an entry: the number in its first eight bytes, padding among them
unfoldable pub key_of : List ℕ → ℕ
key_of entry = big_number 8 entry

-- an entry by its first eight and its last eight bytes, each as a number
abbrev pub entry_of : ℕ → ℕ → List ℕ
entry_of key rest = to_be_bytes w64 key ++ to_be_bytes w64 rest

-- ---- fields

-- the entry's number of 128 bits
unfoldable pub number_of : List ℕ → ℕ
number_of entry = big_number 16 entry

-- the field in the bits high to low of a word; words are counted from 1, and bit 31 is a word's highest
abbrev pub bits : ℕ → ℕ → ℕ → Field
bits word high low = record { word = word; high = high; low = low }

-- the value of a field: the entry's number without the bits below it, and of that the field's width
unfoldable pub value_of : Field → List ℕ → ℕ
value_of at entry = number_of entry / 2 ^ (32 * (4 - at.word) + at.low) % 2 ^ (at.high + 1 - at.low)

-- the field lies within one of the four words, and has 16 bits at most
pub record IsField (at : Field) : Type 0 where
  pub first : 1 ≤ at.word
  pub last : at.word ≤ 4
  pub ordered : at.low ≤ at.high
  pub high : at.high < 32
  pub narrow : at.high < at.low + 16

-- where the priority, the VID and the TPID/DE of one filter or treatment lie
abbrev pub fields : Field → Field → Field → TagLayout
fields priority vid tpid = record { priority = priority; vid = vid; tpid = tpid }

-- the three fields lie so, and the priority and the TPID/DE have 8 bits at most
pub record IsTagLayout (at : TagLayout) : Type 0 where
  pub priority : IsField at.priority
  pub short_priority : at.priority.high < at.priority.low + 8
  pub vid : IsField at.vid
  pub tpid : IsField at.tpid
  pub short_tpid : at.tpid.high < at.tpid.low + 8

abbrev pub filter_outer : TagLayout
filter_outer = fields (bits 1 31 28) (bits 1 27 15) (bits 1 14 12)

abbrev pub filter_inner : TagLayout
filter_inner = fields (bits 2 31 28) (bits 2 27 15) (bits 2 14 12)

abbrev pub filter_ethertype : Field
filter_ethertype = bits 2 3 0

abbrev pub tags_to_remove : Field
tags_to_remove = bits 3 31 30

abbrev pub treatment_outer : TagLayout
treatment_outer = fields (bits 3 19 16) (bits 3 15 3) (bits 3 2 0)

abbrev pub treatment_inner : TagLayout
treatment_inner = fields (bits 4 19 16) (bits 4 15 3) (bits 4 2 0)

-- the codes that an entry has in the three fields of a filter or a treatment
abbrev pub codes_of : TagLayout → List ℕ → TagCodes
codes_of at entry = record { priority = value_of at.priority entry; vid = value_of at.vid entry; tpid = value_of at.tpid entry }

-- ---- kinds

-- the kind that an outer and an inner filter priority stand for, the first that holds; the last is
-- that of two priorities of 0 to 8, since the others are refused
abbrev pub kind_by : ℕ → ℕ → Kind
kind_by outer inner =
    if inner == 15 then NoTag
    else (if outer == 15 && inner == 14 then OneTagDefault
    else (if outer == 15 then OneTag
    else (if outer == 14 then TwoTagDefault
    else TwoTag)))

unfoldable pub kind_of : List ℕ → Kind
kind_of entry = kind_by (value_of filter_outer.priority entry) (value_of filter_inner.priority entry)

-- whether the filters of the outer tag count
abbrev pub outer_counts : Kind → Bool
outer_counts NoTag = false
outer_counts OneTagDefault = false
outer_counts OneTag = false
outer_counts TwoTagDefault = false
outer_counts TwoTag = true

-- whether the filters of the inner tag count
abbrev pub inner_counts : Kind → Bool
inner_counts NoTag = false
inner_counts OneTagDefault = false
inner_counts OneTag = true
inner_counts TwoTagDefault = false
inner_counts TwoTag = true

-- the codes of the filters that count, the outer tag's first
abbrev pub counted : Kind → List ℕ → List TagCodes
counted kind entry =
    (if outer_counts kind then codes_of filter_outer entry ∷ [] else [])
    ++ (if inner_counts kind then codes_of filter_inner entry ∷ [] else [])

abbrev pub filters_of : List ℕ → List TagCodes
filters_of entry = counted (kind_of entry) entry

-- ---- treatments

-- whether the frame is dropped
abbrev pub discards : List ℕ → Bool
discards entry = value_of tags_to_remove entry == 3

-- the codes of a treatment that adds a tag
abbrev pub added : TagCodes → List TagCodes
added codes = if codes.priority == 15 then [] else codes ∷ []

-- the codes of the tags that are added, the outer tag's first
abbrev pub additions_of : List ℕ → List TagCodes
additions_of entry =
    if discards entry then []
    else added (codes_of treatment_outer entry) ++ added (codes_of treatment_inner entry)

-- ---- refusals

-- an inner filter priority of 9 to 13, or an outer one where the inner isn't 15
abbrev pub bad_priorities : ℕ → ℕ → Bool
bad_priorities outer inner = is_in_range 9 13 inner || (is_in_range 9 13 outer && not (inner == 15))

-- an outer filter priority of 0 to 8 with an inner one of 14
abbrev pub mixed_priorities : ℕ → ℕ → Bool
mixed_priorities outer inner = nat_le outer 8 && inner == 14

-- what is refused in the codes of a filter
abbrev pub has_bad_vid : TagCodes → Bool
has_bad_vid filter = nat_lt 4096 filter.vid

abbrev pub has_bad_tpid : TagCodes → Bool
has_bad_tpid filter = is_in_range 1 3 filter.tpid

-- what is refused in the codes of a tag that is added
abbrev pub adds_bad_priority : TagCodes → Bool
adds_bad_priority tag = is_in_range 11 14 tag.priority

abbrev pub adds_bad_vid : TagCodes → Bool
adds_bad_vid tag = tag.vid == 4095 || nat_lt 4097 tag.vid

abbrev pub adds_bad_tpid : TagCodes → Bool
adds_bad_tpid tag = tag.tpid == 5

-- why the filters are refused: the first that holds
abbrev pub filter_refusal : ℕ → ℕ → List TagCodes → ℕ → Option RuleFault
filter_refusal outer inner filters ethertype =
    if bad_priorities outer inner then Some Priority
    else (if mixed_priorities outer inner then Some Mixed
    else (if list_any has_bad_vid filters then Some Vid
    else (if list_any has_bad_tpid filters then Some Tpid
    else (if nat_lt 5 ethertype then Some Ethertype
    else None))))

-- why the tags that are added are refused: the first that holds
abbrev pub treatment_refusal : List TagCodes → Option RuleFault
treatment_refusal additions =
    if list_any adds_bad_priority additions then Some TreatPriority
    else (if list_any adds_bad_vid additions then Some TreatVid
    else (if list_any adds_bad_tpid additions then Some TreatTpid
    else None))

-- why an entry is refused: the first that holds, of the filters and then of the treatments
unfoldable pub refusal_of : List ℕ → Option RuleFault
refusal_of entry =
    option_or
    (filter_refusal (value_of filter_outer.priority entry) (value_of filter_inner.priority entry) (filters_of entry) (value_of filter_ethertype entry))
    (treatment_refusal (additions_of entry))

-- the number of a refusal
abbrev pub rule_fault_code : RuleFault → ℕ
rule_fault_code Priority = 1
rule_fault_code Mixed = 2
rule_fault_code Vid = 3
rule_fault_code Tpid = 4
rule_fault_code Ethertype = 5
rule_fault_code TreatPriority = 6
rule_fault_code TreatVid = 7
rule_fault_code TreatTpid = 8
