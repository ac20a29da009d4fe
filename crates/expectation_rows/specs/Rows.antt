-- A filter as rows that ask something of the fields of a frame, and the tags with which the frames of each are to leave.
use Rattle.std.specs.Prelude.{ℕ, Bool, true, false, not, ◌&&◌, List, [], ◌∷◌, ◌++◌, Option, Some, None}
use Rattle.tag_view.specs.Tag.{customer_tpid, is_tag_type, service_tpid}
use Rattle.vlan_rule.specs.declared.treatment.Retag.{Retag}
use Rattle.vlan_rule.specs.declared.treatment.Treatment.TheVariants as treatment
use Rattle.frame_meaning.specs.declared.reason.Reason.TheVariants.{NoMapper}
use Rattle.frame_rows.specs.declared.ask.Ask.{Ask}
use Rattle.frame_rows.specs.declared.ask.Ask.TheVariants.{Any, Exactly, Between, NoTagType, Ethertype}
use Rattle.frame_rows.specs.declared.class.Use.TheVariants.{Entry, NoEntry}
use Rattle.frame_rows.specs.declared.class.Ending.{Ending}
use Rattle.frame_rows.specs.declared.class.Ending.TheVariants.{Gem, Dropped}
use Rattle.frame_rows.specs.declared.row.Ends.TheVariants as ends
use Rattle.frame_rows.specs.declared.row.Row.{Row}
use Rattle.frame_rows.specs.declared.source.Source.{Source}
use Rattle.frame_rows.specs.declared.source.Source.TheVariants.{Fixed, Dscp}
use Rattle.frame_rows.specs.Ask.{priority_ask, vid_ask}
use Rattle.frame_rows.specs.Field.{counted_length}
use Rattle.frame_rows.specs.Row.{keep}
use Rattle.frame_rows.specs.Rows.{marking_of}
use Rattle.frame_expectation.specs.declared.filter.TypeCondition.{TypeCondition}
use Rattle.frame_expectation.specs.declared.filter.TypeCondition.TheVariants as type
use Rattle.frame_expectation.specs.declared.filter.FrameFilter.{FrameFilter}
use Rattle.frame_expectation.specs.Filter.{asks_nothing, is_number}
use Rattle.expectation_rows.specs.declared.filter.Asked.{Asked}
use Rattle.expectation_rows.specs.Only.{only_map}
use Rattle.expectation_rows.specs.Wanted.{retag_for}

-- ---- what is asked

-- of the type behind fewer than two tags, and behind two, where no type begins a tag
abbrev pub type_ask : ℕ → TypeCondition → Ask
type_ask input (type.Class class) = NoTagType input class
type_ask input (type.Exactly only) = Exactly only

abbrev pub third_ask : TypeCondition → Ask
third_ask (type.Class class) = Ethertype class
third_ask (type.Exactly only) = Exactly only

-- of the drop eligible indicator, 0 or 1
abbrev pub eligible_ask : Option Bool → Ask
eligible_ask None = Any
eligible_ask (Some true) = Exactly 1
eligible_ask (Some false) = Exactly 0

-- of frames without a tag, with one of this TPID, and with two
abbrev pub none_asks : FrameFilter → ℕ → List Ask
none_asks filter input =
    Between 14 counted_length ∷ type_ask input filter.ethertype ∷ Any ∷ Any ∷ Any ∷ Any ∷ Any ∷ Any ∷ Any ∷ Any ∷ Any ∷ []

abbrev pub one_asks : FrameFilter → ℕ → ℕ → List Ask
one_asks filter input tpid =
    Between 18 counted_length ∷ Exactly tpid ∷ type_ask input filter.ethertype ∷ Any
    ∷ vid_ask filter.inner.vid ∷ Any ∷ Any ∷ priority_ask filter.inner.priority ∷ Any
    ∷ eligible_ask filter.inner.eligible ∷ Any ∷ []

abbrev pub two_asks : FrameFilter → ℕ → ℕ → List Ask
two_asks filter outer inner =
    Between 22 counted_length ∷ Exactly outer ∷ Exactly inner ∷ third_ask filter.ethertype
    ∷ vid_ask filter.outer.vid ∷ vid_ask filter.inner.vid ∷ Any ∷ priority_ask filter.outer.priority ∷ priority_ask filter.inner.priority
    ∷ eligible_ask filter.outer.eligible ∷ eligible_ask filter.inner.eligible ∷ []

-- ---- how frames end

-- those of priority 1 and 2 are admitted; that of 2 is no GEM port of the rows of the port
abbrev pub endings : List Ending
endings =
    Dropped NoMapper ∷ Gem 0 ∷ Gem 2 ∷ Dropped NoMapper ∷ Dropped NoMapper ∷ Dropped NoMapper ∷ Dropped NoMapper ∷ Dropped NoMapper ∷ []

-- all of so many tags have the priority; or where a DSCP is asked for those that have it
abbrev pub source_by : Option ℕ → ℕ → ℕ → Source
source_by None tags priority = Fixed priority
source_by (Some dscp) tags priority = Dscp (record { tags = tags; map = record { 0 = only_map dscp priority }; without = 0 })

abbrev pub priority_for : Option Retag → ℕ
priority_for (Some retag) = 1
priority_for None = 2

abbrev pub retag_or_keep : Option Retag → Retag
retag_or_keep (Some retag) = retag
retag_or_keep None = keep

-- ---- rows

-- of frames with so many tags, which are to leave so
abbrev pub row_with : Asked → Option Retag → ℕ → List Ask → Row
row_with asked retag tags asks =
    record {
      used = Entry 0;
      ends = ends.ByPriority (source_by asked.filter.dscp tags (priority_for retag));
      asks = asks;
      tags = tags;
      retag = retag_or_keep retag;
      marking = marking_of (treatment.Retag (retag_or_keep retag)) asked.settings tags;
    }

-- whose outer and inner tag have these TPIDs
abbrev pub filter_row : Asked → ℕ → ℕ → ℕ → List Ask → Row
filter_row asked outer inner tags asks = row_with asked (retag_for asked.treatment asked.settings outer inner) tags asks

abbrev pub none_row : Asked → Row
none_row asked = filter_row asked customer_tpid customer_tpid 0 (none_asks asked.filter asked.settings.input_tpid)

abbrev pub one_row : Asked → ℕ → Row
one_row asked tpid = filter_row asked tpid tpid 1 (one_asks asked.filter asked.settings.input_tpid tpid)

abbrev pub two_row : Asked → ℕ → ℕ → Row
two_row asked outer inner = filter_row asked outer inner 2 (two_asks asked.filter outer inner)

-- that of all frames
abbrev pub last_row : Row
last_row =
    record {
      used = NoEntry;
      ends = ends.Dropped NoMapper;
      asks = Any ∷ Any ∷ Any ∷ Any ∷ Any ∷ Any ∷ Any ∷ Any ∷ Any ∷ Any ∷ Any ∷ [];
      tags = 0;
      retag = keep;
      marking = None;
    }

-- ---- which are offered

-- a type that begins a tag doesn't stand behind fewer than two
abbrev pub may_stand : ℕ → TypeCondition → Bool
may_stand input (type.Class class) = true
may_stand input (type.Exactly only) = not (is_tag_type input only)

-- frames without a tag, with one, and with two may be meant: of a tag that they lack nothing is asked
abbrev pub may_have_none : Asked → Bool
may_have_none asked =
    is_number asked.filter.tags 0
    && (asks_nothing asked.filter.outer && (asks_nothing asked.filter.inner && may_stand asked.settings.input_tpid asked.filter.ethertype))

abbrev pub may_have_one : Asked → ℕ → Bool
may_have_one asked tpid =
    is_number asked.filter.tags 1
    && (asks_nothing asked.filter.outer && (is_number asked.filter.inner.tpid tpid && may_stand asked.settings.input_tpid asked.filter.ethertype))

abbrev pub may_have_two : Asked → ℕ → ℕ → Bool
may_have_two asked outer inner =
    is_number asked.filter.tags 2 && (is_number asked.filter.outer.tpid outer && is_number asked.filter.inner.tpid inner)

abbrev pub offered : Bool → Row → List Row
offered true row = row ∷ []
offered false row = []

-- those of each type that begins a tag
abbrev pub of_each : ℕ → (ℕ → List Row) → List Row
of_each input rows = rows customer_tpid ++ (rows service_tpid ++ rows input)

abbrev pub none_rows : Asked → List Row
none_rows asked = offered (may_have_none asked) (none_row asked)

abbrev pub rows_with_one : Asked → ℕ → List Row
rows_with_one asked tpid = offered (may_have_one asked tpid) (one_row asked tpid)

abbrev pub rows_with_two : Asked → ℕ → ℕ → List Row
rows_with_two asked outer inner = offered (may_have_two asked outer inner) (two_row asked outer inner)

abbrev pub one_rows : Asked → List Row
one_rows asked = of_each asked.settings.input_tpid (rows_with_one asked)

abbrev pub two_rows : Asked → List Row
two_rows asked = of_each asked.settings.input_tpid (λ outer. of_each asked.settings.input_tpid (rows_with_two asked outer))

abbrev pub filter_rows : Asked → List Row
filter_rows asked = none_rows asked ++ (one_rows asked ++ two_rows asked)

abbrev pub here_rows : Asked → List Row
here_rows asked = filter_rows asked ++ (last_row ∷ [])
