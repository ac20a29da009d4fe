-- The attributes of each class of managed entities (ITU-T G.988, clause 9), as data. Attribute n of a class stands at
-- place n - 1 of the list.
use Rattle.std.specs.Prelude.{ℕ, suc, zero, Bool, true, false, ◌&&◌, ◌||◌, List, [], ◌∷◌, Option, Some, None, is_some, unwrap_or, if◌then◌else◌, ◌==◌, codes}
use Rattle.byteorder.specs.Endian.{big_bytes}
use Rattle.tag_view.specs.Tag.{customer_tpid}
use Rattle.vlan_rule.specs.Table.{predefined, table_max_size}
use Rattle.managed_entity.specs.declared.attribute.Access.{Access}
use Rattle.managed_entity.specs.declared.attribute.Access.TheVariants.{SetByCreate, Writable, ReadOnly, Table}
use Rattle.managed_entity.specs.declared.attribute.Attribute.{Attribute}
use Rattle.managed_entity.specs.declared.class.Class.{Class}
use Rattle.managed_entity.specs.declared.class.Class.TheVariants.{OnuData, Mapper, Vlan, Interwork, GemPort}

-- ---- who may write an attribute

abbrev pub is_set_by_create : Access → Bool
is_set_by_create SetByCreate = true
is_set_by_create Writable = false
is_set_by_create ReadOnly = false
is_set_by_create Table = false

abbrev pub is_read_only : Access → Bool
is_read_only SetByCreate = false
is_read_only Writable = false
is_read_only ReadOnly = true
is_read_only Table = false

abbrev pub is_table : Access → Bool
is_table SetByCreate = false
is_table Writable = false
is_table ReadOnly = false
is_table Table = true

-- ---- an attribute, by its number of bytes

-- given at Create, and writable
abbrev pub set_by_create : ℕ → Attribute
set_by_create n = record { width = n; access = SetByCreate; initial = 0 }

-- writable, with its value after Create
abbrev pub writable : ℕ → ℕ → Attribute
writable n value = record { width = n; access = Writable; initial = value }

-- read only, with its value
abbrev pub read_only : ℕ → ℕ → Attribute
read_only n value = record { width = n; access = ReadOnly; initial = value }

-- a table of entries, of which a Set writes one of 16 bytes
abbrev pub table : Attribute
table = record { width = 16; access = Table; initial = 0 }

-- ---- the classes

-- ONU data (clause 9.1.3)
abbrev pub onu_data_layout : List Attribute
onu_data_layout =
    writable 1 0  -- 1 MIB data sync
    ∷ []

-- 802.1p mapper service profile (clause 9.3.10)
abbrev pub mapper_layout : List Attribute
mapper_layout =
    set_by_create 2  -- 1 TP pointer
    ∷ set_by_create 2  -- 2 interwork TP pointer for P-bit priority 0
    ∷ set_by_create 2  -- 3 for 1
    ∷ set_by_create 2  -- 4 for 2
    ∷ set_by_create 2  -- 5 for 3
    ∷ set_by_create 2  -- 6 for 4
    ∷ set_by_create 2  -- 7 for 5
    ∷ set_by_create 2  -- 8 for 6
    ∷ set_by_create 2  -- 9 for 7
    ∷ set_by_create 1  -- 10 unmarked frame option
    ∷ writable 24 0  -- 11 DSCP to P-bit mapping
    ∷ set_by_create 1  -- 12 default P-bit assumption
    ∷ set_by_create 1  -- 13 TP type
    ∷ []

-- extended VLAN tagging operation configuration data (clause 9.3.13)
abbrev pub vlan_layout : List Attribute
vlan_layout =
    set_by_create 1  -- 1 association type
    ∷ read_only 2 table_max_size  -- 2 received frame VLAN tagging operation table max size, in entries
    ∷ writable 2 customer_tpid  -- 3 input TPID
    ∷ writable 2 customer_tpid  -- 4 output TPID
    ∷ writable 1 0  -- 5 downstream mode
    ∷ table  -- 6 received frame VLAN tagging operation table
    ∷ set_by_create 2  -- 7 associated ME pointer
    ∷ writable 24 0  -- 8 DSCP to P-bit mapping
    ∷ []

-- GEM interworking termination point (clause 9.2.4)
abbrev pub interwork_layout : List Attribute
interwork_layout =
    set_by_create 2  -- 1 GEM port network CTP connectivity pointer
    ∷ set_by_create 1  -- 2 interworking option
    ∷ set_by_create 2  -- 3 service profile pointer
    ∷ set_by_create 2  -- 4 interworking termination point pointer
    ∷ read_only 1 0  -- 5 PPTP counter
    ∷ read_only 1 0  -- 6 operational state
    ∷ set_by_create 2  -- 7 GAL profile pointer
    ∷ writable 1 0  -- 8 GAL loopback configuration
    ∷ []

-- GEM port network CTP (clause 9.2.3)
abbrev pub gem_port_layout : List Attribute
gem_port_layout =
    set_by_create 2  -- 1 port-ID
    ∷ set_by_create 2  -- 2 T-CONT pointer
    ∷ set_by_create 1  -- 3 direction
    ∷ set_by_create 2  -- 4 traffic management pointer for upstream
    ∷ set_by_create 2  -- 5 traffic descriptor profile pointer for upstream
    ∷ read_only 1 0  -- 6 UNI counter
    ∷ set_by_create 2  -- 7 priority queue pointer for downstream
    ∷ read_only 1 0  -- 8 encryption state
    ∷ set_by_create 2  -- 9 traffic descriptor profile pointer for downstream
    ∷ set_by_create 1  -- 10 encryption key ring
    ∷ []

-- the attributes of the class of a number
abbrev pub layout_of : ℕ → Option (List Attribute)
layout_of class =
    if class == 2 then Some onu_data_layout
    else (if class == 130 then Some mapper_layout
    else (if class == 171 then Some vlan_layout
    else (if class == 266 then Some interwork_layout
    else (if class == 268 then Some gem_port_layout else None))))

-- whether there is such a class; an action on any other is answered "unknown managed entity"
abbrev pub is_known : ℕ → Bool
is_known class = is_some (layout_of class)

-- whether a line terminal creates its instances: ONU data has the one that is always there
abbrev pub is_created : ℕ → Bool
is_created class = class == 130 || class == 171 || class == 266 || class == 268

-- its attributes, none where there is no such class
abbrev pub attributes_of : ℕ → List Attribute
attributes_of class = unwrap_or (layout_of class) []

-- how many instances of a class there may be
abbrev pub room_of : ℕ → ℕ
room_of class =
    if class == 2 then 1
    else (if class == 130 then 32
    else (if class == 171 then 16
    else (if class == 266 then 256
    else (if class == 268 then 256 else 0))))

-- ---- the classes by name

-- the number of a class
abbrev pub class_number : Class → ℕ
class_number OnuData = 2
class_number Mapper = 130
class_number Vlan = 171
class_number Interwork = 266
class_number GemPort = 268

-- the short word of a class
abbrev pub class_word : Class → List ℕ
class_word OnuData = codes "onu-data"
class_word Mapper = codes "mapper"
class_word Vlan = codes "vlan"
class_word Interwork = codes "interwork"
class_word GemPort = codes "gem-port"

abbrev pub mapper_class : ℕ
mapper_class = class_number Mapper

abbrev pub vlan_class : ℕ
vlan_class = class_number Vlan

-- the class of a number, if it is known
abbrev pub class_of : ℕ → Option Class
class_of number =
    if number == 2 then Some OnuData
    else (if number == 130 then Some Mapper
    else (if number == 171 then Some Vlan
    else (if number == 266 then Some Interwork
    else (if number == 268 then Some GemPort else None))))

-- ---- what Create isn't given

-- whether one of the attributes is a table
abbrev pub has_table : List Attribute → Bool
has_table [] = false
has_table (a ∷ rest) = if is_table a.access then true else has_table rest

-- a Set writes one entry of 16 bytes of each table
abbrev pub tables_fit : List Attribute → Bool
tables_fit [] = true
tables_fit (a ∷ rest) = (if is_table a.access then a.width == 16 else true) && tables_fit rest

-- the entries of the table, which begins with its predefined ones
abbrev pub initial_entries : List Attribute → List (List ℕ)
initial_entries layout = if has_table layout then predefined else []

-- the bytes of an attribute, none of a table
abbrev pub initial_value : Attribute → List ℕ
initial_value a = if is_table a.access then [] else big_bytes a.width a.initial

-- ---- the attribute at a place

-- its number of bytes
abbrev pub width_at : List Attribute → ℕ → ℕ
width_at [] place = 0
width_at (a ∷ rest) zero = a.width
width_at (a ∷ rest) (suc place) = width_at rest place

-- whether it is the table
abbrev pub table_at : List Attribute → ℕ → Bool
table_at [] place = false
table_at (a ∷ rest) zero = is_table a.access
table_at (a ∷ rest) (suc place) = table_at rest place

-- whether it is read only
abbrev pub read_only_at : List Attribute → ℕ → Bool
read_only_at [] place = false
read_only_at (a ∷ rest) zero = is_read_only a.access
read_only_at (a ∷ rest) (suc place) = read_only_at rest place
