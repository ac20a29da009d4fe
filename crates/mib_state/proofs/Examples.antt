-- Worked examples, computed.
use Rattle.std.proofs.Common.{◌≡◌, ℕ, List, [], ◌∷◌, Some, None, true, refl}
use Rattle.omci_msg.specs.declared.Request.{Request}
use Rattle.omci_msg.specs.declared.Action.{Action}
use Rattle.omci_msg.specs.declared.Action.TheVariants.{Create, Get, GetNext}
use Rattle.vlan_rule.specs.Table.{predefined}
use Rattle.managed_entity.specs.Answer.{padded}
use Rattle.managed_entity.specs.Get.{get_contents}
use Rattle.managed_entity.specs.Instance.{Instance}
use Rattle.managed_entity.specs.Mask.{mask_of}
use Rattle.mib_state.specs.Attached.{table_of_port}
use Rattle.mib_state.specs.Entities.{Entities, State, nothing, unlatched}
use Rattle.mib_state.specs.Step.{step, create, create_in, get, get_next, part_of, part_contents, sequence_of}

-- the creation of instance 0x0401 of class 268, port id 1024, direction 3
first : Request
first = record { tci = 1; action = Create; wants_answer = true; class = 268; instance = 0x0401; contents = padded 32 (4 ∷ 0 ∷ 0x80 ∷ 1 ∷ 3 ∷ []) }

first_left : Entities
first_left = record {
  sync = 1;
  mappers = [];
  vlans = [];
  interworks = [];
  gem_ports = record { number = 0x0401; values = (4 ∷ 0 ∷ []) ∷ (0x80 ∷ 1 ∷ []) ∷ (3 ∷ []) ∷ (0 ∷ 0 ∷ []) ∷ (0 ∷ 0 ∷ []) ∷ (0 ∷ []) ∷ (0 ∷ 0 ∷ []) ∷ (0 ∷ []) ∷ (0 ∷ 0 ∷ []) ∷ (0 ∷ []) ∷ []; entries = [] } ∷ [];
}

first_done : step (unlatched nothing) first ≡ (record { tci = 1; action = Create; class = 268; instance = 0x0401; contents = padded 32 [] }, unlatched first_left)
unfolding first first_left create create_in
first_done = refl

-- a Get of everything: ten attributes are known, six are not
all : Request
all = record { tci = 4; action = Get; wants_answer = true; class = 268; instance = 0x0401; contents = padded 32 (0xff ∷ 0xff ∷ []) }

all_done : step (unlatched first_left) all ≡ (record { tci = 4; action = Get; class = 268; instance = 0x0401; contents = 9 ∷ 0xff ∷ 0xc0 ∷ 4 ∷ 0 ∷ 0x80 ∷ 1 ∷ 3 ∷ 0 ∷ 0 ∷ 0 ∷ 0 ∷ 0 ∷ 0 ∷ 0 ∷ 0 ∷ 0 ∷ 0 ∷ 0 ∷ 0 ∷ 0 ∷ 0 ∷ 0 ∷ 0 ∷ 0 ∷ 0 ∷ 0 ∷ 0 ∷ 0x00 ∷ 0x3f ∷ 0 ∷ 0 ∷ [] }, unlatched first_left)
unfolding first_left all get get_contents mask_of
all_done = refl

-- ---- a table that is latched, and read part by part

table_of : ℕ → ℕ → ℕ → ℕ → Instance
table_of number association high low = record {
  number = number;
  values = (association ∷ []) ∷ (0 ∷ 128 ∷ []) ∷ (0x81 ∷ 0 ∷ []) ∷ (0x81 ∷ 0 ∷ []) ∷ (0 ∷ []) ∷ [] ∷ (high ∷ low ∷ []) ∷ padded 24 [] ∷ [];
  entries = predefined;
}

with_tables : List Instance → Entities
with_tables tables = record nothing { vlans = tables }

asked : Action → ℕ → List ℕ → Request
asked action instance bytes = record { tci = 5; action = action; wants_answer = true; class = 171; instance = instance; contents = padded 32 bytes }

latching : State
latching = (step (unlatched (with_tables (table_of 0x0701 2 1 1 ∷ []))) (asked Get 0x0701 (4 ∷ 0 ∷ []))).1

next_of : ℕ → ℕ → List ℕ
next_of instance sequence = (step latching (asked GetNext instance (4 ∷ 0 ∷ 0 ∷ sequence ∷ []))).0.contents

-- a new table has 48 bytes: 29, and 19 with ten zeros behind them
first_part : next_of 0x0701 0 ≡ 0 ∷ 4 ∷ 0 ∷ 0xf0 ∷ 0 ∷ 0 ∷ 0 ∷ 0xf0 ∷ 0 ∷ 0 ∷ 0 ∷ 0 ∷ 0x0f ∷ 0 ∷ 0 ∷ 0 ∷ 0x0f ∷ 0 ∷ 0 ∷ 0xf0 ∷ 0 ∷ 0 ∷ 0 ∷ 0xe0 ∷ 0 ∷ 0 ∷ 0 ∷ 0 ∷ 0x0f ∷ 0 ∷ 0 ∷ 0 ∷ []
unfolding next_of latching asked with_tables table_of get_next part_of part_contents sequence_of mask_of
first_part = refl

last_part : next_of 0x0701 1 ≡ 0 ∷ 4 ∷ 0 ∷ 0x0f ∷ 0 ∷ 0 ∷ 0xe0 ∷ 0 ∷ 0 ∷ 0 ∷ 0xe0 ∷ 0 ∷ 0 ∷ 0 ∷ 0 ∷ 0x0f ∷ 0 ∷ 0 ∷ 0 ∷ 0x0f ∷ 0 ∷ 0 ∷ 0 ∷ 0 ∷ 0 ∷ 0 ∷ 0 ∷ 0 ∷ 0 ∷ 0 ∷ 0 ∷ 0 ∷ []
unfolding next_of latching asked with_tables table_of get_next part_of part_contents sequence_of mask_of
last_part = refl

-- there is no third part, and no part of another instance
no_more : next_of 0x0701 2 ≡ padded 32 (3 ∷ [])
unfolding next_of latching asked with_tables table_of get_next part_of part_contents sequence_of mask_of
no_more = refl

absent : next_of 0x0702 0 ≡ padded 32 (5 ∷ [])
unfolding next_of latching asked with_tables table_of get_next part_of part_contents sequence_of mask_of
absent = refl

-- ---- the table of a port

-- mapper 0x0601 of port 257
mapped : List Instance → Entities
mapped tables = record nothing {
  mappers = record {
    number = 0x0601;
    values = (1 ∷ 1 ∷ []) ∷ (5 ∷ 1 ∷ []) ∷ (5 ∷ 1 ∷ []) ∷ (5 ∷ 1 ∷ []) ∷ (5 ∷ 1 ∷ []) ∷ (5 ∷ 1 ∷ []) ∷ (5 ∷ 1 ∷ []) ∷ (5 ∷ 1 ∷ []) ∷ (5 ∷ 1 ∷ []) ∷ (1 ∷ []) ∷ padded 24 [] ∷ (0 ∷ []) ∷ (1 ∷ []) ∷ [];
    entries = [];
  } ∷ [];
  vlans = tables;
}

-- one of the mapper counts, one of another mapper doesn't, and one of the port stands before them
of_mapper : table_of_port (mapped (table_of 0x0700 1 6 2 ∷ table_of 0x0701 1 6 1 ∷ [])) 257 ≡ Some 0x0701
unfolding mapped table_of
of_mapper = refl

of_port : table_of_port (mapped (table_of 0x0701 1 6 1 ∷ table_of 0x0702 2 1 1 ∷ [])) 257 ≡ Some 0x0702
unfolding mapped table_of
of_port = refl

of_neither : table_of_port (mapped (table_of 0x0701 1 6 2 ∷ table_of 0x0702 2 1 2 ∷ [])) 257 ≡ None
unfolding mapped table_of
of_neither = refl
