-- Worked examples, computed.
use Rattle.std.proofs.Common.{◌≡◌, ℕ, List, [], ◌∷◌, refl}
use Rattle.mib_state.specs.Entities.{Entities}
use Rattle.mib_upload.specs.Rows.{rows_of, attributes}

-- an instance of each class
one_of_each : Entities
one_of_each = record {
  sync = 4;
  mappers = record {
    number = 0x0601;
    values = (1 ∷ 1 ∷ []) ∷ (5 ∷ 1 ∷ []) ∷ (5 ∷ 1 ∷ []) ∷ (5 ∷ 1 ∷ []) ∷ (5 ∷ 1 ∷ []) ∷ (5 ∷ 1 ∷ []) ∷ (5 ∷ 1 ∷ []) ∷ (5 ∷ 1 ∷ []) ∷ (5 ∷ 1 ∷ []) ∷ (1 ∷ []) ∷ zeros ∷ (0 ∷ []) ∷ (1 ∷ []) ∷ [];
    entries = [];
  } ∷ [];
  vlans = record {
    number = 0x0701;
    values = (2 ∷ []) ∷ (0 ∷ 128 ∷ []) ∷ (0x81 ∷ 0 ∷ []) ∷ (0x81 ∷ 0 ∷ []) ∷ (0 ∷ []) ∷ [] ∷ (1 ∷ 1 ∷ []) ∷ zeros ∷ [];
    entries = [];
  } ∷ [];
  interworks = record {
    number = 0x0501;
    values = (4 ∷ 1 ∷ []) ∷ (5 ∷ []) ∷ (6 ∷ 1 ∷ []) ∷ (0 ∷ 0 ∷ []) ∷ (0 ∷ []) ∷ (0 ∷ []) ∷ (0 ∷ 0 ∷ []) ∷ (0 ∷ []) ∷ [];
    entries = [];
  } ∷ [];
  gem_ports = record {
    number = 0x0401;
    values = (4 ∷ 0 ∷ []) ∷ (0x80 ∷ 1 ∷ []) ∷ (3 ∷ []) ∷ (0 ∷ 0 ∷ []) ∷ (0 ∷ 0 ∷ []) ∷ (0 ∷ []) ∷ (0 ∷ 0 ∷ []) ∷ (0 ∷ []) ∷ (0 ∷ 0 ∷ []) ∷ (0 ∷ []) ∷ [];
    entries = [];
  } ∷ [];
}
  where
    zeros : List ℕ
    zeros = 0 ∷ 0 ∷ 0 ∷ 0 ∷ 0 ∷ 0 ∷ 0 ∷ 0 ∷ 0 ∷ 0 ∷ 0 ∷ 0 ∷ 0 ∷ 0 ∷ 0 ∷ 0 ∷ 0 ∷ 0 ∷ 0 ∷ 0 ∷ 0 ∷ 0 ∷ 0 ∷ 0 ∷ []

-- class 130 has two rows, of 19 and 26 bytes, and class 171 two, of 10 and 24
rows : rows_of one_of_each ≡
    record { class = 2; instance = 0; mask = 0x8000; values = 4 ∷ [] }
    ∷ record { class = 130; instance = 0x0601; mask = 0xffc0; values = 1 ∷ 1 ∷ 5 ∷ 1 ∷ 5 ∷ 1 ∷ 5 ∷ 1 ∷ 5 ∷ 1 ∷ 5 ∷ 1 ∷ 5 ∷ 1 ∷ 5 ∷ 1 ∷ 5 ∷ 1 ∷ 1 ∷ [] }
    ∷ record { class = 130; instance = 0x0601; mask = 0x0038; values = 0 ∷ 0 ∷ 0 ∷ 0 ∷ 0 ∷ 0 ∷ 0 ∷ 0 ∷ 0 ∷ 0 ∷ 0 ∷ 0 ∷ 0 ∷ 0 ∷ 0 ∷ 0 ∷ 0 ∷ 0 ∷ 0 ∷ 0 ∷ 0 ∷ 0 ∷ 0 ∷ 0 ∷ 0 ∷ 1 ∷ [] }
    ∷ record { class = 171; instance = 0x0701; mask = 0xfa00; values = 2 ∷ 0 ∷ 128 ∷ 0x81 ∷ 0 ∷ 0x81 ∷ 0 ∷ 0 ∷ 1 ∷ 1 ∷ [] }
    ∷ record { class = 171; instance = 0x0701; mask = 0x0100; values = 0 ∷ 0 ∷ 0 ∷ 0 ∷ 0 ∷ 0 ∷ 0 ∷ 0 ∷ 0 ∷ 0 ∷ 0 ∷ 0 ∷ 0 ∷ 0 ∷ 0 ∷ 0 ∷ 0 ∷ 0 ∷ 0 ∷ 0 ∷ 0 ∷ 0 ∷ 0 ∷ 0 ∷ [] }
    ∷ record { class = 266; instance = 0x0501; mask = 0xff00; values = 4 ∷ 1 ∷ 5 ∷ 6 ∷ 1 ∷ 0 ∷ 0 ∷ 0 ∷ 0 ∷ 0 ∷ 0 ∷ 0 ∷ [] }
    ∷ record { class = 268; instance = 0x0401; mask = 0xffc0; values = 4 ∷ 0 ∷ 0x80 ∷ 1 ∷ 3 ∷ 0 ∷ 0 ∷ 0 ∷ 0 ∷ 0 ∷ 0 ∷ 0 ∷ 0 ∷ 0 ∷ 0 ∷ 0 ∷ [] }
    ∷ []
unfolding one_of_each rows_of attributes
rows = refl
