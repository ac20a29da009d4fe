-- A mapping in which one DSCP has a priority of its own (ITU-T G.988, clause 9.3.13, DSCP to P-bit mapping).
use Rattle.std.specs.Prelude.{ℕ, ◌+◌, ◌-◌, ◌*◌, ◌/◌, ◌%◌, ◌^◌, List, if◌then◌else◌, nat_lt, replicate, slice_set}

-- the group of a priority among eight
abbrev pub eighth : ℕ → ℕ → ℕ
eighth dscp priority = priority * 2 ^ (3 * (7 - dscp % 8))

-- three bytes in place of those of eight DSCPs, all others 0
abbrev pub three_bytes : ℕ → ℕ → List ℕ
three_bytes place group =
    slice_set (slice_set (slice_set (replicate 24 0) place (group / 0x10000)) (place + 1) (group / 0x100 % 0x100)) (place + 2) (group % 0x100)

-- the DSCP has the priority, and each other one 0
unfoldable pub only_map : ℕ → ℕ → List ℕ
only_map dscp priority = if nat_lt dscp 64 then three_bytes (3 * (dscp / 8)) (eighth dscp priority) else replicate 24 0
