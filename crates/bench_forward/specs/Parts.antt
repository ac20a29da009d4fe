-- A packet's block in the parts in which it is written: what stands before the frame's bytes, and what stands behind them.
use Rattle.std.specs.Prelude.{ℕ, ◌+◌, ◌/◌, ◌%◌, ◌^◌, List, [], ◌++◌, length, replicate}
use Rattle.byteorder.specs.Endian.{little_bytes}
use Rattle.bench_forward.specs.Blocks.{option, padding}

-- how long the block of a frame of so many bytes is whose comment has so many
abbrev pub packet_length : ℕ → ℕ → ℕ
packet_length len comment = 40 + len + padding len + comment + padding comment

unfoldable pub packet_front : ℕ → ℕ → ℕ → ℕ → ℕ → List ℕ
packet_front interface time len original comment =
    little_bytes 4 6 ++ little_bytes 4 (packet_length len comment) ++ little_bytes 4 interface ++ little_bytes 4 (time / 2 ^ 32)
    ++ little_bytes 4 (time % 2 ^ 32) ++ little_bytes 4 len ++ little_bytes 4 original

unfoldable pub packet_end : ℕ → List ℕ → List ℕ
packet_end len comment =
    replicate (padding len) 0 ++ option 1 comment ++ option 0 [] ++ little_bytes 4 (packet_length len (length comment))
