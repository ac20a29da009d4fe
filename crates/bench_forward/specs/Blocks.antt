-- The blocks of a capture in the pcapng format as they are written here: numbers have their lowest byte first, and what isn't a
-- multiple of four bytes is padded with zeros.
use Rattle.std.specs.Prelude.{ℕ, ◌+◌, ◌-◌, ◌/◌, ◌%◌, ◌^◌, List, [], ◌∷◌, ◌++◌, length, replicate, codes}
use Rattle.std.specs.Fmt.{decimal}
use Rattle.byteorder.specs.Endian.{little_bytes}
use Rattle.capture.specs.Limits.{ethernet_link}

-- how many zeros make a length a multiple of four
abbrev pub padding : ℕ → ℕ
padding size = (4 - size % 4) % 4

-- bytes, and the zeros behind them
abbrev pub padded : List ℕ → List ℕ
padded bytes = bytes ++ replicate (padding (length bytes)) 0

-- a block: its type, its length, its body, and its length again, which counts all of these
unfoldable pub block : ℕ → List ℕ → List ℕ
block kind body =
    little_bytes 4 kind ++ little_bytes 4 (length body + 12) ++ body ++ little_bytes 4 (length body + 12)

-- an option: its code, the length of its value, and its value
unfoldable pub option : ℕ → List ℕ → List ℕ
option code value = little_bytes 2 code ++ little_bytes 2 (length value) ++ padded value

-- ---- those that are written

-- a section header: the byte order mark, version 1.0, and a section of unknown length
unfoldable pub section_block : List ℕ
section_block =
    block 0x0a0d0d0a (little_bytes 4 0x1a2b3c4d ++ little_bytes 2 1 ++ little_bytes 2 0 ++ replicate 8 255)

-- an interface of this name: link type of Ethernet; two reserved bytes; no snap length; the name (option 2, if_name), times in
-- nanoseconds (option 9, if_tsresol), and the end of the options
unfoldable pub named_interface : List ℕ → List ℕ
named_interface name =
    block 1
    (little_bytes 2 ethernet_link ++ little_bytes 2 0 ++ little_bytes 4 0 ++ option 2 name ++ option 9 (9 ∷ []) ++ option 0 [])

-- the one that stands for a GEM port
unfoldable pub interface_block : ℕ → List ℕ
interface_block gem = named_interface (codes "gem " ++ decimal gem)

-- the one that stands for a port
unfoldable pub port_block : ℕ → List ℕ
port_block port = named_interface (codes "port " ++ decimal port)

-- a packet of an interface: its number, the high and the low half of the time, how many bytes are stored and how many the frame had,
-- the bytes, a comment (option 1, opt_comment), and the end of the options
unfoldable pub packet_block : ℕ → ℕ → ℕ → List ℕ → List ℕ → List ℕ
packet_block interface time original bytes comment =
    block 6
    (little_bytes 4 interface ++ little_bytes 4 (time / 2 ^ 32) ++ little_bytes 4 (time % 2 ^ 32) ++ little_bytes 4 (length bytes)
    ++ little_bytes 4 original ++ padded bytes ++ option 1 comment ++ option 0 [])
