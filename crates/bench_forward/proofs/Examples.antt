-- Worked examples, computed.
use Rattle.std.proofs.Common.{◌≡◌, ◌^◌, ◌+◌, ◌*◌, [], ◌∷◌, ◌++◌, refl}
use Rattle.std.specs.Prelude.{Some, None, codes, true, false}
use Rattle.frame_meaning.specs.declared.reason.Reason.TheVariants.{Runt, NoRule, RuleDiscard, NoMapper}
use Rattle.frame_meaning.specs.declared.verdict.Verdict.TheVariants.{Forward, Drop}
use Rattle.hex.specs.Hex.{encode_with}
use Rattle.bench_forward.specs.Comments.{dropped_comment, leaving_comment}
use Rattle.bench_forward.specs.Lines.{tag_words, verdict_line}
use Rattle.bench_forward.specs.Totals.{first_dropped}
use Rattle.std.specs.Fmt.{digits}
use Rattle.bench_forward.specs.Blocks.{block, interface_block, named_interface, option, packet_block, port_block, section_block}
use Rattle.bench_forward.specs.Packets.{blocks_of, packet_file}

section_bytes : section_block ≡ 0x0a ∷ 0x0d ∷ 0x0d ∷ 0x0a ∷ 28 ∷ 0 ∷ 0 ∷ 0 ∷ 0x4d ∷ 0x3c ∷ 0x2b ∷ 0x1a ∷ 1 ∷ 0 ∷ 0 ∷ 0 ∷ 255 ∷ 255 ∷ 255 ∷ 255 ∷ 255 ∷ 255 ∷ 255 ∷ 255 ∷ 28 ∷ 0 ∷ 0 ∷ 0 ∷ []
unfolding section_block block
section_bytes = refl

-- its name has eight bytes, "gem 1024"
interface_bytes : interface_block 1024 ≡
    1 ∷ 0 ∷ 0 ∷ 0 ∷ 44 ∷ 0 ∷ 0 ∷ 0 ∷ 1 ∷ 0 ∷ 0 ∷ 0 ∷ 0 ∷ 0 ∷ 0 ∷ 0
    ∷ 2 ∷ 0 ∷ 8 ∷ 0 ∷ 0x67 ∷ 0x65 ∷ 0x6d ∷ 0x20 ∷ 0x31 ∷ 0x30 ∷ 0x32 ∷ 0x34
    ∷ 9 ∷ 0 ∷ 1 ∷ 0 ∷ 9 ∷ 0 ∷ 0 ∷ 0 ∷ 0 ∷ 0 ∷ 0 ∷ 0 ∷ 44 ∷ 0 ∷ 0 ∷ 0 ∷ []
unfolding interface_block named_interface block option digits
interface_bytes = refl

-- a name of five bytes is padded with three zeros
short_name : interface_block 7 ≡
    1 ∷ 0 ∷ 0 ∷ 0 ∷ 44 ∷ 0 ∷ 0 ∷ 0 ∷ 1 ∷ 0 ∷ 0 ∷ 0 ∷ 0 ∷ 0 ∷ 0 ∷ 0
    ∷ 2 ∷ 0 ∷ 5 ∷ 0 ∷ 0x67 ∷ 0x65 ∷ 0x6d ∷ 0x20 ∷ 0x37 ∷ 0 ∷ 0 ∷ 0
    ∷ 9 ∷ 0 ∷ 1 ∷ 0 ∷ 9 ∷ 0 ∷ 0 ∷ 0 ∷ 0 ∷ 0 ∷ 0 ∷ 0 ∷ 44 ∷ 0 ∷ 0 ∷ 0 ∷ []
unfolding interface_block named_interface block option digits
short_name = refl

-- the interface of a port
port_bytes : port_block 7 ≡
    1 ∷ 0 ∷ 0 ∷ 0 ∷ 44 ∷ 0 ∷ 0 ∷ 0 ∷ 1 ∷ 0 ∷ 0 ∷ 0 ∷ 0 ∷ 0 ∷ 0 ∷ 0
    ∷ 2 ∷ 0 ∷ 6 ∷ 0 ∷ 0x70 ∷ 0x6f ∷ 0x72 ∷ 0x74 ∷ 0x20 ∷ 0x37 ∷ 0 ∷ 0
    ∷ 9 ∷ 0 ∷ 1 ∷ 0 ∷ 9 ∷ 0 ∷ 0 ∷ 0 ∷ 0 ∷ 0 ∷ 0 ∷ 0 ∷ 44 ∷ 0 ∷ 0 ∷ 0 ∷ []
unfolding port_block named_interface block option digits
port_bytes = refl

-- five bytes of nine of interface 3, at 2 * 2 ^ 32 + 258 nanoseconds, with the comment "frame 12"
packet_bytes : packet_block 3 (2 * 2 ^ 32 + 258) 9 (1 ∷ 2 ∷ 3 ∷ 4 ∷ 5 ∷ []) (leaving_comment 12) ≡
    6 ∷ 0 ∷ 0 ∷ 0 ∷ 56 ∷ 0 ∷ 0 ∷ 0 ∷ 3 ∷ 0 ∷ 0 ∷ 0 ∷ 2 ∷ 0 ∷ 0 ∷ 0 ∷ 2 ∷ 1 ∷ 0 ∷ 0 ∷ 5 ∷ 0 ∷ 0 ∷ 0 ∷ 9 ∷ 0 ∷ 0 ∷ 0
    ∷ 1 ∷ 2 ∷ 3 ∷ 4 ∷ 5 ∷ 0 ∷ 0 ∷ 0
    ∷ 1 ∷ 0 ∷ 8 ∷ 0 ∷ 0x66 ∷ 0x72 ∷ 0x61 ∷ 0x6d ∷ 0x65 ∷ 0x20 ∷ 0x31 ∷ 0x32 ∷ 0 ∷ 0 ∷ 0 ∷ 0 ∷ 56 ∷ 0 ∷ 0 ∷ 0 ∷ []
unfolding packet_block block option digits
packet_bytes = refl

-- why a frame was dropped
dropped_words : dropped_comment 12 RuleDiscard ≡ codes "frame 12: drop 4"
unfolding digits
dropped_words = refl

-- the second GEM port has interface 1, and the first one's isn't described again
two_gem_ports :
    packet_file (
    record { number = 1; gem = 1024; time = 5; bytes = 1 ∷ [] } ∷ record { number = 2; gem = 7; time = 6; bytes = [] }
    ∷ record { number = 4; gem = 1024; time = 7; bytes = 2 ∷ [] } ∷ []
    ) ≡
    section_block
    ++ (interface_block 1024 ++ packet_block 0 5 1 (1 ∷ []) (leaving_comment 1)
    ++ (interface_block 7 ++ packet_block 1 6 0 [] (leaving_comment 2) ++ (packet_block 0 7 1 (2 ∷ []) (leaving_comment 4) ++ [])))
unfolding packet_file blocks_of
two_gem_ports = refl

-- the lines of two verdicts, the second without an entry
discarded_line : verdict_line 12 (Drop RuleDiscard) (Some 3) ≡ codes "12 d 4 entry 3" ++ 10 ∷ []
unfolding verdict_line digits
discarded_line = refl

unmapped_line : verdict_line 1 (Drop NoMapper) None ≡ codes "1 d 5" ++ 10 ∷ []
unfolding verdict_line digits
unmapped_line = refl

-- a frame that leaves with two tags, and one that leaves without a tag
tagged_line :
    verdict_line 3
    (Forward 1024 (record {
      addresses = [];
      tags = record { tpid = 0x88a8; pcp = 3; dei = true; vid = 100 } ∷ record { tpid = 0x8100; pcp = 0; dei = false; vid = 4095 } ∷ [];
      rest = [];
    }))
    (Some 2) ≡ codes "3 g 1024 entry 2 tag=88a8:3:1:100 tag=8100:0:0:4095" ++ 10 ∷ []
unfolding verdict_line tag_words encode_with digits
tagged_line = refl

untagged_line : verdict_line 8 (Forward 7 (record { addresses = []; tags = []; rest = [] })) None ≡ codes "8 g 7 untagged" ++ 10 ∷ []
unfolding verdict_line digits
untagged_line = refl

-- the second and the fourth of four frames are dropped for a reason
two_are_named : first_dropped Runt (Drop NoRule ∷ Drop Runt ∷ Drop NoRule ∷ Drop Runt ∷ []) ≡ 2 ∷ 4 ∷ []
two_are_named = refl
