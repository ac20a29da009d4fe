-- The lines that say what comes of frames.
use Rattle.std.specs.Prelude.{ℕ, List, [], ◌∷◌, ◌++◌, Option, Some, None, codes, if◌then◌else◌}
use Rattle.std.specs.Fmt.{decimal}
use Rattle.std.specs.List.{flat_map}
use Rattle.byteorder.specs.Endian.{big_bytes}
use Rattle.hex.specs.Hex.{encode_lower}
use Rattle.tag_view.specs.Tag.{TagFields}
use Rattle.frame_meaning.specs.Reason.{number_of_reason}
use Rattle.frame_meaning.specs.declared.verdict.Verdict.{Verdict}
use Rattle.frame_meaning.specs.declared.verdict.Verdict.TheVariants.{Forward, Drop}

-- the GEM port by which a frame leaves, or the reason to drop it
abbrev pub verdict_words : Verdict → List ℕ
verdict_words (Forward gem frame) = codes "g " ++ decimal gem
verdict_words (Drop reason) = codes "d " ++ decimal (number_of_reason reason)

-- the entry that was used, if one was
abbrev pub entry_words : Option ℕ → List ℕ
entry_words None = []
entry_words (Some number) = codes " entry " ++ decimal number

-- a tag: its TPID in four hexadecimal digits, its priority, its DEI and its VID
unfoldable pub tag_words : TagFields → List ℕ
tag_words tag =
    codes " tag=" ++ encode_lower (big_bytes 2 tag.tpid) ++ codes ":" ++ decimal tag.pcp ++ (if tag.dei then codes ":1:" else codes ":0:")
    ++ decimal tag.vid

-- tags, outermost first
abbrev pub tags_words : List TagFields → List ℕ
tags_words [] = codes " untagged"
tags_words (tag ∷ tags) = tag_words tag ++ flat_map tag_words tags

-- those with which a frame leaves
abbrev pub leaving_words : Verdict → List ℕ
leaving_words (Forward gem frame) = tags_words frame.tags
leaving_words (Drop reason) = []

-- the line of the frame of this number
unfoldable pub verdict_line : ℕ → Verdict → Option ℕ → List ℕ
verdict_line n verdict entry = decimal n ++ 32 ∷ [] ++ verdict_words verdict ++ entry_words entry ++ leaving_words verdict ++ 10 ∷ []
