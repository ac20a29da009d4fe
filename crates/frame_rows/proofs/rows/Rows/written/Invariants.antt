use Rattle.std.proofs.Common.{◌≡◌, map, take}
use Rattle.tag_view.specs.Word.{tag_of}
use Rattle.frame_rows.proofs.rows.Rows.written.Given as goal

-- the tags of the words that were looked at
abbrev pub invariant-loop-word : goal.invariant-loop-word
invariant-loop-word l = l.tags.items ≡ map tag_of (take l.word-index l.word-items)
