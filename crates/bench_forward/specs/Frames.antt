-- What comes of the frames of a capture that come in at a port: what is written of them, and what is counted.
use Rattle.std.specs.Prelude.{ℕ, ◌+◌, Bool, List, [], ◌∷◌, ◌++◌, count_by, length, map, nat_lt}
use Rattle.tag_view.specs.Frame.{frame_bytes}
use Rattle.mib_state.specs.Entities.{Entities}
use Rattle.frame_meaning.specs.Meaning.{meaning}
use Rattle.frame_meaning.specs.declared.verdict.Verdict.{Verdict}
use Rattle.frame_meaning.specs.declared.verdict.Verdict.TheVariants.{Forward, Drop}
use Rattle.bench_capture.specs.Recorded.{Recorded}
use Rattle.bench_forward.specs.Drops.{dropped_by, drops_header}
use Rattle.bench_forward.specs.Entries.{entry_number}
use Rattle.bench_forward.specs.Lines.{verdict_line}
use Rattle.bench_forward.specs.Packets.{Leaving, packet_file}
use Rattle.bench_forward.specs.Totals.{AreTotals}
use Rattle.bench_forward.specs.declared.totals.Totals.{Totals}

-- ---- one frame

-- what leaves with a verdict on the frame of this number, whose record has this time
abbrev pub left_by : ℕ → ℕ → Verdict → List Leaving
left_by n time (Forward gem frame) = record { number = n; gem = gem; time = time; bytes = frame_bytes frame } ∷ []
left_by n time (Drop reason) = []

-- what the entities mean for it: the stored bytes are looked at
abbrev pub verdict_on : Entities → ℕ → Recorded → Verdict
verdict_on e port frame = meaning e port frame.bytes

-- the capture stores fewer bytes than the frame had
abbrev pub is_cut : Recorded → Bool
is_cut frame = nat_lt (length frame.bytes) frame.original

-- ---- all frames

abbrev pub verdicts_on : Entities → ℕ → List Recorded → List Verdict
verdicts_on e port frames = map (verdict_on e port) frames

-- the frames that leave, with the times of their records, where the first frame has this number
abbrev pub leaving_from : ℕ → Entities → ℕ → List Recorded → List Leaving
leaving_from n e port [] = []
leaving_from n e port (frame ∷ frames) = left_by n frame.time (verdict_on e port frame) ++ leaving_from (n + 1) e port frames

-- those of all frames, which are numbered from 1
abbrev pub leaving : Entities → ℕ → List Recorded → List Leaving
leaving e port frames = leaving_from 1 e port frames

-- their capture
unfoldable pub packets_of : Entities → ℕ → List Recorded → List ℕ
packets_of e port frames = packet_file (leaving e port frames)

-- what is written of the frames that are dropped, where the first frame has this number
abbrev pub drops_from : ℕ → Entities → ℕ → List Recorded → List ℕ
drops_from n e port [] = []
drops_from n e port (frame ∷ frames) = dropped_by n frame (verdict_on e port frame) ++ drops_from (n + 1) e port frames

-- the capture of those
unfoldable pub drops_of : Entities → ℕ → List Recorded → List ℕ
drops_of e port frames = drops_header port ++ drops_from 1 e port frames

-- the lines of the verdicts, where the first frame has this number
abbrev pub lines_from : ℕ → Entities → ℕ → List Recorded → List ℕ
lines_from n e port [] = []
lines_from n e port (frame ∷ frames) =
    verdict_line n (verdict_on e port frame) (entry_number e port frame.bytes) ++ lines_from (n + 1) e port frames

-- those of all frames, which are numbered from 1
abbrev pub lines_of : Entities → ℕ → List Recorded → List ℕ
lines_of e port frames = lines_from 1 e port frames

-- these totals are those of the frames
abbrev pub AreTotalsOf : Entities → ℕ → List Recorded → Totals → Type 0
AreTotalsOf e port frames t = AreTotals (verdicts_on e port frames) (count_by is_cut frames) t
