-- Whether a frame ends, by a verdict, as it was seen to. Of the frame that was sent and of the one that was seen all bytes are known, or a
-- front.
use Rattle.std.specs.Prelude.{◌≡◌, ℕ, ◌-◌, ◌==◌, ◌&&◌, ◌||◌, Bool, true, List, ◌++◌, if◌then◌else◌, length, nat_eq, nat_le, nat_lt, replicate}
use Rattle.std.specs.List.{starts_with}
use Rattle.tag_view.specs.Frame.{frame_bytes}
use Rattle.frame_meaning.specs.declared.verdict.Verdict.{Verdict}
use Rattle.frame_meaning.specs.declared.verdict.Verdict.TheVariants.{Forward, Drop}
use Rattle.bench_history.specs.declared.extent.Extent.{Extent}
use Rattle.bench_history.specs.declared.extent.Extent.TheVariants.{Whole, Front}
use Rattle.bench_history.specs.declared.gem.SeenGem.{SeenGem}
use Rattle.bench_history.specs.declared.gem.SeenGem.TheVariants.{Port, Any}
use Rattle.bench_history.specs.declared.event.Event.{Event}
use Rattle.bench_history.specs.declared.event.Event.TheVariants.{Left, Dropped, Lost}

-- whether what is known of a frame decides what becomes of it: all of it does, and a front of 24 bytes, since it has the addresses, two
-- tags, the type and the DSCP
abbrev pub is_enough : Extent → List ℕ → Bool
is_enough Whole bytes = true
is_enough Front bytes = nat_le 24 (length bytes)

-- a frame with zeros behind it, up to n bytes; a longer one as it is
abbrev pub padded_to : ℕ → List ℕ → List ℕ
padded_to n frame = frame ++ replicate (n - length frame) 0

-- the most that may be seen of a frame that leaves: with padding 68 bytes of a shorter one, as a wire pads to 60 bytes before two tags are
-- added
abbrev pub most_of : Bool → List ℕ → List ℕ
most_of padded frame = if padded then padded_to 68 frame else frame

-- whether what is known of a frame that leaves and what was seen of one agree: they are the same as far as both go; where one is whole and
-- the other a front, the whole one is longer; where both are whole, they are the same, but for padding
abbrev pub agree : Bool → Extent → List ℕ → Extent → List ℕ → Bool
agree padded Whole leaves Whole seen = starts_with nat_eq (most_of padded leaves) seen && starts_with nat_eq seen leaves
agree padded Whole leaves Front seen = starts_with nat_eq (most_of padded leaves) seen && nat_lt (length seen) (length (most_of padded leaves))
agree padded Front leaves Whole seen = starts_with nat_eq seen leaves && nat_lt (length leaves) (length seen)
agree padded Front leaves Front seen = starts_with nat_eq leaves seen || starts_with nat_eq seen leaves

-- whether a frame that leaves by a GEM port may be one that was seen to leave: by the same one, or by one that wasn't seen
abbrev pub is_gem : ℕ → SeenGem → Bool
is_gem gem (Port seen) = gem == seen
is_gem gem Any = true

-- a verdict is what was seen, of a frame that is known to this extent: it leaves by that GEM port, and what is known of it agrees with what
-- was seen; or it is dropped, for whatever reason, and was seen to be, or wasn't seen to leave
abbrev pub IsSeenAs : Bool → Verdict → Extent → Event → Type 0
IsSeenAs padded (Forward gem frame) extent (Left seen seen_extent number bytes) =
    (is_gem gem seen ≡ true) × (agree padded extent (frame_bytes frame) seen_extent bytes ≡ true)
IsSeenAs padded (Forward gem frame) extent event = ⊥
IsSeenAs padded (Drop reason) extent (Dropped number) = Unit {0}
IsSeenAs padded (Drop reason) extent (Lost number) = Unit {0}
IsSeenAs padded (Drop reason) extent event = ⊥
