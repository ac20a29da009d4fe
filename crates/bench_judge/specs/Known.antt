-- Versions that are known before they are looked for.
use Rattle.std.specs.Prelude.{◌≡◌, ℕ, Bool, List, Option, Some, None, if◌then◌else◌, nat_lt, slice_get, slice_index, take}
use Rattle.omci_msg.specs.declared.request.Request.{Request}
use Rattle.bench_history.specs.declared.event.Event.{Event}
use Rattle.bench_judge.specs.Explained.{IsChoice}
use Rattle.bench_judge.specs.Frames.{MayHave}
use Rattle.bench_judge.specs.Terms.{Terms, ground_in}
use Rattle.bench_judge.specs.declared.frame.Frame.{Frame}
use Rattle.bench_judge.specs.declared.known.Known.{Known}

-- a version, where the end of its frame comes before a place
abbrev pub version_before : ℕ → Option ℕ → ℕ → Option ℕ
version_before place None v = None
version_before place (Some end) v = if nat_lt end place then Some v else None

-- the version that is known of the frame of a number, if one is
abbrev pub known_version : Known → ℕ → Frame → Option ℕ
known_version known n frame = version_before known.until frame.ended (slice_index known.versions.items n)

-- what is known is a choice of the events before its place
abbrev pub IsKnown : Terms → List Event → Known → Type 0
IsKnown terms events known =
    IsChoice (ground_in terms) terms.settings.padded terms.settings.unordered (take known.until events) (slice_index known.versions.items)

-- each frame may have the version that is known of it
abbrev pub AreHeld : Bool → List Event → List Request → List Frame → Known → Type 0
AreHeld padded events requests frames known =
    (n v : ℕ) (frame : Frame) → slice_get frames n ≡ Some frame → known_version known n frame ≡ Some v → MayHave padded events requests frame v
