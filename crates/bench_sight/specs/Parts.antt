-- How what leaves and what was seen of it are compared: by their lengths first.
use Rattle.std.specs.Prelude.{◌≡◌, ℕ, ◌&&◌, Bool, true, List, if◌then◌else◌, length, max, nat_le, nat_lt, replicate}
use Rattle.bench_history.specs.declared.extent.Extent.{Extent}
use Rattle.bench_history.specs.declared.extent.Extent.TheVariants.{Whole, Front}

-- how many bytes may be seen of a frame that leaves with so many
abbrev pub most_length : Bool → ℕ → ℕ
most_length padded leaves = if padded then max leaves 68 else leaves

-- whether so many bytes that leave and so many that were seen may agree
abbrev pub lengths_agree : Bool → Extent → ℕ → Extent → ℕ → Bool
lengths_agree padded Whole leaves Whole seen = nat_le leaves seen && nat_le seen (most_length padded leaves)
lengths_agree padded Whole leaves Front seen = nat_lt seen (most_length padded leaves)
lengths_agree padded Front leaves Whole seen = nat_lt leaves seen
lengths_agree padded Front leaves Front seen = true

-- bytes that were seen behind those that leave may stand there: zeros behind a whole frame, any behind a front
abbrev pub IsPadding : Extent → List ℕ → Type 0
IsPadding Whole behind = behind ≡ replicate (length behind) 0
IsPadding Front behind = Unit {0}
