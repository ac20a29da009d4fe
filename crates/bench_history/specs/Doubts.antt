-- What is kept of the events that say that one of several frames left.
use Rattle.std.specs.Prelude.{◌≡◌, ℕ, ◌-◌, ◌==◌, ◌&&◌, Bool, if◌then◌else◌, true, false, List, [], ◌∷◌, length, map, nat_le, slice_index_or}
use Rattle.std.specs.List.{count_by, list_all, list_any}
use Rattle.bench_history.specs.Among.{are_in_order}
use Rattle.bench_history.specs.History.{are_among, have_left, is_among}
use Rattle.bench_history.specs.declared.doubts.Doubt.{Doubt}
use Rattle.bench_history.specs.declared.doubts.Doubts.{Doubts}

-- a doubt, behind one more event that says so of some frames
abbrev pub raised : List ℕ → Doubt → Doubt
raised frames doubt = record doubt { missing = if are_among doubt.frames.items frames then doubt.missing - 1 else doubt.missing }

-- whether a doubt misses no event, and is about the frame of a number
abbrev pub settles : ℕ → Doubt → Bool
settles n doubt = doubt.missing == 0 && is_among doubt.frames.items n

-- whether each doubt reaches as far as its frames and as the doubt before it, the first as far as a number
abbrev pub reach_on : ℕ → List Doubt → Bool
reach_on far [] = true
reach_on far (doubt ∷ doubts) = nat_le far doubt.reach && (list_all (λ n. nat_le n doubt.reach) doubt.frames.items && reach_on doubt.reach doubts)

-- the last of numbers, or another where there is none
abbrev pub last_or : ℕ → List ℕ → ℕ
last_or n [] = n
last_or n (m ∷ numbers) = last_or m numbers

-- how far doubts reach: as far as the last
abbrev pub reach_of : List Doubt → ℕ
reach_of doubts = last_or 0 (map (λ doubt. doubt.reach) doubts)

-- the frames of each
abbrev pub frames_of : List Doubt → List (List ℕ)
frames_of doubts = map (λ doubt. doubt.frames.items) doubts

-- how many doubts that name only frames among some are missing until there are as many as these
abbrev pub missing_of : List (List ℕ) → List ℕ → ℕ
missing_of named frames = length frames - count_by (are_among frames) named

-- the frames of each event, how many more it misses and how far it reaches, and of each frame whether it is doubtful and whether it is used up
pub record IsDoubted (named : List (List ℕ)) (kept : Doubts) : Type 0 where
  pub frames : frames_of kept.doubts.items ≡ named
  pub missing : map (λ doubt. doubt.missing) kept.doubts.items ≡ map (missing_of named) named
  pub in_order : list_all are_in_order named ≡ true
  pub reach : reach_on 0 kept.doubts.items ≡ true
  pub doubtful : (n : ℕ) → slice_index_or kept.doubtful.items n false ≡ list_any (λ frames. is_among frames n) named
  pub used_up : (n : ℕ) → slice_index_or kept.used_up.items n false ≡ list_any (λ frames. is_among frames n && have_left frames named) named
