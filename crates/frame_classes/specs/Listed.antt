-- What is told of frames, as it is listed.
use Rattle.std.specs.Prelude.{ℕ, List, map}
use Rattle.frame_rows.specs.declared.class.FrameClass.{FrameClass}
use Rattle.frame_classes.specs.declared.told.Told.{Told}
use Rattle.frame_classes.specs.declared.told.Told.TheVariants.{One, Two, Three}

-- the classes of how many configurations are told
abbrev pub count_told : Told → ℕ
count_told (One class) = 1
count_told (Two before after) = 2
count_told (Three before here after) = 3

abbrev pub of_one : FrameClass → Told
of_one class = One class

abbrev pub of_two : FrameClass × FrameClass → Told
of_two pair = Two pair.0 pair.1

abbrev pub of_three : FrameClass × FrameClass × FrameClass → Told
of_three triple = Three triple.0 triple.1 triple.2

-- what classes tell, each beside its frame
abbrev pub tell : {X : Type 0} → (X → Told) → List (X × List ℕ) → List (Told × List ℕ)
tell told list = map (λ each. (told each.0, each.1)) list
