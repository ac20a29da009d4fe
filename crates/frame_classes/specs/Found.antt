-- What is told of frames, in its order.
use Rattle.std.specs.Prelude.{ℕ, List, [], ◌∷◌, if◌then◌else◌, ◌==◌, map, nat_lt}
use Rattle.std.specs.List.Sorted.{IsStrictlyIncreasing}
use Rattle.frame_classes.specs.declared.told.Told.{Told}
use Rattle.frame_classes.specs.declared.found.Sample.{Sample}
use Rattle.frame_classes.specs.Told.{told_number}

abbrev pub number_of : Sample → ℕ
number_of sample = told_number sample.told

abbrev pub told_of : List Sample → List Told
told_of samples = map (λ sample. sample.told) samples

-- it ascends
abbrev pub Ascend : List Sample → Type 0
Ascend samples = IsStrictlyIncreasing (map number_of samples)

-- with a sample in its place, unless what it tells is there
abbrev pub put_in : Sample → List Sample → List Sample
put_in new [] = new ∷ []
put_in new (first ∷ rest) =
    if nat_lt (number_of first) (number_of new) then first ∷ put_in new rest
    else (if number_of first == number_of new then first ∷ rest else new ∷ first ∷ rest)
