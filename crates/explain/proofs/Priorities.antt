-- The priority of a frame, and its origin.
use Rattle.std.proofs.Common.{◌≡◌, ◌==◌, ℕ, Bool, true, false, List, [], ◌∷◌, Option, Some, None, refl}
use Rattle.tag_view.specs.Tag.{TagFields}
use Rattle.pmapper.specs.Mapper.{Unmarked, priority_of}
use Rattle.explain.specs.Priority.{priority_from, priority_origin, HasTruePriority}

by_origin : (unmarked : Unmarked) (tags : List TagFields) (dscp : Option ℕ)
    → priority_of unmarked tags dscp ≡ priority_from (priority_origin unmarked tags dscp) unmarked tags
unfolding priority_of
by_origin unmarked (outermost ∷ inner) dscp = refl
by_origin unmarked [] dscp = by_option (unmarked.option == 0) refl dscp
  where
    by_option : (b : Bool) → (unmarked.option == 0) ≡ b → (dscp : Option ℕ)
        → priority_of unmarked [] dscp ≡ priority_from (priority_origin unmarked [] dscp) unmarked []
    by_option true is None = rw is refl
    by_option true is (Some dscp) = rw is refl
    by_option false is dscp = rw is refl

pub true_priority : HasTruePriority
true_priority = record { priority = by_origin }
