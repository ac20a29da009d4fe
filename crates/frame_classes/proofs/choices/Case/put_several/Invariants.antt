use Rattle.std.proofs.Common.{◌≡◌, ◌+◌, ◌%◌, ◌<◌, [], false, length}
use Rattle.std.specs.Prelude.{All}
use Rattle.frame_classes.proofs.Several.{AreTried}
use Rattle.frame_classes.proofs.choices.Case.put_several.Given as goal

-- those that were looked at, which are different
abbrev pub invariant-loop-number : goal.invariant-loop-number
invariant-loop-number l =
    record {
      count : length l.choices.items ≡ l.number;
      fit : All (λ c. c < l.end) l.choices.items;
      tried : AreTried (λ k. (l.plain + k) % l.end) (λ _. false) [] l.choices.items l.number;
    }
