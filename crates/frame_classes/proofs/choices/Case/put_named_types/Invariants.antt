use Rattle.std.proofs.Common.{◌≡◌, ◌+◌, ◌^◌, ◌<◌, ◌≤◌, ◌⊎◌, ℕ, true, length}
use Rattle.std.specs.Prelude.{All, Contains}
use Rattle.frame_classes.specs.Choices.{is_named}
use Rattle.frame_classes.proofs.choices.Case.put_named_types.Given as goal

-- what was there stays, and what is named by the rows that were looked at is there
abbrev pub invariant-loop-place : goal.invariant-loop-place
invariant-loop-place l =
    record {
      room : length l.choices.items + length l.place-iterator ≤ 600;
      kept : (c : ℕ) → Contains l.initial.choices.items c → Contains l.choices.items c;
      fit : All (λ c. c < 2 ^ 16) l.initial.choices.items → All (λ c. c < 2 ^ 16) l.choices.items;
      named : (c : ℕ) → is_named l.self.rows.now l.self.left.now l.field c ≡ true
          → Contains l.choices.items c ⊎ (is_named l.self.rows.now l.place-iterator l.field c ≡ true);
    }
