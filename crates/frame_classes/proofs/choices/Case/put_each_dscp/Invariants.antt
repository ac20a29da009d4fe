use Rattle.std.proofs.Common.{◌≡◌, ◌*◌, ◌^◌, ◌<◌, ◌≤◌, ◌⊎◌, ℕ, false, Some, length}
use Rattle.std.specs.Prelude.{All, Contains}
use Rattle.frame_rows.specs.Source.{dscp_in}
use Rattle.frame_classes.specs.Choices.{IsUnnamed, is_named}
use Rattle.frame_classes.specs.Splitting.{HasSeveral}
use Rattle.frame_classes.proofs.choices.Case.put_each_dscp.Given as goal

-- as many that aren't named as there are sides for each DSCP that was looked at
abbrev pub invariant-loop-dscp : goal.invariant-loop-dscp
invariant-loop-dscp l =
    record {
      few : length l.choices.items ≤ 3 * l.dscp;
      fit : All (λ c. c < 2 ^ 12) l.choices.items;
      others : (v : ℕ) (d : ℕ) → v < 2 ^ 12 → d < l.dscp → dscp_in l.packet v ≡ Some d → is_named l.self.rows.now l.self.left.now l.field v ≡ false
          → Contains l.choices.items v ⊎ HasSeveral (length l.self.sides.now.sides.now)
          (λ c. Contains l.choices.items c × IsUnnamed l.self.rows.now l.self.left.now l.field l.packet (Some d) c);
    }
