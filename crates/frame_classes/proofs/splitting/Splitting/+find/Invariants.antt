use Rattle.std.proofs.Common.{◌-◌, map}
use Rattle.std.specs.Prelude.{All}
use Rattle.frame_rows.specs.declared.field.Field.TheVariants.{Length}
use Rattle.frame_rows.specs.Field.{value_at}
use Rattle.frame_classes.specs.Splitting.{AreMore, AreWanted, CanBe}
use Rattle.frame_classes.specs.Told.{side_by}
use Rattle.frame_classes.proofs.Going.{AreGoing}
use Rattle.frame_classes.proofs.splitting.Splitting.+find.Given as goal

-- the fields that are left
abbrev pub decreases-find : goal.decreases-find
decreases-find l = 11 - l.level

-- what was found by the values that were looked at, and what the others keep
abbrev pub invariant-loop-value : goal.invariant-loop-value
invariant-loop-value l =
    let sides = map side_by l.self.sides.now.sides.now in
    record {
      more : AreMore sides l.self.least l.fn.found.samples.items l.found.samples.items;
      going : AreGoing sides l.self.wanted l.self.least l.field l.values l.found.samples.items l.value-iterator.rest.now;
      wanted : AreWanted l.self.wanted l.fn.found.samples.items → AreWanted l.self.wanted l.found.samples.items;
      within : All (CanBe l.self.least (value_at Length l.values) l.field) l.value-iterator.rest.now;
    }
