use Rattle.std.proofs.Common.{◌≡◌, ◌≤◌, ◌+◌, ◌-◌, ◌%◌, ◌^◌, drop}
use Rattle.managed_entity.specs.Mask.{unwritable_of}
use Rattle.managed_entity.proofs.setting.unwritable.Given as goal

abbrev pub invariant-loop-place : goal.invariant-loop-place
invariant-loop-place l = record {
  done : l.unwritable + unwritable_of l.mask l.place (drop l.place l.layout) ≡ unwritable_of l.mask 0 l.layout;
  bits : l.unwritable + l.mask % 2 ^ (16 - l.place) ≤ l.mask;
}
