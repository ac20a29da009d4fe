use Rattle.std.proofs.Common.{◌≡◌, ◌≤◌, ◌+◌, ◌*◌, drop}
use Rattle.managed_entity.specs.Mask.{named_width}
use Rattle.managed_entity.proofs.setting.named_width.Given as goal

abbrev pub invariant-loop-place : goal.invariant-loop-place
invariant-loop-place l = record {
  done : l.width + named_width l.mask l.place (drop l.place l.layout) ≡ named_width l.mask 0 l.layout;
  small : l.width ≤ 255 * l.place;
}
