use Rattle.std.proofs.Common.{◌≤◌, length, drop, arith, length-drop}
use Rattle.std.proofs.lemmas.List.{take_all}
use Rattle.managed_entity.proofs.setting.set_values.Goals as goal

pub returns-clause-values : goal.returns-clause-values
returns-clause-values c = let fits : length (drop 2 c.args.contents.now) ≤ 30 = simp length-drop (omega (arith, c.told-contents)) in take_all 30 (drop 2 c.args.contents.now) fits
