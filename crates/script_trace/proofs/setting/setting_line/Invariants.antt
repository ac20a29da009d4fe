use Rattle.std.proofs.Common.{◌≡◌, None, drop}
use Rattle.script_trace.specs.Setting.{last_setting}
use Rattle.script_trace.proofs.setting.setting_line.Given as goal

abbrev pub invariant-loop-each : goal.invariant-loop-each
invariant-loop-each l = last_setting l.instance l.key l.line (drop l.each-index l.accepted) ≡ last_setting l.instance l.key None l.accepted
