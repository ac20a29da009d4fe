use Rattle.std.proofs.Common.{◌≤◌, ◌<◌, length, sym, ◌∙◌, arith}
use Rattle.vlan_rule.specs.Table.{table_max_size}
use Rattle.vlan_rule.proofs.Places.{put-adds, put-deletes, put-finds-none, put-is_full, put-refuses, put-replaces}
use Rattle.vlan_rule.proofs.table.RuleTable.edit.Goals as goal

pub returns-in-Some : goal.returns-in-Some
returns-in-Some c =
    put-deletes c.args.self.now c.args.entry.now.0 c.in-Some.at (sym c.is_deletion.ensures ∙ c.if-is_deletion.true) (sym c.in-Some.ensures)

pub returns-in-None : goal.returns-in-None
returns-in-None c =
    put-finds-none c.args.self.now c.args.entry.now.0 (sym c.is_deletion.ensures ∙ c.if-is_deletion.true) (sym c.in-None.ensures)

pub returns-in-Err : goal.returns-in-Err
returns-in-Err c =
    put-refuses c.args.self.now c.args.entry.now.0 c.in-Err.fault (sym c.is_deletion.ensures ∙ c.if-is_deletion.false) c.in-Err.ensures

pub returns-in-Some-place : goal.returns-in-Some-place
returns-in-Some-place c =
    put-replaces c.args.self.now c.args.entry.now.0 c.in-Ok.rule c.in-Some-place.at (sym c.is_deletion.ensures ∙ c.if-is_deletion.false) c.in-Ok.ensures (sym c.in-Some-place.ensures)

pub returns-in-None-place : goal.returns-in-None-place
returns-in-None-place c =
    let free : length c.args.self.now < table_max_size = omega arith in
    put-adds c.args.self.now c.args.entry.now.0 c.in-Ok.rule (sym c.is_deletion.ensures ∙ c.if-is_deletion.false) c.in-Ok.ensures (sym c.in-None-place.ensures) free

pub returns-in-None-2 : goal.returns-in-None-2
returns-in-None-2 c =
    let full : table_max_size ≤ length c.args.self.now = omega arith in
    put-is_full c.args.self.now c.args.entry.now.0 c.in-Ok.rule (sym c.is_deletion.ensures ∙ c.if-is_deletion.false) c.in-Ok.ensures (sym c.in-None-2.ensures) full
